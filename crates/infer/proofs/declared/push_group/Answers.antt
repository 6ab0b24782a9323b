use Rattle.std.proofs.Common.{◌++◌, map, sym, ap, ◌∙◌, append-nil}
use Rattle.std.proofs.lemmas.List.{map-append}
use Rattle.elm_canon.specs.View.{group_view, declaration_view}
use Rattle.infer.specs.Modules.{groups_in}
use Rattle.infer.proofs.declared.push_group.Goals as goal

pub returns-in-Given : goal.returns-in-Given
returns-in-Given c =
    let old = map (λ g. group_view g.now) c.args.found.now.items in
    sym (append-nil old) ∙ ap (λ d. old ++ groups_in (declaration_view d)) (sym c.in-Given.is)

pub returns-in_ok-push-in-Define : goal.returns-in_ok-push-in-Define
returns-in_ok-push-in-Define c =
    let old = map (λ g. group_view g.now) c.args.found.now.items in
    ap (map (λ g. group_view g.now)) c.in_ok-push-in-Define.ensures.items
    ∙ map-append (λ g. group_view g.now) c.args.found.now.items _
    ∙ ap (λ d. old ++ groups_in (declaration_view d)) (sym c.in-Define.is)

use Rattle.std.proofs.Common.{◌++◌, map, sym, ap, ◌∙◌, append-nil}
use Rattle.std.proofs.lemmas.List.{map-append}
use Rattle.elm_canon.specs.Tree.{groups_of}
use Rattle.elm_canon.specs.View.{group_view, declaration_view}
use Rattle.type_items.specs.Expressions.{definitions}
use Rattle.type_items.specs.Modules.{definitions_in}
use Rattle.infer_order.proofs.Placing.{groups_defined}
use Rattle.infer_order.proofs.order.push_group.Goals as goal

pub returns-in-Given : goal.returns-in-Given
returns-in-Given c =
    let old = definitions (groups_of (map (λ g. group_view g.now) c.args.found.now.items)) in
    sym (append-nil old) ∙ ap (λ d. old ++ definitions_in (declaration_view d)) (sym c.in-Given.is)

pub returns-in_ok-push-in-Define : goal.returns-in_ok-push-in-Define
returns-in_ok-push-in-Define c =
    let old = map (λ g. group_view g.now) c.args.found.now.items in
    ap (λ l. definitions (groups_of (map (λ g. group_view g.now) l))) c.in_ok-push-in-Define.ensures.items
    ∙ ap (λ l. definitions (groups_of l)) (map-append (λ g. group_view g.now) c.args.found.now.items _)
    ∙ groups_defined old (group_view c.in-Define.group)
    ∙ ap (λ d. definitions (groups_of old) ++ definitions_in (declaration_view d)) (sym c.in-Define.is)

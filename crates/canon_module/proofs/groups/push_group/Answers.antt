-- Of one declaration its group, and else the functions together: `many_grouped`.
use Rattle.std.proofs.Common.{[], ◌∷◌, ◌++◌, map, sym, ap, ◌∙◌}
use Rattle.std.proofs.lemmas.Result.{on_ok_weaker}
use Rattle.elm_canon.specs.Tree as canon
use Rattle.elm_canon.specs.View.{declaration_view}
use Rattle.canon_expr.specs.Blocks.{functions_in}
use Rattle.canon_expr.specs.Kept.{taken_at}
use Rattle.canon_expr.proofs.Taking.{count_taken}
use Rattle.canon_module.specs.CanonValuesKept.{item_view, nothing}
use Rattle.canon_module.proofs.Grouping.{many_grouped}
use Rattle.canon_module.proofs.groups.push_group.Goals as goal

pub returns-clause-groups : goal.returns-clause-groups
returns-clause-groups c =
    let items = map item_view c.args.items.now.items in
    let old = map declaration_view c.args.declarations.now.items in
    let taken = taken_at nothing items c.args.members.now in
    on_ok_weaker c.push_functions.result
    (λ told.
    told ∙ ap (λ fs. old ++ canon.Define (canon.Together fs) ∷ [])
    (c.in_ok-functions.ensures ∙ ap functions_in c.in_ok-taken.ensures.taken)
    ∙ ap (λ gs. old ++ gs)
    (many_grouped taken (λ e. c.if-members-eq1.false (sym (count_taken nothing items c.args.members.now) ∙ e))))
    c.push_functions.ensures

-- Of one definition its group, and else the functions together: `many_together`.
use Rattle.std.proofs.Common.{◌++◌, map, refl, sym, ap, ◌∙◌}
use Rattle.std.proofs.lemmas.Result.{on_ok_weaker}
use Rattle.elm_canon.specs.Tree.{Together}
use Rattle.elm_canon.specs.View.{group_view}
use Rattle.elm_canon.proofs.Views as views
use Rattle.canon_env.proofs.Filtering.{pushed}
use Rattle.canon_expr.specs.Blocks.{NoMade, functions_in}
use Rattle.canon_expr.specs.Kept.{made_view, taken_at}
use Rattle.canon_expr.proofs.Taking.{many_together, count_taken}
use Rattle.canon_expr.proofs.groups.push_group.Goals as goal

pub returns-clause-groups : goal.returns-clause-groups
returns-clause-groups c =
    let taken = taken_at NoMade (map made_view c.args.made.now.items) c.args.members.now in
    on_ok_weaker c.put.result (λ is.
    pushed group_view c.args.groups.now.items _ _ _ _ is refl
    (views.together c.in_ok-functions.functions
    ∙ ap Together (c.in_ok-functions.ensures ∙ ap functions_in c.in_ok-taken.ensures.taken))
    ∙ ap (λ gs. map group_view c.args.groups.now.items ++ gs)
    (many_together taken (λ e. c.if-members-eq1.false (sym (count_taken NoMade (map made_view c.args.made.now.items) c.args.members.now) ∙ e))))
    c.put.ensures

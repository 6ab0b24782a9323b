-- One branch more.
use Rattle.std.proofs.Common.{refl, ap, ◌∙◌}
use Rattle.std.proofs.lemmas.Result.{on_ok_weaker}
use Rattle.elm_canon.specs.View.{branch_view, pattern_view, expr_view}
use Rattle.elm_canon.proofs.Views as views
use Rattle.canon_env.proofs.Filtering.{pushed}
use Rattle.canon_expr.proofs.boxes.push_branch.Goals as goal

pub returns : goal.returns
returns c =
    on_ok_weaker c.put.result (λ is.
    pushed branch_view c.args.branches.now.items _ _ _ _ is refl
    (views.branch _ ∙ ap (λ p. (pattern_view p, expr_view c.args.body.value)) c.into_inner-pattern.ensures))
    c.put.ensures

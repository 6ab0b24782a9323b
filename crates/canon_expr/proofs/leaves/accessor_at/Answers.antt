-- The name of the field is that of the word without its point.
use Rattle.std.proofs.Common.{◌≡◌, ap, ◌∙◌}
use Rattle.std.proofs.lemmas.Result.{IfOk-weaker}
use Rattle.elm_tree.specs.View.{place_view}
use Rattle.elm_tree.specs.Turns.{tokens_view}
use Rattle.elm_canon.specs.Tree as canon
use Rattle.elm_canon.specs.View.{expr_view}
use Rattle.elm_canon.specs.declared.tree.Expr.TheVariants as form
use Rattle.elm_canon.proofs.Views as views
use Rattle.canon_expr.specs.Exprs.{at}
use Rattle.canon_expr.proofs.leaves.accessor_at.Goals as goal

pub returns : goal.returns
returns c =
    let place : c.place_at.result ≡ place_view (tokens_view c.args.tokens.now) c.args.word =
    λ i. record { row = c.place_at.ensures.row i; column = c.place_at.ensures.column i } in
    IfOk-weaker c.at.result _ _
    (λ r e. e
    ∙ ap (λ p. at p (expr_view (form.Accessor c.in_ok-name.name))) place
    ∙ ap (at (place_view (tokens_view c.args.tokens.now) c.args.word))
    (views.accessor c.in_ok-name.name ∙ ap canon.Accessor c.in_ok-name.ensures))
    c.at.ensures

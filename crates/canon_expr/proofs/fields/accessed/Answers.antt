-- All fields: `access_is`.
use Rattle.std.proofs.Common.{◌≡◌, ap, ◌∙◌}
use Rattle.std.proofs.lemmas.Result.{IfOk-weaker}
use Rattle.elm_tree.specs.View.{fields_view, place_view}
use Rattle.elm_tree.specs.Turns.{tokens_view}
use Rattle.elm_canon.specs.View as view
use Rattle.elm_canon.specs.View.{expr_view}
use Rattle.elm_canon.specs.declared.tree.Expr.TheVariants as form
use Rattle.elm_canon.proofs.Views as views
use Rattle.canon_expr.specs.Exprs.{at}
use Rattle.canon_expr.proofs.Fielding.{access_is}
use Rattle.canon_expr.proofs.fields.accessed.Goals as goal

pub returns : goal.returns
returns c =
    let tokens = tokens_view c.args.tokens.now in
    let place : c.place_at.result ≡ place_view tokens c.args.first =
    λ i. record { row = c.place_at.ensures.row i; column = c.place_at.ensures.column i } in
    let value = c.args.value in
    IfOk-weaker c.at.result _ _
    (λ callee e. e
    ∙ ap (λ p. at p (expr_view (form.Access value c.in_ok-names.names))) place
    ∙ ap (at (place_view tokens c.args.first))
    (views.access value c.in_ok-names.names
    ∙ ap (view.accessed (expr_view value.value)) c.in_ok-names.ensures
    ∙ access_is (expr_view value.value) (fields_view tokens c.args.fields.now)))
    c.at.ensures

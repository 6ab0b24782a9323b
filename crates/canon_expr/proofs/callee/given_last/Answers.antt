-- The last argument is the first of a chain.
use Rattle.std.proofs.Common.{ap, ◌∙◌}
use Rattle.std.proofs.lemmas.Result.{IfOk-weaker}
use Rattle.elm_canon.specs.View.{expr_view, done}
use Rattle.elm_canon.proofs.Views as views
use Rattle.canon_expr.proofs.callee.given_last.Goals as goal

pub returns : goal.returns
returns c =
    let last = expr_view c.args.last.value in
    IfOk-weaker c.then.result _ _
    (λ e is. is ∙ ap (λ l. done l last) (views.given c.args.function c.args.arguments))
    c.then.ensures

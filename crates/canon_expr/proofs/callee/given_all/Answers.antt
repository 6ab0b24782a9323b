-- A function with arguments is a call: `given_some`.
use Rattle.std.proofs.Common.{ap, ◌∙◌, arith}
use Rattle.std.proofs.lemmas.Result.{IfOk-weaker}
use Rattle.elm_canon.specs.View.{expr_view}
use Rattle.elm_canon.proofs.Views as views
use Rattle.canon_expr.proofs.Linking.{given_some}
use Rattle.canon_expr.proofs.callee.given_all.Goals as goal

pub returns-else-len-eq0 : goal.returns-else-len-eq0
returns-else-len-eq0 c =
    IfOk-weaker c.boxed.result _ _
    (λ e is. ap expr_view is ∙ views.apply c.args.function c.args.arguments
    ∙ given_some (expr_view c.args.function.value) c.args.arguments.items (omega (arith, c.len.ensures)))
    c.boxed.ensures

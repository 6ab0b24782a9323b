-- A constructor with its fields.
use Rattle.std.proofs.Common.{ap, ◌∙◌}
use Rattle.std.proofs.lemmas.Result.{IfOk-weaker}
use Rattle.elm_canon.specs.declared.tree.Op.TheVariants as op
use Rattle.elm_canon.specs.View.{expr_view}
use Rattle.elm_canon.proofs.Views.{strict}
use Rattle.canon_expr.proofs.callee.built_of.Goals as goal

pub returns : goal.returns
returns c =
    IfOk-weaker c.boxed.result _ _
    (λ e is. ap expr_view is ∙ strict (op.Build c.args.place c.args.union c.args.alternative) c.args.fields)
    c.boxed.ensures

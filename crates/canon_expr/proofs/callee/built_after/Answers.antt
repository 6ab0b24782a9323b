-- The last field is the first of a chain.
use Rattle.std.proofs.Common.{ap, ◌∙◌}
use Rattle.std.proofs.lemmas.Result.{IfOk-weaker}
use Rattle.elm_canon.specs.declared.tree.Op.TheVariants as op
use Rattle.elm_canon.specs.View.{expr_view, done}
use Rattle.elm_canon.proofs.Views.{part_after}
use Rattle.canon_expr.proofs.callee.built_after.Goals as goal

pub returns : goal.returns
returns c =
    IfOk-weaker c.then.result _ _
    (λ e is. is ∙ ap (λ l. done l (expr_view c.args.last.value))
    (part_after (op.Build c.args.place c.args.union c.args.alternative) c.args.fields))
    c.then.ensures

use Rattle.std.proofs.Common.{length, suc, ap, ◌∙◌}
use Rattle.infer_steps.specs.declared.bad.InferError.TheVariants as error
use Rattle.infer_steps.specs.View.{bad_view}
use Rattle.infer_steps.proofs.Calling.{function_begun, function_stops}
use Rattle.infer_steps.proofs.Plans.{err_is}
use Rattle.infer_steps.proofs.calls.begin_function.Goals as goal

pub returns-in-Ok-clause-begins : goal.returns-in-Ok-clause-begins
returns-in-Ok-clause-begins c code =
    function_begun code _ _ _ _ _ c.args.position c.args.count c.args.wanted c.in_ok-variables.variables.items
    c.in_ok-all.all.items c.in_ok-value.value
    c.in_ok-made.made c.in_ok-all.ensures c.in_ok-variables.ensures.made c.in_ok-variables.ensures.number
    c.in_ok-value.ensures (rw c.deref.ensures.value at c.in_ok-made.ensures)
    c.in-Ok.ensures.asks

pub returns-in-Ok-clause-number : goal.returns-in-Ok-clause-number
returns-in-Ok-clause-number c = ap length c.in_ok-all.ensures ∙ ap suc c.in_ok-variables.ensures.number

pub returns-in-Err-clause-stops : goal.returns-in-Err-clause-stops
returns-in-Err-clause-stops c b e code =
    function_stops code _ _ _ _ _ c.args.position c.args.count c.args.wanted c.in_ok-variables.variables.items
    c.in_ok-value.value c.in_ok-made.made (bad_view b)
    c.in_ok-variables.ensures.made c.in_ok-variables.ensures.number c.in_ok-value.ensures
    (rw c.deref.ensures.value at c.in_ok-made.ensures) (c.same.ensures.refuses b (err_is c.same.result
    c.in-Err.error (error.Bad b) c.in-Err.is e))

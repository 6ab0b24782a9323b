use Rattle.std.proofs.Common.{length, suc, ap, ◌∙◌}
use Rattle.infer_steps.proofs.Calling.{apply_begun}
use Rattle.infer_steps.proofs.calls.begin_apply.Goals as goal

pub returns-clause-begins : goal.returns-clause-begins
returns-clause-begins c code =
    apply_begun code _ _ _ c.args.count c.args.wanted c.in_ok-variables.variables.items c.in_ok-all.all.items
    c.in_ok-function.function c.in_ok-all.ensures
    c.in_ok-variables.ensures.made c.in_ok-variables.ensures.number (rw c.deref.ensures.value at
    c.in_ok-function.ensures)

pub returns-clause-number : goal.returns-clause-number
returns-clause-number c = ap length c.in_ok-all.ensures ∙ ap suc c.in_ok-variables.ensures.number

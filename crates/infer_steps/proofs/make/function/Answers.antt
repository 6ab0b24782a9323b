use Rattle.std.proofs.Common.{refl}
use Rattle.infer_steps.proofs.make.function.Goals as goal
use Rattle.infer_steps.proofs.Stepping.{of_function}

pub returns : goal.returns
returns c =
    of_function _ _ c.in_ok-variable.variable c.args.parameter c.args.value
    (rw (c.in_ok-push-2.ensures.items, c.in_ok-push.ensures.items, c.new-parts.ensures.items) at c.in_ok-variable.ensures)

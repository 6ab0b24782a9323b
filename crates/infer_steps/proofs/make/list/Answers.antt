use Rattle.std.proofs.Common.{refl}
use Rattle.infer_steps.proofs.make.list.Goals as goal
use Rattle.infer_steps.proofs.Stepping.{of_list}

pub returns : goal.returns
returns c =
    of_list _ _ c.in_ok-variable.variable c.args.item _ (λ t. refl)
    (rw (c.in_ok-push.ensures.items, c.new-parts.ensures.items) at c.in_ok-variable.ensures)

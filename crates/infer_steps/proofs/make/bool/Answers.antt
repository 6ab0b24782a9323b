use Rattle.std.proofs.Common.{refl}
use Rattle.elm_type.specs.Types.{bool_type}
use Rattle.infer_steps.proofs.make.bool.Goals as goal
use Rattle.infer_steps.proofs.Stepping.{of_type}

pub returns : goal.returns
returns c = of_type _ _ c.in_ok-variable.variable _ bool_type refl (rw c.new.ensures.items at c.in_ok-variable.ensures)

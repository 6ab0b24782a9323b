use Rattle.std.proofs.Common.{refl}
use Rattle.elm_type.specs.Types.{char_type}
use Rattle.infer_steps.proofs.make.char.Goals as goal
use Rattle.infer_steps.proofs.Stepping.{of_type}

pub returns : goal.returns
returns c = of_type _ _ c.in_ok-variable.variable _ char_type refl (rw c.new.ensures.items at c.in_ok-variable.ensures)

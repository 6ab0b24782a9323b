use Rattle.std.proofs.Common.{refl}
use Rattle.infer_steps.proofs.make.open.Goals as goal
use Rattle.infer_steps.proofs.Stepping.{opened}

pub returns : goal.returns
returns c = opened _ _ c.in_ok-variable.variable refl refl c.requires c.in_ok-variable.ensures.whole c.in_ok-variable.ensures.number c.in_ok-variable.ensures.made

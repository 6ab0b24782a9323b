use Rattle.std.proofs.Common.{refl}
use Rattle.infer_steps.proofs.make.row.Goals as goal
use Rattle.infer_steps.proofs.Stepping.{rowed}

pub returns-in-Ok : goal.returns-in-Ok
returns-in-Ok c = rowed _ _ c.in-Ok.variable _ c.args.rest refl refl c.requires.whole c.in-Ok.ensures.whole c.requires.inside c.requires.cell c.requires.lacking c.in-Ok.ensures.number c.in-Ok.ensures.made c.in-Ok.ensures.goes

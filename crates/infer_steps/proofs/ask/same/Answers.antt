use Rattle.std.proofs.Common.{refl}
use Rattle.infer_steps.proofs.ask.same.Goals as goal
use Rattle.infer_steps.proofs.Stepping.{same_asked}

pub returns-in-Ok-clause-asks : goal.returns-in-Ok-clause-asks
returns-in-Ok-clause-asks c = same_asked _ _ c.args.position c.args.variable c.args.other refl refl c.in-Ok.ensures.whole c.in-Ok.ensures.added c.in-Ok.ensures.goes

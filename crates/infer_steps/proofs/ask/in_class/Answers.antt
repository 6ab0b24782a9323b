use Rattle.std.proofs.Common.{refl}
use Rattle.infer_steps.proofs.ask.in_class.Goals as goal
use Rattle.infer_steps.proofs.Stepping.{class_asked}

pub returns-in-Ok-clause-asks : goal.returns-in-Ok-clause-asks
returns-in-Ok-clause-asks c = class_asked _ _ c.args.position c.args.variable c.args.class refl refl c.in-Ok.ensures.whole c.in-Ok.ensures.added c.in-Ok.ensures.goes

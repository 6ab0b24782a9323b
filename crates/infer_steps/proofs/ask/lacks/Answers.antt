use Rattle.std.proofs.Common.{refl}
use Rattle.infer_steps.proofs.ask.lacks.Goals as goal
use Rattle.infer_steps.proofs.Stepping.{lack_asked}

pub returns-in-Ok-clause-asks : goal.returns-in-Ok-clause-asks
returns-in-Ok-clause-asks c =
    lack_asked _ _ c.args.position c.args.variable c.args.name.now refl refl c.in-Ok.ensures.whole
    (rw c.in_ok-clone.ensures.cases at c.in-Ok.ensures.added) c.in-Ok.ensures.goes

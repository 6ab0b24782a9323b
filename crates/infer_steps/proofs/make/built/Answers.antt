use Rattle.std.proofs.Common.{refl}
use Rattle.infer_steps.proofs.make.built.Goals as goal
use Rattle.infer_steps.proofs.Stepping.{built}

pub returns : goal.returns
returns c = built _ _ c.in_ok-variable.variable c.args.head c.args.parts.items refl refl c.requires.whole c.in_ok-variable.ensures.whole c.requires.inside c.in_ok-variable.ensures.number c.in_ok-variable.ensures.made

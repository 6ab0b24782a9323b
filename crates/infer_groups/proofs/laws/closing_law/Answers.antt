use Rattle.infer_groups.proofs.Closing.{closes}
use Rattle.infer_groups.proofs.laws.closing_law.Goals as goal

pub returns : goal.returns
returns c code ds i names gs old now done frozen =
    closes c.choice_law.ensures c.saying_law.ensures.later code ds i names old now done gs frozen

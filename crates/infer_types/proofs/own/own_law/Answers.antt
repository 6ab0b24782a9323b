use Rattle.infer_types.proofs.Owning.{own_are_own}
use Rattle.infer_types.proofs.own.own_law.Goals as goal

pub returns : goal.returns
returns c = own_are_own

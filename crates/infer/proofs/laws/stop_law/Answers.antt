use Rattle.infer.proofs.Stopping.{stops_inside}
use Rattle.infer.proofs.laws.stop_law.Goals as goal

pub returns : goal.returns
returns c = stops_inside

use Rattle.typed_values.proofs.laws.lookup_law.Goals as goal
use Rattle.typed_values.proofs.Envs.{look_good}

pub returns : goal.returns
returns c = λ w env hidden scope x entry f fits n e. look_good w env hidden scope x entry f fits n e

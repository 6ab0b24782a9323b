use Rattle.infer_groups.proofs.Lets.{let_is_walked, let_stops, body_stops}
use Rattle.infer_groups.proofs.laws.let_law.Goals as goal

pub returns-clause-walked : goal.returns-clause-walked
returns-clause-walked c = let_is_walked

pub returns-clause-stops : goal.returns-clause-stops
returns-clause-stops c = let_stops

pub returns-clause-body : goal.returns-clause-body
returns-clause-body c = body_stops

use Rattle.type_safety.proofs.exhaustive_matches_laws.match_law.Goals as goal
use Rattle.type_safety.proofs.Matching.{some_matches}

pub returns : goal.returns
returns c = some_matches

use Rattle.type_safety.proofs.exhaustive_matches_laws.steps_law.Goals as goal
use Rattle.type_safety.proofs.Sound.{steps_keep_types}

pub returns : goal.returns
returns c = steps_keep_types

use Rattle.build_safety.proofs.MakersMentions.{mentions_of_world}
use Rattle.build_safety.proofs.build_makers.makers_law.Goals as goal

pub returns : goal.returns
returns c = mentions_of_world

use Rattle.build_safety.proofs.WorldKnown.{modules_known}
use Rattle.build_safety.proofs.WorldMakers.{makers_known}
use Rattle.build_safety.proofs.build_world.world_law.Goals as goal

pub returns : goal.returns
returns c = record { known = modules_known; makers = makers_known }

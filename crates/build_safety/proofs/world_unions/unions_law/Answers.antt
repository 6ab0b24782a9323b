use Rattle.build_safety.proofs.WorldUnions.{unions_sound, unions_declared}
use Rattle.build_safety.proofs.world_unions.unions_law.Goals as goal

pub returns : goal.returns
returns c = record { sound = unions_sound; declared = unions_declared }

use Rattle.typed_values.proofs.laws.world_law.Goals as goal
use Rattle.typed_values.proofs.SampleFrame.{sample_stands}
use Rattle.typed_values.proofs.SampleWorld.{sample_is_sound}

pub returns-clause-world : goal.returns-clause-world
returns-clause-world c = sample_is_sound

pub returns-clause-frame : goal.returns-clause-frame
returns-clause-frame c = sample_stands

-- The world of a build that has the modules of the core library: `worlds_sound`.
use Rattle.build_safety.proofs.SoundWorlds.{worlds_sound}
use Rattle.build_safety.proofs.sound_worlds.sound_law.Goals as goal

pub returns : goal.returns
returns c = worlds_sound

-- The modules of the core library are among those of each build: `builds_have_core`.
use Rattle.build_safety.proofs.SoundBuilds.{builds_have_core}
use Rattle.build_safety.proofs.sound_worlds.core_law.Goals as goal

pub returns : goal.returns
returns c = builds_have_core

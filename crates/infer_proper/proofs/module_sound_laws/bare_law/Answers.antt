use Rattle.infer_proper.proofs.Around.{project_bare, core_bare}
use Rattle.infer_proper.proofs.module_sound_laws.bare_law.Goals as goal

pub returns : goal.returns
returns c = record { project = project_bare; core = core_bare }

use Rattle.infer_proper.proofs.Around.{with_more}
use Rattle.infer_proper.proofs.module_sound_laws.with_law.Goals as goal

pub returns : goal.returns
returns c = λ a home i is e s. with_more a home i is e s

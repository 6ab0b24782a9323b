use Rattle.pattern_check.proofs.Covered.{faultless_is_covered}
use Rattle.pattern_check.proofs.pattern_faults_laws.faultless_law.Goals as goal

pub returns : goal.returns
returns c = faultless_is_covered

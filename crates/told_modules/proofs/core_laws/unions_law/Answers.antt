use Rattle.told_modules.proofs.Unions.{core_unions_meet}
use Rattle.told_modules.proofs.core_laws.unions_law.Goals as goal

pub returns : goal.returns
returns c = core_unions_meet

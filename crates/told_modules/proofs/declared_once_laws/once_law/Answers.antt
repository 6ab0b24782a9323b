use Rattle.told_modules.proofs.Defined.{none_defined}
use Rattle.told_modules.proofs.Once.{declared_once}
use Rattle.told_modules.proofs.declared_once_laws.once_law.Goals as goal

pub returns : goal.returns
returns c = record { once = declared_once; undefined = none_defined }

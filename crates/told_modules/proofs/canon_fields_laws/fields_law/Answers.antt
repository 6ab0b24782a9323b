use Rattle.told_modules.proofs.CanonFieldsModules.{modules_have}
use Rattle.told_modules.proofs.canon_fields_laws.fields_law.Goals as goal

pub returns : goal.returns
returns c = modules_have

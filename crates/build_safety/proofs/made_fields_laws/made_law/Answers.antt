use Rattle.build_safety.proofs.Made.{made_fields}
use Rattle.build_safety.proofs.made_fields_laws.made_law.Goals as goal

pub returns : goal.returns
returns c = made_fields

-- Along a derivation: `module_updates`.
use Rattle.canon_proper.proofs.ParsedFieldsWalking.{module_updates}
use Rattle.canon_proper.proofs.parsed_fields_laws.updates_law.Goals as goal

pub returns : goal.returns
returns c = module_updates

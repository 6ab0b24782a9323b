-- Type by type: `has_fields`.
use Rattle.module_proper.proofs.Payloads.{has_fields}
use Rattle.module_proper.proofs.port_proper_laws.payload_law.Goals as goal

pub returns : goal.returns
returns c = has_fields

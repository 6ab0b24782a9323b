use Rattle.told_modules.proofs.Makers.{makers_have, records_have}
use Rattle.told_modules.proofs.Payloads.{payloads_once}
use Rattle.told_modules.proofs.Ports.{ports_have}
use Rattle.told_modules.proofs.declared_schemes_laws.schemes_law.Goals as goal

pub returns : goal.returns
returns c = record { makers = makers_have; records = records_have; ports = ports_have; once = payloads_once }

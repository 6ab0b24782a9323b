use Rattle.std.specs.Prelude.{refl}
use Rattle.port_payload.specs.Payloads.{payload_of}
use Rattle.port_payload.specs.Entry.{entry_type}
use Rattle.port_payload.proofs.laws.examples.Goals as goal

pub returns : goal.returns
unfolding entry_type payload_of
returns c = record {
  unit_flags = refl;
  record_flags = refl;
  function_flags = refl;
  variable_flags = refl;
  no_program = refl;
}

-- A worked program with names as their resolution leaves them.
use Rattle.std.proofs.Common.{rules}
use Rattle.elm_meaning.specs.Samples.{adder}
use Rattle.emit_size_laws.proofs.EmitSubsetLawsSamples.{adder_proper, adder_written}
use Rattle.emit_size_laws.specs.Small.{NamedProgram}

pub adder_named : NamedProgram adder
adder_named = record {
  primitives = adder_proper.primitives;
  spelled = adder_written.primitives;
  declarations = adder_proper.declarations;
  payloads = search rules;
  ports = adder_proper.ports;
  main = adder_proper.main;
  flags = search rules;
}

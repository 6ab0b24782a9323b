-- A program with flags and ports is one that the laws speak of.
use Rattle.std.proofs.Common.{rules, refl}
use Rattle.elm_meaning.specs.Samples.{adder}
use Rattle.emit_laws.specs.Programs.{ProperProgram}
use Rattle.emit_size_laws.specs.Programs.{CanBeWritten}

pub adder_proper : ProperProgram adder
adder_proper = record {
  primitives = search rules;
  declarations = search rules;
  sayable = search rules;
  few = search rules;
  ports = refl;
  main = refl;
  flags = search rules;
}

pub adder_written : CanBeWritten adder
adder_written = record { primitives = search rules; made = search rules }

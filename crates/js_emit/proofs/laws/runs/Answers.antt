use Rattle.std.proofs.Common.{refl}
use Rattle.std.specs.Fmt.{digits}
use Rattle.js_emit.proofs.laws.runs.Goals as goal

pub returns : goal.returns
unfolding digits
returns c = record {
  negative_argument = record { source = refl; output = refl };
  first_of = record { source = refl; output = refl };
  own_variables = record { source = refl; output = refl };
  tests = record { source = refl; output = refl };
  nested = record { source = refl; output = refl };
  modulo_by_zero = record { source = refl; output = refl };
  inputs = record { source = refl; output = refl };
}

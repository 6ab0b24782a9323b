use Rattle.std.proofs.Common.{refl}
use Rattle.elm_meaning.proofs.laws.programs.Goals as goal

pub returns : goal.returns
returns c = record {
  negative_argument = refl;
  modulo_by_zero = refl;
  units = refl;
  divisions = refl;
  own_variables = refl;
  functions = refl;
  deep = refl;
  too_deep = refl;
  inputs = refl;
  wrong_flags = refl;
  no_port = refl;
}

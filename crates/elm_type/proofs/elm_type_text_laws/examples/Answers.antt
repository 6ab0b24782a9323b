-- Each text is computed by the definitions themselves.
use Rattle.std.specs.Prelude.{refl}
use Rattle.std.specs.Fmt.{digits}
use Rattle.elm_type.specs.Naming.{candidate}
use Rattle.elm_type.specs.Text.{type_name, text_in}
use Rattle.elm_type.proofs.elm_type_text_laws.examples.Goals as goal

pub returns : goal.returns
unfolding candidate type_name text_in digits
returns c = record {
  maybe_in_list = refl;
  functions_in_functions = refl;
  of_a_module = refl;
  no_type = refl;
  pair_of_types = refl;
  closed_record = refl;
  update = refl;
  both_classes = refl;
  numbers = refl;
  beside_a_constant = refl;
}

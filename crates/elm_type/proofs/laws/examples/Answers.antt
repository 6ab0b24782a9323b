-- Each type is computed by the definitions themselves.
use Rattle.std.specs.Prelude.{refl}
use Rattle.elm_type.proofs.laws.examples.Goals as goal

pub returns : goal.returns
returns c = record {
  number_comparable = refl;
  comparable_appendable = refl;
  number_appendable = refl;
  unit_is_not_comparable = refl;
  pair_is_comparable = refl;
  list_of_functions = refl;
  list_of_functions_is_not_comparable = refl;
  sizes = refl;
  instance = refl;
  in_order = refl;
  rows_in_order = refl;
  row_in_a_row = refl;
}

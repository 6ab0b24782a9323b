use Rattle.std.proofs.Common.{refl}
use Rattle.elm_meaning.proofs.laws.crashes.Goals as goal

pub returns : goal.returns
returns c = record {
  functions = refl;
  function_inside = refl;
  todo_crashes = refl;
  modulo_by_zero = refl;
  left_first = refl;
  too_large = refl;
  no_fuel = refl;
  enough_fuel = refl;
  branch_missing = refl;
  unknown = refl;
  called_number = refl;
  no_condition = refl;
  no_number = refl;
  no_field = refl;
  different_types = refl;
  order_of_bools = refl;
}

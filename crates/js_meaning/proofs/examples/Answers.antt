-- Each program is run by the meaning itself.
use Rattle.std.proofs.Common.{refl}
use Rattle.js_meaning.proofs.examples.Goals as goal

pub returns : goal.returns
returns c = record {
  modulo = refl;
  modulo_below = refl;
  modulo_by_zero = refl;
  quotient = refl;
  quotient_by_zero = refl;
  quotient_in_32_bits = refl;
  remainder = refl;
  remainder_by_zero = refl;
  bit_and = refl;
  bit_not = refl;
  shift_left = refl;
  shift_right = refl;
  shift_right_zero = refl;
  slice = refl;
  find_nothing = refl;
  find = refl;
  from_unit = refl;
  append_texts = refl;
  append_lists = refl;
  update = refl;
  pairs = refl;
  too_few = refl;
  others = refl;
  nothing = refl;
  just = refl;
  just_of_another = refl;
  list_of_ints = refl;
  field_among_others = refl;
  missing_field = refl;
  array_for_a_record = refl;
  null_of_nothing = refl;
  array_of_list = refl;
  field_alone = refl;
}

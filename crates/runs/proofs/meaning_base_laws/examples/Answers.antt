use Rattle.std.proofs.Common.{refl}
use Rattle.runs.proofs.meaning_base_laws.examples.Goals as goal

pub returns : goal.returns
returns c = record {
  largest = refl;
  too_large = refl;
  too_small = refl;
  quotient_by_zero = refl;
  quotient_below = refl;
  quotient_wraps = refl;
  modulo_below = refl;
  modulo_of_below = refl;
  modulo_by_zero = refl;
  remainder_below = refl;
  remainder_by_zero = refl;
  in_common = refl;
  different = refl;
  others = refl;
  left = refl;
  right = refl;
  right_zero = refl;
  before = refl;
  front_before = refl;
  second = refl;
  past_the_end = refl;
  end_of_text = refl;
  found = refl;
  empty_found = refl;
  not_found = refl;
  letter = refl;
  by_name = refl;
  first_by_name = refl;
}

use Rattle.std.proofs.Common.{refl}
use Rattle.elm_meaning.proofs.laws.wires.Goals as goal

pub returns : goal.returns
returns c = record {
  longer_read = refl;
  written = refl;
  field_missing = refl;
  array_for_record = refl;
  record_for_array = refl;
  tuple = refl;
  short_tuple = refl;
  null_is_nothing = refl;
  null_is_unit = refl;
  something = refl;
  not_exact = refl;
  other_type = refl;
}

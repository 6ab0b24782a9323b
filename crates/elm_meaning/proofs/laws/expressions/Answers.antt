use Rattle.std.proofs.Common.{refl}
use Rattle.elm_meaning.proofs.laws.expressions.Goals as goal

pub returns : goal.returns
returns c = record {
  subtraction = refl;
  modulo = refl;
  one_by_one = refl;
  accessor = refl;
  update = refl;
  first_branch = refl;
  second_branch = refl;
  third_branch = refl;
  last_branch = refl;
  nested_let = refl;
  same_contents = refl;
  other_contents = refl;
  difference_first = refl;
  list_order = refl;
  tuple_order = refl;
  text_order = refl;
  left_decides = refl;
  texts = refl;
  lists = refl;
}

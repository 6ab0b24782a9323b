-- Each text is computed by the definitions themselves.
use Rattle.std.specs.Prelude.{refl}
use Rattle.std.specs.Fmt.{digits}
use Rattle.pattern_check.specs.Text.{text_in}
use Rattle.pattern_check.proofs.laws.text_examples.Goals as goal

pub returns : goal.returns
unfolding text_in digits
returns c = record {
  anything = refl;
  of_unit = refl;
  an_item = refl;
  two_items = refl;
  list_in_list = refl;
  in_pair = refl;
  argument = refl;
  list_argument = refl;
  numbers = refl;
  character = refl;
  text = refl;
  control = refl;
}

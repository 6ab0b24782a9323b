-- Each text is computed by the definitions themselves.
use Rattle.std.specs.Prelude.{refl}
use Rattle.std.specs.Fmt.{digits}
use Rattle.elm_type.specs.Spelling.{spell}
use Rattle.interface.specs.Formats.{digits_at, number_at}
use Rattle.interface.specs.Steps.{steps_of, built}
use Rattle.interface.specs.Text.{tag_format, unit_format, count_format, name_format, head_format, node_format, nodes_format}
use Rattle.interface.specs.Text.{type_format, kinds_format, scheme_format, value_format, values_format, unions_format}
use Rattle.interface.specs.Text.{aliases_format, interface_format, text_of}
use Rattle.interface.proofs.worked.examples.Goals as goal

pub returns : goal.returns
unfolding digits spell digits_at number_at steps_of built tag_format unit_format count_format name_format head_format node_format nodes_format type_format kinds_format scheme_format value_format values_format unions_format aliases_format interface_format text_of
returns c = record {
  moved = refl;
  one_value = refl;
  steps = refl;
  rebuilt = refl;
  number = refl;
  leading_zero = refl;
  too_large = refl;
  no_space = refl;
}

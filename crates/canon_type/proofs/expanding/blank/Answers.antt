-- The name without units.
use Rattle.std.proofs.Common.{ap, ◌∙◌}
use Rattle.elm_canon.specs.Tree as plain
use Rattle.elm_canon.proofs.Views.{variable_type}
use Rattle.canon_type.proofs.expanding.blank.Goals as goal

pub returns : goal.returns
returns c = variable_type c.in_ok-no_name.field-0 ∙ ap plain.Variable c.in_ok-no_name.ensures

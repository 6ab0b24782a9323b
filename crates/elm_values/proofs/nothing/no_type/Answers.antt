-- One level of the view.
use Rattle.elm_tree.proofs.Views.{variable_type}
use Rattle.elm_values.proofs.nothing.no_type.Goals as goal

pub returns : goal.returns
returns c = λ tokens. variable_type tokens (record { index = 0 })

-- One level of the view.
use Rattle.elm_tree.proofs.Views.{word_expr}
use Rattle.elm_values.proofs.nothing.no_expr.Goals as goal

pub returns : goal.returns
returns c = λ tokens. word_expr tokens (record { index = 0 })

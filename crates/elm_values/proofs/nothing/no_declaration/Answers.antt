-- The view of its type.
use Rattle.std.proofs.Common.{ap}
use Rattle.elm_tree.specs.Tree.{Port}
use Rattle.elm_tree.specs.View.{word_view}
use Rattle.elm_values.proofs.nothing.no_declaration.Goals as goal

pub returns : goal.returns
returns c = λ tokens. ap (Port (word_view tokens (record { index = 0 }))) (c.no_type.ensures tokens)

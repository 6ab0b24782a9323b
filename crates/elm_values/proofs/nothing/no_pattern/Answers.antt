-- One level of the view.
use Rattle.std.proofs.Common.{ap}
use Rattle.elm_tree.specs.View.{place_view}
use Rattle.elm_tree.proofs.Views.{word_pattern}
use Rattle.elm_grammar.specs.Values.{begun}
use Rattle.elm_values.proofs.nothing.no_pattern.Goals as goal

pub returns : goal.returns
returns c = λ tokens. ap (begun (place_view tokens (record { index = 0 }))) (word_pattern tokens (record { index = 0 }))

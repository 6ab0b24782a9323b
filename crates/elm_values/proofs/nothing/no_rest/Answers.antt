-- The view of its type.
use Rattle.std.proofs.Common.{ap}
use Rattle.elm_grammar.specs.Values.{Typed}
use Rattle.elm_values.proofs.nothing.no_rest.Goals as goal

pub returns : goal.returns
returns c = λ tokens. ap Typed (c.no_type.ensures tokens)

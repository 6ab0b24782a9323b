-- Each production takes and gives values of the kinds that its nonterminals have, by computation over the table.
use Rattle.std.specs.Prelude.{refl}
use Rattle.elm_grammar.specs.Values.{takes, gives}
use Rattle.elm_grammar.proofs.laws.kinds_law.Goals as goal

pub returns : goal.returns
unfolding takes gives
returns c = refl

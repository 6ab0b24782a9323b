-- Each derivation has a value of the kind of its nonterminal: `has_meaning`.
-- What the search finds is a derivation, and what it computes is the value of one: `one_value`, `read_so`.
use Rattle.elm_grammar.proofs.Sense.{has_meaning}
use Rattle.elm_grammar.proofs.Found.{one_value, read_so}
use Rattle.elm_grammar.proofs.laws.derivation_law.Goals as goal

pub returns : goal.returns
returns c = record { some = λ tokens n c x ts d. has_meaning tokens d; one = one_value; computed = read_so }

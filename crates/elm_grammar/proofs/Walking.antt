-- Along a derivation: the function types in its values have results.
use Rattle.std.proofs.Common.{List}
use Rattle.elm_lexer.specs.Tokens.{Token}
use Rattle.parse_machine.specs.Grammar.{Tree}
use Rattle.elm_grammar.specs.Values.{Kind}
use Rattle.elm_grammar.specs.Meaning.{Things, action_at, Means}
use Rattle.elm_grammar.specs.Meaning as meaning
use Rattle.elm_grammar.specs.Written.{TextsHaveResults}
use Rattle.elm_grammar.proofs.Values.{ThingsHaveResults}
use Rattle.elm_grammar.proofs.Making.{made_results}

walked : (tokens : List Token) {x : Tree} {ks : List Kind} {vs : Things ks} → Means tokens x ks vs
    → ThingsHaveResults ks vs
walked tokens meaning.nothing = tt
walked tokens (meaning.a_word m) = (tt, walked tokens m)
walked tokens (meaning.a_node {p = p} {us = us} u v) =
    (made_results (action_at p) us (walked tokens u), walked tokens v)

pub module_results : TextsHaveResults
module_results tokens m s = (walked tokens s.means).0

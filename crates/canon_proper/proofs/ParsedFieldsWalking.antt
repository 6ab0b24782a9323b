-- Along a derivation: the updates in its values name fields.
use Rattle.std.proofs.Common.{List}
use Rattle.elm_lexer.specs.Tokens.{Token}
use Rattle.parse_machine.specs.Grammar.{Tree}
use Rattle.elm_grammar.specs.Values.{Kind}
use Rattle.elm_grammar.specs.Meaning.{Things, action_at, Means}
use Rattle.elm_grammar.specs.Meaning as meaning
use Rattle.canon_proper.specs.Laws.{TextsUpdateSome}
use Rattle.canon_proper.proofs.ParsedFieldsValues.{ThingsUpdate}
use Rattle.canon_proper.proofs.ParsedFieldsMaking.{made_updates}

walked : (tokens : List Token) {x : Tree} {ks : List Kind} {vs : Things ks} → Means tokens x ks vs → ThingsUpdate ks vs
walked tokens meaning.nothing = tt
walked tokens (meaning.a_word m) = (tt, walked tokens m)
walked tokens (meaning.a_node {p = p} {us = us} u v) =
    (made_updates (action_at p) us (walked tokens u), walked tokens v)

pub module_updates : TextsUpdateSome
module_updates tokens m s = (walked tokens s.means).0

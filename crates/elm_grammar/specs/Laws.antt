-- What holds of derivations and their values.
use Rattle.std.specs.Prelude.{◌≡◌, ℕ, List, [], ◌∷◌, Some}
use Rattle.elm_lexer.specs.Tokens.{Token}
use Rattle.parse_machine.specs.declared.table.Symbol.TheVariants.{Part}
use Rattle.parse_machine.specs.declared.table.Token as machine
use Rattle.parse_machine.specs.Grammar.{Tree}
use Rattle.parse_machine.specs.Grammar as grammar
use Rattle.elm_grammar.specs.Classes.{classed}
use Rattle.elm_grammar.specs.Table.{elm}
use Rattle.elm_grammar.specs.Values.{Kind, Thing}
use Rattle.elm_grammar.specs.Kinded.{kinds_of}
use Rattle.elm_grammar.specs.Meaning.{Things, none, ◌⸴◌, Means, Spells}
use Rattle.elm_grammar.specs.Search.{read}

-- the derivation of a text has a value of the kind of its nonterminal
abbrev pub EachHasValue : Type 0
EachHasValue =
    (tokens : List Token) (n c : ℕ) (x : Tree) (ts : List machine.Token) → grammar.Spells elm (Part n ∷ []) c x ts →
    (vs : Things (kinds_of (Part n ∷ []))) × Means tokens x (kinds_of (Part n ∷ [])) vs

-- and no other
abbrev pub OneValue : Type 0
OneValue =
    (tokens : List Token) (x : Tree) (k : Kind) (v w : Thing k) → Means tokens x (k ∷ []) (◌⸴◌ {k = k} v none) →
    Means tokens x (k ∷ []) (◌⸴◌ {k = k} w none) → v ≡ w

-- what the worked examples compute is what the tokens spell
abbrev pub ReadSpells : Type 0
ReadSpells =
    (n column : ℕ) (k : Kind) (tokens : List Token) (v : Thing k) → read n column k tokens ≡ Some v →
    Spells tokens n column k v (classed tokens)

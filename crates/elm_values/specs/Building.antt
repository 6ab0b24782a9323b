-- What a value is to the derivation whose steps are listed.
use Rattle.std.specs.Prelude.{◌≡◌, List, [], ◌∷◌}
use Rattle.elm_lexer.specs.Tokens.{Token}
use Rattle.parse_machine.specs.declared.table.Step.{Step}
use Rattle.parse_machine.specs.Grammar.{Tree, steps_of}
use Rattle.elm_grammar.specs.Values.{Kind, Thing}
use Rattle.elm_grammar.specs.Meaning.{none, ◌⸴◌, Means}

-- it is what a derivation with these steps means, if there is one that means one value of this kind
abbrev pub Builds : List Token → (k : Kind) → List Step → Thing k → Type 0
Builds tokens k steps v =
    (x : Tree) (w : Thing k) → steps_of x ≡ steps → Means tokens x (k ∷ []) (◌⸴◌ {k = k} w none) → v ≡ w

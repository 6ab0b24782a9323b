use Rattle.std.proofs.Common.{◌≡◌, ◌++◌, List, map, take}
use Rattle.elm_lexer.specs.Tokens.{Token}
use Rattle.elm_tree.specs.View.{words_view, constructor_view}
use Rattle.canon_module.specs.Names.{constructor_words}
use Rattle.canon_module.proofs.names.push_constructors.Given as goal

abbrev pub invariant-loop-constructor : goal.invariant-loop-constructor
invariant-loop-constructor l =
    (tokens : List Token) →
    words_view tokens l.words.items
    ≡ words_view tokens l.initial.words.items
    ++ constructor_words (map (constructor_view tokens) (take l.constructor-index l.constructors))

use Rattle.std.proofs.Common.{◌≡◌, List, map, take}
use Rattle.std.specs.Prelude.{flat_map}
use Rattle.elm_lexer.specs.Tokens.{Token}
use Rattle.elm_tree.specs.View.{words_view, constructor_view}
use Rattle.canon_type.specs.Parameters.{constructor_variables}
use Rattle.canon_type.proofs.parameters.variables_of.Given as goal

abbrev pub invariant-loop-constructor : goal.invariant-loop-constructor
invariant-loop-constructor l =
    (tokens : List Token) → words_view tokens l.words.items
    ≡ flat_map constructor_variables (map (constructor_view tokens) (take l.constructor-index l.constructors))

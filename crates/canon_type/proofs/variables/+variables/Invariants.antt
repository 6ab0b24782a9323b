use Rattle.std.proofs.Common.{◌≡◌, List, ◌++◌, map, take}
use Rattle.std.specs.Prelude.{flat_map}
use Rattle.elm_lexer.specs.Tokens.{Token}
use Rattle.elm_tree.specs.View as tree
use Rattle.elm_tree.specs.View.{words_view}
use Rattle.canon_type.specs.Written.{variables_in}
use Rattle.canon_type.specs.Kept.{field_variables}
use Rattle.canon_type.proofs.variables.+variables.Given as goal

abbrev pub invariant-push_all-loop-one : goal.invariant-push_all-loop-one
invariant-push_all-loop-one l =
    (tokens : List Token) → words_view tokens l.words.items
    ≡ words_view tokens l.initial.words.items
    ++ flat_map variables_in (map (tree.type_view tokens) (take l.one-index l.written))

abbrev pub invariant-push_in_fields-loop-field : goal.invariant-push_in_fields-loop-field
invariant-push_in_fields-loop-field l =
    (tokens : List Token) → words_view tokens l.words.items
    ≡ words_view tokens l.initial.words.items
    ++ flat_map field_variables (map (tree.field_type_view tokens) (take l.field-index l.written))

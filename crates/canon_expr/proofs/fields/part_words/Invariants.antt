use Rattle.std.proofs.Common.{◌≡◌, List, map, take}
use Rattle.elm_lexer.specs.Tokens.{Token}
use Rattle.elm_tree.specs.View.{words_view, part_view}
use Rattle.canon_expr.proofs.fields.part_words.Given as goal

abbrev pub invariant-loop-field : goal.invariant-loop-field
invariant-loop-field l =
    (tokens : List Token) →
    words_view tokens l.words.items ≡ map (λ p. p.0) (map (part_view tokens) (take l.field-index l.fields))

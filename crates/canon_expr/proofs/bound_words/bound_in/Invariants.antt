use Rattle.std.proofs.Common.{◌≡◌, map, take}
use Rattle.std.specs.List.{flat_map}
use Rattle.elm_tree.specs.View.{words_view, definition_view}
use Rattle.elm_tree.specs.Turns.{tokens_view}
use Rattle.canon_expr.specs.Binding.{bound_by}
use Rattle.canon_expr.proofs.bound_words.bound_in.Given as goal

abbrev pub invariant-loop-definition : goal.invariant-loop-definition
invariant-loop-definition l =
    words_view (tokens_view l.tokens) l.words.items
    ≡ flat_map bound_by (map (definition_view (tokens_view l.tokens)) (take l.definition-index l.definitions))

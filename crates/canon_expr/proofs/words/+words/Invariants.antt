use Rattle.std.proofs.Common.{◌≡◌, ◌++◌, map, take}
use Rattle.std.specs.List.{flat_map}
use Rattle.elm_tree.specs.View.{words_view, pattern_view}
use Rattle.elm_tree.specs.Turns.{tokens_view}
use Rattle.canon_env.specs.Patterns.{words_of}
use Rattle.canon_expr.proofs.words.+words.Given as goal

abbrev pub invariant-push_all-loop-pattern : goal.invariant-push_all-loop-pattern
invariant-push_all-loop-pattern l =
    words_view (tokens_view l.tokens) l.words.items
    ≡ words_view (tokens_view l.tokens) l.initial.words.items
    ++ flat_map words_of (map (pattern_view (tokens_view l.tokens)) (take l.pattern-index l.patterns))

use Rattle.std.proofs.Common.{◌≡◌, ◌++◌, [], map, take}
use Rattle.elm_tree.specs.View.{words_view}
use Rattle.elm_tree.specs.Turns.{tokens_view}
use Rattle.canon_env.specs.Sites.{at_word, repeats}
use Rattle.canon_env.specs.Repeats.{IsSeen, seen_after}
use Rattle.canon_env.proofs.repeats.push_repeats.Given as goal

abbrev pub invariant-loop-word : goal.invariant-loop-word
invariant-loop-word l =
    IsSeen l.seen (seen_after [] (words_view (tokens_view l.tokens) (take l.word-index l.words)))
    × (l.findings.items
    ≡ l.initial.findings.items
    ++ map (at_word l.code) (repeats (words_view (tokens_view l.tokens) (take l.word-index l.words))))

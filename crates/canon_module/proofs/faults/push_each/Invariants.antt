use Rattle.std.proofs.Common.{◌≡◌, ◌++◌, map, take}
use Rattle.elm_tree.specs.View.{words_view}
use Rattle.elm_tree.specs.Turns.{tokens_view}
use Rattle.canon_env.specs.Sites.{at_word}
use Rattle.canon_module.proofs.faults.push_each.Given as goal

abbrev pub invariant-loop-word : goal.invariant-loop-word
invariant-loop-word l =
    l.findings.items
    ≡ l.initial.findings.items
    ++ map (at_word l.code) (words_view (tokens_view l.tokens) (take l.word-index l.words))

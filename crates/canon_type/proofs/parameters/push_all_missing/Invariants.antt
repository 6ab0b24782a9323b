use Rattle.std.proofs.Common.{◌≡◌, ◌++◌, take}
use Rattle.elm_tree.specs.View.{words_view}
use Rattle.elm_tree.specs.Turns.{tokens_view}
use Rattle.canon_type.specs.Parameters.{missing}
use Rattle.canon_type.proofs.parameters.push_all_missing.Given as goal

abbrev pub invariant-loop-word : goal.invariant-loop-word
invariant-loop-word l =
    l.findings.items ≡ l.initial.findings.items
    ++ missing l.code (words_view (tokens_view l.tokens) (take l.word-index l.words))
    (words_view (tokens_view l.tokens) l.among)

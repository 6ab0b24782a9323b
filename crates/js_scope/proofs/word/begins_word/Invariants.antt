use Rattle.std.proofs.Common.{◌≡◌, drop}
use Rattle.std.specs.List.{list_any}
use Rattle.js_tree.specs.Automaton as machine
use Rattle.js_scope.proofs.Words.{begun_entry}
use Rattle.js_scope.proofs.word.begins_word.Given as goal

abbrev pub invariant-loop-text : goal.invariant-loop-text
invariant-loop-text l =
    begun_entry (drop l.text-index l.text-items) l.bytes
    ≡ list_any (λ w. machine.begins_with (machine.word_text w) l.bytes) machine.words

use Rattle.std.proofs.Common.{◌≡◌, drop}
use Rattle.js_tree.specs.Automaton as machine
use Rattle.js_scope.proofs.Words.{find_entry}
use Rattle.js_scope.proofs.word.find_word.Given as goal

abbrev pub invariant-loop-text : goal.invariant-loop-text
invariant-loop-text l =
    (none : machine.State) (found : machine.Word → machine.State)
    → find_entry (drop l.text-index l.text-items) l.bytes none found
    ≡ machine.find_word machine.words l.bytes none found

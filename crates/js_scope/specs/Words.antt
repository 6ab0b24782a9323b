-- The words that the reader finds, as plain data.
use Rattle.std.specs.Prelude.{ℕ, List, Option, Some, None, if◌then◌else◌}
use Rattle.std.specs.List.{list_any}
use Rattle.js_tree.specs.Postorder.{helper_view}
use Rattle.js_tree.specs.Automaton as machine
use Rattle.js_scope.specs.declared.word.Word as word

abbrev pub word_view : word.Word → machine.Word
word_view word.Word.True = machine.TrueWord
word_view word.Word.False = machine.FalseWord
word_view word.Word.List = machine.ListWord
word_view (word.Word.Helper h) = machine.HelperWord (helper_view h)

-- a word that may go on
abbrev pub begun_word : List ℕ → machine.Place → machine.State
begun_word cs k = if list_any (λ w. machine.begins_with (machine.word_text w) cs) machine.words then machine.InWord cs k else machine.Dead

-- what a word leads to, or its absence
abbrev pub found_word : {A : Type 0} → Option word.Word → A → (machine.Word → A) → A
found_word None none found = none
found_word (Some w) none found = found (word_view w)

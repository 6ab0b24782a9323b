use Rattle.std.proofs.Common.{◌≡◌, drop}
use Rattle.std.specs.List.{list_any}
use Rattle.js_tree.specs.Automaton as machine
use Rattle.js_scope.proofs.Words.{begun_keyword}
use Rattle.js_scope.proofs.word.begins_keyword.Given as goal

abbrev pub invariant-loop-keyword : goal.invariant-loop-keyword
invariant-loop-keyword l =
    begun_keyword (drop l.keyword-index l.keyword-items) l.bytes
    ≡ list_any (λ w. machine.begins_with w l.bytes) machine.begin_statement_words

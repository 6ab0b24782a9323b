use Rattle.std.proofs.Common.{ℕ, ◌+◌, ◌≤◌, List, length}
use Rattle.elm_lexer.specs.Gaps.{IsBlock}
use Rattle.elm_lexer.proofs.gap.after_block.Given as goal

abbrev pub invariant-loop-depth : goal.invariant-loop-depth
invariant-loop-depth l = record {
  few : l.depth + length l.rest ≤ 1 + length l.text;
  within : length l.rest ≤ length l.text;
  whole : (r : List ℕ) → IsBlock l.depth l.rest r → IsBlock 1 l.text r;
  only : (r : List ℕ) → IsBlock 1 l.text r → IsBlock l.depth l.rest r;
}

abbrev pub decreases-loop-depth : goal.decreases-loop-depth
decreases-loop-depth l = length l.rest

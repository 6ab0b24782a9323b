-- The stacks hold what the steps from place `left` on leave.
use Rattle.std.proofs.Common.{◌≡◌, ◌≤◌, List, length, drop}
use Rattle.elm_lexer.specs.Tokens.{Token}
use Rattle.elm_values.specs.Stack.{columns, run}
use Rattle.elm_values.proofs.build.run.Given as goal

abbrev pub invariant-loop-left : goal.invariant-loop-left
invariant-loop-left l =
    (l.left ≤ length l.steps) × ((tokens : List Token) → columns tokens l.stacks ≡ run tokens (drop l.left l.steps))

abbrev pub decreases-loop-left : goal.decreases-loop-left
decreases-loop-left l = l.left

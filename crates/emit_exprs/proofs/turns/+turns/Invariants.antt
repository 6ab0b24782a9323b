use Rattle.std.proofs.Common.{◌≡◌, drop, map}
use Rattle.elm_canon.specs.Tree.{branches_of}
use Rattle.elm_canon.specs.View.{branch_view}
use Rattle.js_emit.specs.Loops.{have_turn}
use Rattle.emit_exprs.proofs.turns.+turns.Given as goal

abbrev pub invariant-have_turn-loop-branch : goal.invariant-have_turn-loop-branch
invariant-have_turn-loop-branch l =
    have_turn l.function l.count (branches_of (map branch_view (drop l.branch-index l.branch-items)))
    ≡ have_turn l.function l.count (branches_of (map branch_view l.branch-items))

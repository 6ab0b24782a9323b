use Rattle.std.proofs.Common.{◌≡◌, ◌≤◌, ◌-◌, length}
use Rattle.js_tree.specs.Postorder.{below_times, trees_of, trees_at}
use Rattle.js_tree.proofs.trees.start_of.Given as goal

abbrev pub invariant-loop : goal.invariant-loop
invariant-loop l = (below_times (l.trees - l.counter) (trees_at l.nodes l.start) ≡ below_times l.trees (trees_of l.nodes)) × (l.start ≤ length l.nodes)

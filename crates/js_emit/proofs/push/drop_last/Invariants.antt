use Rattle.std.proofs.Common.{◌≡◌, ◌≤◌, take, length}
use Rattle.js_emit.proofs.push.drop_last.Given as goal

abbrev pub invariant-loop-trees : goal.invariant-loop-trees
invariant-loop-trees l = record {
  begun : l.start ≤ length l.trees;
  kept : l.trees ≡ take (length l.trees) l.initial.trees;
}

abbrev pub decreases-loop-trees : goal.decreases-loop-trees
decreases-loop-trees l = length l.trees

use Rattle.std.proofs.Common.{◌≡◌, ◌≤◌, length, drop, reverse, Some}
use Rattle.interface.specs.Shapes.{shapes_of}
use Rattle.interface.proofs.shapes.are_of_one.Given as goal

abbrev pub invariant-loop-index : goal.invariant-loop-index
invariant-loop-index l = record {
  within : l.index ≤ length l.nodes;
  read : shapes_of (drop l.index l.nodes) ≡ Some (reverse l.stack.items);
}

abbrev pub decreases-loop-index : goal.decreases-loop-index
decreases-loop-index l = l.index

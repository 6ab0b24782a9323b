use Rattle.std.proofs.Common.{◌-◌, length, drop}
use Rattle.infer_steps.specs.View.{here}
use Rattle.infer_types.specs.Stacks.{waiting}
use Rattle.infer_types.specs.Writing.{NodesWritten}
use Rattle.infer_types.proofs.writing.write_nodes.Given as goal

abbrev pub invariant-loop-i : goal.invariant-loop-i
invariant-loop-i l =
    NodesWritten l.leaves (drop (length l.nodes - l.i) l.nodes) (here l.initial.state) (waiting l.stack.items)
    (here l.state)

use Rattle.std.proofs.Common.{◌<◌, length}
use Rattle.infer_steps.specs.View.{here}
use Rattle.infer_types.proofs.Parting.{Written}
use Rattle.infer_types.proofs.writing.parts_of.Given as goal

abbrev pub invariant-loop-length : goal.invariant-loop-length
invariant-loop-length l =
    record {
      inside : l.start < length l.nodes;
      written : Written l.leaves l.nodes l.arity (here l.initial.state)
          (here l.state) l.length-index l.start l.parameters.items;
    }

use Rattle.std.proofs.Common.{map, take}
use Rattle.elm_type.specs.View.{kind_view}
use Rattle.infer_steps.specs.View.{here}
use Rattle.infer_types.specs.Instances.{AreOfKinds}
use Rattle.infer_types.proofs.instances.of_kinds.Given as goal

abbrev pub invariant-loop-kind : goal.invariant-loop-kind
invariant-loop-kind l =
    AreOfKinds l.position (take l.kind-index (map kind_view l.kinds)) (here l.initial.state) (here l.state)
    l.variables.items

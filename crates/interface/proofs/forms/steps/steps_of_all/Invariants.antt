use Rattle.std.proofs.Common.{◌≡◌, take, map}
use Rattle.std.specs.List.{flat_map}
use Rattle.elm_canon.specs.View.{annotation_view}
use Rattle.interface.specs.Steps.{steps_of}
use Rattle.interface.proofs.forms.steps.steps_of_all.Given as goal

abbrev pub invariant-loop-annotation : goal.invariant-loop-annotation
invariant-loop-annotation l = l.steps.items ≡ flat_map steps_of (map annotation_view (take l.annotation-index l.types))

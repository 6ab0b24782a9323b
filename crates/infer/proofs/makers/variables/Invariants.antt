use Rattle.std.proofs.Common.{◌≡◌, map, take}
use Rattle.elm_canon.specs.Tree.{Variable}
use Rattle.elm_canon.specs.View.{annotation_view}
use Rattle.infer.proofs.makers.variables.Given as goal

abbrev pub invariant-loop-name : goal.invariant-loop-name
invariant-loop-name l = map annotation_view l.variables.items ≡ map (λ a. Variable a) (take l.name-index l.names)

use Rattle.std.proofs.Common.{◌≡◌, map, take}
use Rattle.elm_canon.specs.View.{annotation_view}
use Rattle.infer.proofs.makers.copies.Given as goal

abbrev pub invariant-loop-each : goal.invariant-loop-each
invariant-loop-each l = map annotation_view l.copies.items ≡ map annotation_view (take l.each-index l.types)

use Rattle.std.proofs.Common.{◌≡◌, map, take}
use Rattle.elm_type.specs.View.{kind_view}
use Rattle.infer.proofs.infer_known_types.copy_kinds.Given as goal

abbrev pub invariant-loop-kind : goal.invariant-loop-kind
invariant-loop-kind l = map kind_view l.copies.items ≡ map kind_view (take l.kind-index l.kinds)

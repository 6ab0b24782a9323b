use Rattle.std.proofs.Common.{◌≡◌, map, take}
use Rattle.elm_type.specs.View.{kind_view}
use Rattle.elm_type.specs.Order.{kind_in_order}
use Rattle.elm_type.proofs.order.kinds_in_order.Given as goal

abbrev pub invariant-loop-kind : goal.invariant-loop-kind
invariant-loop-kind l = map kind_view l.ordered.items ≡ map kind_in_order (map kind_view (take l.kind-index l.kinds))

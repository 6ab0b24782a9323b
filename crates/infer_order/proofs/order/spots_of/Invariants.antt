use Rattle.std.proofs.Common.{◌≡◌, map, take}
use Rattle.elm_canon.specs.View.{group_view}
use Rattle.infer_order.specs.Order.{all_spots}
use Rattle.infer_order.proofs.order.spots_of.Given as goal

abbrev pub invariant-loop-number : goal.invariant-loop-number
invariant-loop-number l = l.spots.items ≡ all_spots 0 (map (λ g. group_view g.now) (take l.number l.groups))

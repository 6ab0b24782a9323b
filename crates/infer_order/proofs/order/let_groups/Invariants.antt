use Rattle.std.proofs.Common.{◌≡◌, map, take}
use Rattle.elm_canon.specs.View.{group_view}
use Rattle.infer_order.proofs.order.let_groups.Given as goal

abbrev pub invariant-loop-group : goal.invariant-loop-group
invariant-loop-group l = map (λ g. group_view g.now) l.found.items ≡ map group_view (take l.group-index l.groups)

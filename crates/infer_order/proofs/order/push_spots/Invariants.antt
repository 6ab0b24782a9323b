use Rattle.std.proofs.Common.{◌≡◌, map, take, ◌++◌}
use Rattle.elm_canon.specs.Tree.{functions_of}
use Rattle.elm_canon.specs.View.{function_view}
use Rattle.type_items.specs.Expressions.{function_definitions}
use Rattle.infer_order.specs.Order.{spots_from}
use Rattle.infer_order.proofs.order.push_spots.Given as goal

abbrev pub invariant-loop-function : goal.invariant-loop-function
invariant-loop-function l =
    l.spots.items
    ≡ l.initial.spots.items
    ++ spots_from l.number 0 (function_definitions (functions_of (map function_view (take l.function l.each-items))))

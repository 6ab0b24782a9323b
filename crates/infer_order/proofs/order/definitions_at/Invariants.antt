use Rattle.std.proofs.Common.{map, take, List}
use Rattle.std.specs.List.{AllZip}
use Rattle.elm_canon.specs.View.{group_view}
use Rattle.type_items.specs.Definitions.{Definition}
use Rattle.infer_order.specs.Order.{AreDefinitions, StandsAt}
use Rattle.infer_order.proofs.order.definitions_at.Given as goal

abbrev pub invariant-loop-spot : goal.invariant-loop-spot
invariant-loop-spot l =
    let gs = map (λ g. group_view g.now) l.groups in
    (ds : List Definition) → AllZip (StandsAt gs) (take l.spot-index l.spots) ds → AreDefinitions gs l.definitions.items
    ds

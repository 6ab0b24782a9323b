use Rattle.std.proofs.Common.{map, arith}
use Rattle.elm_canon.specs.View.{group_view}
use Rattle.infer_order.proofs.Listing.{next_definition}
use Rattle.infer_order.proofs.order.definitions_at.Goals as goal

pub loop-spot-preserved : goal.loop-spot-preserved
loop-spot-preserved c =
    next_definition (map (λ g. group_view g.now) c.args.groups.now) c.args.spots.now c.loop-spot.spot-index _
    c.definition_at.result
    c.loop-spot.definitions.items c.push.new.self.items (omega arith) c.in_ok-push.ensures.items c.loop-spot.invariant
    (λ d s. c.definition_at.ensures d s)

-- Places of numbers in an order that grows: `step_order`, `step_nodes`.
use Rattle.std.proofs.Common.{[]}
use Rattle.std.specs.List.{flat_map}
use Rattle.elm_type.specs.Nodes.{leaves}
use Rattle.elm_type.specs.Schemes.{in_order}
use Rattle.elm_type.proofs.Places.{step_order, step_nodes}
use Rattle.elm_type.proofs.renaming.placed_nodes.Goals as goal

pub loop-node-preserved : goal.loop-node-preserved
loop-node-preserved c =
    let ns = c.args.nodes.now in
    let whole = in_order [] (flat_map leaves ns) in
    record {
      places = c.in_ok-placed_node.ensures.places;
      order = step_order ns c.loop-node.node-index c.node-item.result c.loop-node.order.items c.placed_node.new.order.items whole c.loop-node-test.true
          c.node-item.is c.in_ok-placed_node.ensures.order c.loop-node.invariant.order;
      nodes = step_nodes ns c.loop-node.others.items c.push.new.self.items c.loop-node.node-index c.node-item.result c.in_ok-placed_node.field-0
          c.loop-node.order.items c.placed_node.new.order.items whole c.loop-node-test.true c.node-item.is c.in_ok-placed_node.ensures.order
          c.loop-node.invariant.order c.in_ok-placed_node.ensures.node c.loop-node.invariant.nodes c.in_ok-push.ensures.items;
    }

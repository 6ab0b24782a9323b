-- What is said of a type, by its nodes: `fits_at`.
use Rattle.elm_type.proofs.ByNodes.{fits_at}
use Rattle.elm_type.proofs.instance.shifted_nodes.Goals as goal

pub shifted_node-requires : goal.shifted_node-requires
shifted_node-requires c =
    rw c.node-item.is (fits_at c.args.first c.args.nodes.now c.loop-node.node-index c.node-item.result c.loop-node-test.true c.requires)

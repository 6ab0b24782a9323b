-- One node after another, from the last on: `node_added`, `node_refused`.
use Rattle.std.proofs.Common.{◌-◌, reverse, ◌∙◌, arith}
use Rattle.interface.proofs.Stacks.{shapes_at_end, node_added, node_refused, taken_is, taken_none}
use Rattle.interface.proofs.shapes.are_of_one.Goals as goal

pub loop-index-init : goal.loop-index-init
loop-index-init c = record { within = omega arith; read = shapes_at_end c.args.nodes.now c.new-stack.result.items c.new-stack.ensures.items }

pub returns-then-not-branch : goal.returns-then-not-branch
returns-then-not-branch c =
    node_refused c.args.nodes.now (c.loop-index.index - 1) (node_added c.args.nodes.now c.loop-index.index c.index-nodes-index.result c.loop-index.stack.items _
    c.loop-index-test.true c.loop-index.invariant.within c.index-nodes-index.is c.loop-index.invariant.read c.in_ok-add_node.ensures
    ∙ taken_none c.in_ok-add_node.field-0 (reverse c.add_node.new.stack.items) c.if-not-branch.true)

pub loop-index-preserved : goal.loop-index-preserved
loop-index-preserved c = record {
  within = omega arith;
  read = node_added c.args.nodes.now c.loop-index.index c.index-nodes-index.result c.loop-index.stack.items _
      c.loop-index-test.true c.loop-index.invariant.within c.index-nodes-index.is c.loop-index.invariant.read c.in_ok-add_node.ensures
      ∙ taken_is c.in_ok-add_node.field-0 (reverse c.add_node.new.stack.items) c.if-not-branch.false;
}

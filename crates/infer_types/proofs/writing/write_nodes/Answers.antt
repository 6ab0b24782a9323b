-- Nodes in turn: `begins`, `next_fits`, `next`, `ends`.
use Rattle.std.proofs.Common.{◌≡◌, ◌-◌, length, drop, [], ◌∷◌, sym, ap, ◌∙◌, subst, arith}
use Rattle.type_store.specs.View.{field_view}
use Rattle.infer_steps.specs.View.{here}
use Rattle.infer_steps.proofs.Stepping.{all_still_live}
use Rattle.infer_types.specs.Stacks.{waiting, names}
use Rattle.infer_types.specs.Writing.{NodeFits, NodeWritten, NodesWritten}
use Rattle.infer_types.proofs.Loops.{begins, next_fits, next, ends, not_empty}
use Rattle.infer_types.proofs.Stacks.{pushed, nothing_left}
use Rattle.infer_types.proofs.writing.write_nodes.Goals as goal

pub loop-i-init : goal.loop-i-init
loop-i-init c =
    subst (λ xs. NodesWritten c.args.leaves.now (drop (length c.args.nodes.now - 0) c.args.nodes.now)
    (here c.args.state.now) (waiting xs) (here c.args.state.now))
    (sym c.new-stack.ensures.items) (begins c.args.leaves.now c.args.nodes.now (here c.args.state.now) c.requires.whole)

pub write_node-requires-clause-leaves : goal.write_node-requires-clause-leaves
write_node-requires-clause-leaves c =
    all_still_live (here c.args.state.now) (here c.loop-i.state) c.args.leaves.now c.loop-i.invariant.follows
    c.requires.leaves

pub write_node-requires-clause-fits : goal.write_node-requires-clause-fits
write_node-requires-clause-fits c =
    subst (λ n. NodeFits c.loop-i.state.store c.args.leaves.now n (names (waiting c.loop-i.stack.items)))
    (sym c.index-nodes-count.is)
    (next_fits c.args.leaves.now c.args.nodes.now (here c.args.state.now) (here c.loop-i.state)
    (waiting c.loop-i.stack.items) c.loop-i.i c.index-nodes-count.result
    c.loop-i-test.true c.requires.spelled c.requires.leaves c.requires.can c.loop-i.invariant)

pub loop-i-preserved : goal.loop-i-preserved
loop-i-preserved c =
    next c.args.leaves.now c.args.nodes.now (here c.args.state.now) (here c.loop-i.state) (here c.write_node.new.state)
    (waiting c.loop-i.stack.items)
    (waiting c.write_node.new.stack.items) c.loop-i.i c.index-nodes-count.result c.loop-i-test.true c.loop-i.invariant
    (subst (λ n. NodeWritten c.args.leaves.now n (waiting c.loop-i.stack.items) (here c.loop-i.state)
    (waiting c.write_node.new.stack.items) (here c.write_node.new.state))
    c.index-nodes-count.is c.in_ok-write_node.ensures)

pub unreachable-requires : goal.unreachable-requires
unreachable-requires c =
    (let none : c.loop-i.stack.items ≡ [] = nothing_left c.loop-i.stack.items
    (omega (arith, c.loop-i.stack.ok.0, c.in-None.ensures.cases.0)) in
    let end : c.loop-i.i ≡ length c.args.nodes.now = omega (arith, c.loop-i-test.false, c.loop-i.auto.i-end) in
    not_empty c.args.leaves.now c.args.nodes.now (here c.args.state.now) (here c.loop-i.state) c.requires.spelled
    (subst (λ k. NodesWritten c.args.leaves.now (drop (length c.args.nodes.now - k) c.args.nodes.now)
    (here c.args.state.now) [] (here c.loop-i.state)) end
    (subst (λ xs. NodesWritten c.args.leaves.now (drop (length c.args.nodes.now - c.loop-i.i) c.args.nodes.now)
    (here c.args.state.now) (waiting xs) (here c.loop-i.state)) none
    c.loop-i.invariant)))

pub returns : goal.returns
returns c =
    (let is : waiting c.loop-i.stack.items ≡ field_view c.in-Some.part ∷ waiting c.pop.new.self.items =
    ap waiting c.in-Some.ensures.items ∙ pushed field_view c.pop.new.self.items c.in-Some.part in
    let end : c.loop-i.i ≡ length c.args.nodes.now = omega (arith, c.loop-i-test.false, c.loop-i.auto.i-end) in
    ends c.args.leaves.now c.args.nodes.now (here c.args.state.now) (here c.loop-i.state) (field_view c.in-Some.part)
    (waiting c.pop.new.self.items) c.requires.spelled
    (subst (λ k. NodesWritten c.args.leaves.now (drop (length c.args.nodes.now - k) c.args.nodes.now)
    (here c.args.state.now)
    (field_view c.in-Some.part ∷ waiting c.pop.new.self.items) (here c.loop-i.state)) end
    (subst (λ fs. NodesWritten c.args.leaves.now (drop (length c.args.nodes.now - c.loop-i.i) c.args.nodes.now)
    (here c.args.state.now) fs (here c.loop-i.state)) is
    c.loop-i.invariant)))

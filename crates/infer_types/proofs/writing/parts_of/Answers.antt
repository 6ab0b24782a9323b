-- Parameters in turn, and then the result: `written_first`, `next_written`, `all_written`.
use Rattle.std.proofs.Common.{◌+◌, get_or, refl, sym, ◌∙◌, subst, arith}
use Rattle.infer_steps.specs.View.{here}
use Rattle.infer_steps.proofs.Stepping.{all_still_live}
use Rattle.infer_types.specs.Writing.{CanWrite, Writes}
use Rattle.infer_types.proofs.Spines.{the_rest}
use Rattle.infer_types.proofs.Parting.{Written, written_first, next_room, next_nodes, next_can, next_written}
use Rattle.infer_types.proofs.Parting.{last_nodes, last_can, all_written, spelled, is_of}
use Rattle.infer_types.proofs.writing.parts_of.Goals as goal

pub loop-length-init : goal.loop-length-init
loop-length-init c =
    (let first = written_first c.args.leaves.now c.args.nodes.now c.args.arity (here c.args.state.now) c.requires.whole
    c.requires.spelled in
    record {
      inside = first.inside;
      written =
          subst (λ vs. Written c.args.leaves.now c.args.nodes.now c.args.arity (here c.args.state.now)
          (here c.args.state.now) 0 0 vs) (sym c.new-parameters.ensures.items) first;
    })

pub write_part-requires-clause-inside : goal.write_part-requires-clause-inside
write_part-requires-clause-inside c =
    (let room = next_room c.args.leaves.now c.args.nodes.now c.args.arity (here c.args.state.now)
    (here c.loop-length.state) c.loop-length.length-index c.loop-length.start
    (get_or c.deref-length-items.result.now c.loop-length.length-index 0) c.loop-length.parameters.items
    c.deref-length-items.result.now c.loop-length.invariant.written
    (c.deref-length-items.ensures.value ∙ c.in_ok-lengths.ensures) c.loop-length-test.true refl in
    omega (arith, room))

pub write_part-requires-clause-spelled : goal.write_part-requires-clause-spelled
write_part-requires-clause-spelled c =
    (let nodes = next_nodes c.args.leaves.now c.args.nodes.now c.args.arity (here c.args.state.now)
    (here c.loop-length.state) c.loop-length.length-index c.loop-length.start
    (get_or c.deref-length-items.result.now c.loop-length.length-index 0) c.loop-length.parameters.items
    c.deref-length-items.result.now c.loop-length.invariant.written
    (c.deref-length-items.ensures.value ∙ c.in_ok-lengths.ensures) c.loop-length-test.true refl in
    spelled _ _ nodes)

pub write_part-requires-clause-leaves : goal.write_part-requires-clause-leaves
write_part-requires-clause-leaves c =
    all_still_live (here c.args.state.now) (here c.loop-length.state) c.args.leaves.now
    c.loop-length.invariant.written.parts.follows c.requires.leaves

pub write_part-requires-clause-can : goal.write_part-requires-clause-can
write_part-requires-clause-can c =
    (let n = get_or c.deref-length-items.result.now c.loop-length.length-index 0 in
    let measured = c.deref-length-items.ensures.value ∙ c.in_ok-lengths.ensures in
    let nodes = next_nodes c.args.leaves.now c.args.nodes.now c.args.arity (here c.args.state.now)
    (here c.loop-length.state) c.loop-length.length-index c.loop-length.start
    n c.loop-length.parameters.items c.deref-length-items.result.now c.loop-length.invariant.written measured
    c.loop-length-test.true refl in
    subst (CanWrite c.loop-length.state.store c.args.leaves.now) (sym (is_of _ _ nodes))
    (next_can c.args.leaves.now c.args.nodes.now c.args.arity (here c.args.state.now) (here c.loop-length.state)
    c.loop-length.length-index c.loop-length.start
    n c.loop-length.parameters.items c.deref-length-items.result.now c.loop-length.invariant.written measured
    c.loop-length-test.true refl c.requires.leaves c.requires.can))

pub overflow_add-start-in-loop-length-2 : goal.overflow_add-start-in-loop-length-2
overflow_add-start-in-loop-length-2 c =
    (let room = next_room c.args.leaves.now c.args.nodes.now c.args.arity (here c.args.state.now)
    (here c.loop-length.state) c.loop-length.length-index c.loop-length.start
    (get_or c.deref-length-items.result.now c.loop-length.length-index 0) c.loop-length.parameters.items
    c.deref-length-items.result.now c.loop-length.invariant.written
    (c.deref-length-items.ensures.value ∙ c.in_ok-lengths.ensures) c.loop-length-test.true refl in
    omega (arith, room, c.well_formed))

pub loop-length-preserved : goal.loop-length-preserved
loop-length-preserved c =
    (let n = get_or c.deref-length-items.result.now c.loop-length.length-index 0 in
    let measured = c.deref-length-items.ensures.value ∙ c.in_ok-lengths.ensures in
    let nodes = next_nodes c.args.leaves.now c.args.nodes.now c.args.arity (here c.args.state.now)
    (here c.loop-length.state) c.loop-length.length-index c.loop-length.start
    n c.loop-length.parameters.items c.deref-length-items.result.now c.loop-length.invariant.written measured
    c.loop-length-test.true refl in
    let made = subst (λ t. Writes c.args.leaves.now t (here c.loop-length.state) (here c.write_part.new.state)
    c.in_ok-parameter.parameter) (is_of _ _ nodes) c.in_ok-parameter.ensures in
    let more = next_written c.args.leaves.now c.args.nodes.now c.args.arity (here c.args.state.now)
    (here c.loop-length.state) c.loop-length.length-index c.loop-length.start
    n c.loop-length.parameters.items c.deref-length-items.result.now c.loop-length.invariant.written measured
    c.loop-length-test.true refl (here c.write_part.new.state)
    c.in_ok-parameter.parameter made in
    record {
      inside = more.inside;
      written =
          subst (λ vs. Written c.args.leaves.now c.args.nodes.now c.args.arity (here c.args.state.now)
          (here c.write_part.new.state) (c.loop-length.length-index + 1)
          (c.loop-length.start + 1 + n) vs) (sym c.in_ok-push.ensures.items) more;
    })

pub write_part-requires-2-clause-spelled : goal.write_part-requires-2-clause-spelled
write_part-requires-2-clause-spelled c =
    (let nodes = last_nodes c.args.leaves.now c.args.nodes.now c.args.arity (here c.args.state.now)
    (here c.loop-length.state) c.loop-length.length-index c.loop-length.start
    c.loop-length.parameters.items c.deref-length-items.result.now c.loop-length.invariant.written
    (c.deref-length-items.ensures.value ∙ c.in_ok-lengths.ensures)
    c.loop-length-test.false in
    spelled _ _ (the_rest c.loop-length.start c.args.nodes.now ∙ nodes))

pub write_part-requires-2-clause-leaves : goal.write_part-requires-2-clause-leaves
write_part-requires-2-clause-leaves c =
    all_still_live (here c.args.state.now) (here c.loop-length.state) c.args.leaves.now
    c.loop-length.invariant.written.parts.follows c.requires.leaves

pub write_part-requires-2-clause-can : goal.write_part-requires-2-clause-can
write_part-requires-2-clause-can c =
    (let measured = c.deref-length-items.ensures.value ∙ c.in_ok-lengths.ensures in
    let nodes = last_nodes c.args.leaves.now c.args.nodes.now c.args.arity (here c.args.state.now)
    (here c.loop-length.state) c.loop-length.length-index c.loop-length.start
    c.loop-length.parameters.items c.deref-length-items.result.now c.loop-length.invariant.written measured
    c.loop-length-test.false in
    subst (CanWrite c.loop-length.state.store c.args.leaves.now)
    (sym (is_of _ _ (the_rest c.loop-length.start c.args.nodes.now ∙ nodes)))
    (last_can c.args.leaves.now c.args.nodes.now c.args.arity (here c.args.state.now) (here c.loop-length.state)
    c.loop-length.length-index c.loop-length.start
    c.loop-length.parameters.items c.deref-length-items.result.now c.loop-length.invariant.written measured
    c.loop-length-test.false c.requires.leaves c.requires.can))

pub returns : goal.returns
returns c =
    (let measured = c.deref-length-items.ensures.value ∙ c.in_ok-lengths.ensures in
    let nodes = last_nodes c.args.leaves.now c.args.nodes.now c.args.arity (here c.args.state.now)
    (here c.loop-length.state) c.loop-length.length-index c.loop-length.start
    c.loop-length.parameters.items c.deref-length-items.result.now c.loop-length.invariant.written measured
    c.loop-length-test.false in
    all_written c.args.leaves.now c.args.nodes.now c.args.arity (here c.args.state.now) (here c.loop-length.state)
    c.loop-length.length-index c.loop-length.start
    c.loop-length.parameters.items c.deref-length-items.result.now c.loop-length.invariant.written measured
    c.loop-length-test.false (here c.write_part-2.new.state)
    c.in_ok-result.result
    (subst (λ t. Writes c.args.leaves.now t (here c.loop-length.state) (here c.write_part-2.new.state)
    c.in_ok-result.result)
    (is_of _ _ (the_rest c.loop-length.start c.args.nodes.now ∙ nodes)) c.in_ok-result.ensures))

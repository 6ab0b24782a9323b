use Rattle.std.proofs.Common.{◌+◌, sym, ◌∙◌, subst, arith}
use Rattle.infer_types.proofs.Spines.{Cut, cut_first, cut_room, cut_next, cut_none, the_rest}
use Rattle.infer_types.proofs.arrows.parameter_lengths.Goals as goal

pub loop-i-init : goal.loop-i-init
loop-i-init c =
    record {
      inside = omega arith;
      cut = subst (Cut c.args.nodes.now c.args.arity 0 0) (sym c.new-lengths.ensures.items)
          (cut_first c.args.nodes.now c.args.arity c.requires);
    }

pub returns-in-None : goal.returns-in-None
returns-in-None c =
    cut_none c.args.nodes.now c.args.arity c.loop-i._i c.loop-i.start c.loop-i.lengths.items c.loop-i.invariant.cut
    (sym c.in-None.is ∙ c.first_length.ensures c.loop-i.invariant.cut.left
    (the_rest c.loop-i.start c.args.nodes.now ∙ c.loop-i.invariant.cut.nodes))

pub overflow_add-start : goal.overflow_add-start
overflow_add-start c =
    (let room = cut_room c.args.nodes.now c.args.arity c.loop-i._i c.loop-i.start c.in-Some.length
    c.loop-i.lengths.items c.loop-i.invariant.cut
    (sym c.in-Some.is ∙ c.first_length.ensures c.loop-i.invariant.cut.left
    (the_rest c.loop-i.start c.args.nodes.now ∙ c.loop-i.invariant.cut.nodes)) in
    omega (arith, room, c.well_formed))

pub overflow_add-start-in-Some : goal.overflow_add-start-in-Some
overflow_add-start-in-Some c =
    (let room = cut_room c.args.nodes.now c.args.arity c.loop-i._i c.loop-i.start c.in-Some.length
    c.loop-i.lengths.items c.loop-i.invariant.cut
    (sym c.in-Some.is ∙ c.first_length.ensures c.loop-i.invariant.cut.left
    (the_rest c.loop-i.start c.args.nodes.now ∙ c.loop-i.invariant.cut.nodes)) in
    omega (arith, room, c.well_formed))

pub loop-i-preserved : goal.loop-i-preserved
loop-i-preserved c =
    (let first = sym c.in-Some.is ∙ c.first_length.ensures c.loop-i.invariant.cut.left
    (the_rest c.loop-i.start c.args.nodes.now ∙ c.loop-i.invariant.cut.nodes) in
    let room = cut_room c.args.nodes.now c.args.arity c.loop-i._i c.loop-i.start c.in-Some.length c.loop-i.lengths.items
    c.loop-i.invariant.cut first in
    record {
      inside = omega (arith, room);
      cut =
          subst (Cut c.args.nodes.now c.args.arity (c.loop-i._i + 1) (c.loop-i.start + (c.in-Some.length + 1)))
          (sym c.in_ok-push-in-Some.ensures.items)
          (cut_next c.args.nodes.now c.args.arity c.loop-i._i c.loop-i.start c.in-Some.length c.loop-i.lengths.items
          c.loop-i.invariant.cut c.loop-i-test.true first);
    })

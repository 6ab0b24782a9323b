-- So many types, one after the other: `step_off`, `other_off`, `none_off`.
use Rattle.std.proofs.Common.{◌≡◌, [], reverse, arith}
use Rattle.std.proofs.lemmas.List.{nil_from_length}
use Rattle.interface.specs.Shapes.{left_after}
use Rattle.interface.proofs.Stacks.{step_off, other_off, none_off}
use Rattle.interface.proofs.shapes.take_off.Goals as goal

pub returns-in-None : goal.returns-in-None
returns-in-None c =
    let e : c.loop.stack.items ≡ [] = nil_from_length c.loop.stack.items (omega (arith, c.in-None.ensures.cases, c.loop.stack.ok.0)) in
    none_off c.args.named c.args.count c.loop.counter c.loop.stack.items (left_after c.args.named c.args.count (reverse c.args.stack.now.items)) c.loop-test.true e c.loop.invariant

pub returns-then-has_name-named : goal.returns-then-has_name-named
returns-then-has_name-named c =
    other_off c.args.named c.in-Some.has_name c.args.count c.loop.counter c.loop.stack.items c.pop.new.self.items (left_after c.args.named c.args.count (reverse c.args.stack.now.items))
    c.loop-test.true c.in-Some.ensures.items c.if-has_name-named.true c.loop.invariant

pub loop-preserved : goal.loop-preserved
loop-preserved c =
    step_off c.args.named c.in-Some.has_name c.args.count c.loop.counter c.loop.stack.items c.pop.new.self.items (left_after c.args.named c.args.count (reverse c.args.stack.now.items))
    c.loop-test.true c.in-Some.ensures.items c.if-has_name-named.false c.loop.invariant

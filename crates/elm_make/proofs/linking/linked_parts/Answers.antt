use Rattle.std.proofs.Common.{arith}
use Rattle.elm_make.proofs.Taken.{taking_more, taking_out, taking_all}
use Rattle.elm_make.proofs.linking.linked_parts.Goals as goal

pub loop-number-preserved : goal.loop-number-preserved
loop-number-preserved c =
    taking_more c.args.parts.now c.args.values.now c.loop-number.number c.index-parts-number.result
    c.index-values-number.result c.in_ok-one.field-0 c.in-Some.one c.loop-number.linked.items
    c.push.new.self.items (omega (arith, c.loop-number-test.true))
    (omega (arith, c.loop-number-test.true, c.requires)) c.index-parts-number.is c.index-values-number.is
    c.in_ok-one.ensures c.in-Some.is c.in_ok-push-in-Some.ensures.items c.loop-number.invariant

pub returns-in-None : goal.returns-in-None
returns-in-None c =
    taking_out c.args.parts.now c.args.values.now c.loop-number.number c.index-parts-number.result
    c.index-values-number.result c.in_ok-one.field-0 c.loop-number.linked.items
    (omega (arith, c.loop-number-test.true)) (omega (arith, c.loop-number-test.true, c.requires))
    c.index-parts-number.is c.index-values-number.is c.in_ok-one.ensures c.in-None.is c.loop-number.invariant

pub returns : goal.returns
returns c =
    taking_all c.args.parts.now c.args.values.now c.loop-number.number c.loop-number.linked.items
    (omega (arith, c.loop-number-test.false)) c.loop-number.invariant

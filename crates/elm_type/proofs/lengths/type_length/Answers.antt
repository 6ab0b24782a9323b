use Rattle.std.proofs.Common.{arith}
use Rattle.elm_type.proofs.Counting.{waits_first, waits_next, all_there, all_passed}
use Rattle.elm_type.proofs.lengths.type_length.Goals as goal

pub loop-i-init : goal.loop-i-init
loop-i-init c = waits_first c.args.nodes.now

pub returns-then-needed-eq0 : goal.returns-then-needed-eq0
returns-then-needed-eq0 c =
    all_there c.args.nodes.now c.loop-i.i c.loop-i.needed c.if-needed-eq0.true c.loop-i.invariant

pub loop-i-preserved : goal.loop-i-preserved
loop-i-preserved c =
    waits_next c.args.nodes.now c.loop-i.i c.loop-i.needed c.saturating_add-needed.result c.index-nodes-i.result
    c.loop-i-test.true c.index-nodes-i.is
    c.if-needed-eq0.false (λ h. omega (arith, h, c.saturating_add-needed.ensures, c.following.ensures, c.well_formed))
    c.loop-i.invariant

pub returns : goal.returns
returns c =
    λ t rest e. all_passed c.args.nodes.now c.loop-i.i c.loop-i.needed
    (omega (arith, c.loop-i-test.false, c.loop-i.auto.i-end)) c.loop-i.invariant t rest e

use Rattle.std.proofs.Common.{◌≡◌, ◌-◌, suc, arith}
use Rattle.emit_exprs.proofs.EmitFramesSteps.{one_test, no_test}
use Rattle.emit_exprs.proofs.branches.end_tests.Goals as goal

pub loop-left-preserved : goal.loop-left-preserved
loop-left-preserved c =
    let n = c.loop-left.left in
    let next : n ≡ suc (n - 1) = omega (arith, c.loop-left-test.true) in
    record {
      few = omega (arith, c.loop-left.invariant.few);
      rest = λ j k ss s ts h was.
          one_test j k (n - 1) n ss s ts _ _ next (omega (arith, c.loop-left-test.true, c.loop-left.invariant.few, h))
          (c.loop-left.invariant.rest j k ss s ts h was) c.in_ok-push.ensures.trees;
    }

pub returns : goal.returns
returns c = λ j k ss s ts h was.
    no_test j k c.loop-left.left ss s ts _ (omega (arith, c.loop-left-test.false))
    (c.loop-left.invariant.rest j k ss s ts h was)

use Rattle.std.proofs.Common.{length, ap, arith}
use Rattle.std.proofs.lemmas.List.{length_push}
use Rattle.infer_steps.specs.View.{here}
use Rattle.infer_steps.proofs.make.open_each.Goals as goal
use Rattle.infer_steps.proofs.Stepping.{opened_none, opened_more}

pub loop-i-init : goal.loop-i-init
loop-i-init c = record {
  made = rw c.new-variables.ensures.items (opened_none (here c.args.state.now) c.requires);
  count = ap length c.new-variables.ensures.items;
}

pub loop-i-preserved : goal.loop-i-preserved
loop-i-preserved c = record {
  made = rw c.in_ok-push.ensures.items (opened_more _ _ _ c.loop-i.variables.items c.in_ok-variable.variable c.loop-i.invariant.made c.in_ok-variable.ensures);
  count = omega (arith, ap length c.in_ok-push.ensures.items, length_push c.loop-i.variables.items c.in_ok-variable.variable, c.loop-i.invariant.count);
}

use Rattle.infer_steps.proofs.parts.repeated.Goals as goal
use Rattle.infer_steps.proofs.Plans.{repeated_more}

pub loop-i-preserved : goal.loop-i-preserved
loop-i-preserved c = repeated_more _ _ c.loop-i._i c.args.item c.loop-i.invariant c.in_ok-push.ensures.items

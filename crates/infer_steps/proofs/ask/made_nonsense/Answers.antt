use Rattle.infer_steps.proofs.ask.made_nonsense.Goals as goal
use Rattle.infer_steps.proofs.Lacking.{is_nonsense}

pub returns : goal.returns
returns c =
    let made = rw c.new.ensures.items at c.in_ok-unit.ensures in
    is_nonsense c.fail_law.ensures.same _ _ _ c.args.position c.in_ok-int.int c.in_ok-unit.unit made.follows.whole c.in_ok-int.ensures made

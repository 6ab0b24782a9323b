use Rattle.std.proofs.Common.{subst, sym}
use Rattle.infer_steps.specs.View.{here}
use Rattle.infer_exprs.specs.Begun.{PatternIsLarge}
use Rattle.infer_exprs.proofs.Around.{ends, large, pattern_is_done}
use Rattle.infer_exprs.proofs.patterns.end_pattern.Goals as goal

pub returns-in-Err-clause-large : goal.returns-in-Err-clause-large
returns-in-Err-clause-large c b e =
    subst (PatternIsLarge c.args.position c.args.variable (here c.args.state.now) (here c.args.state.now))
    (sym (c.in-Err.ensures.what b e))
    (large c.args.position c.args.variable (here c.args.state.now) (c.in-Err.ensures.large b e))

pub returns-clause-ends : goal.returns-clause-ends
returns-clause-ends c =
    ends pattern_is_done c.args.position c.args.variable (here c.args.state.now) (here c.leave_both.new.state)
    c.in-Ok.ensures.small c.leave_both.ensures

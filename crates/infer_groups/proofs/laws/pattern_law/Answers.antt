use Rattle.infer_groups.proofs.Patterns.{pattern_done}
use Rattle.infer_groups.proofs.laws.pattern_law.Goals as goal

pub returns : goal.returns
returns c code p e i v bound old mid u x ready place opened f live matched g walked small =
    pattern_done c.choice_law.ensures c.saying_law.ensures.later c.saying_law.ensures.more c.principal_law.ensures code
    p e i v bound old mid u x ready place
    opened f live matched g walked small

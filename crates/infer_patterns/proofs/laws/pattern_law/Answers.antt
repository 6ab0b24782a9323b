use Rattle.infer_patterns.proofs.laws.pattern_law.Goals as goal
use Rattle.infer_patterns.proofs.Entering.{same_known, enters_pattern, ready_pattern, enters_each, ready_each}

pub returns-clause-known : goal.returns-clause-known
returns-clause-known c = same_known

pub returns-clause-enters : goal.returns-clause-enters
returns-clause-enters c = enters_pattern c.setting_law.ensures.later c.scope_law.ensures.bound

pub returns-clause-ready : goal.returns-clause-ready
returns-clause-ready c = ready_pattern c.following_law.ensures.ready

pub returns-clause-enters_each : goal.returns-clause-enters_each
returns-clause-enters_each c = enters_each c.setting_law.ensures.later c.scope_law.ensures.bound

pub returns-clause-ready_each : goal.returns-clause-ready_each
returns-clause-ready_each c = ready_each c.following_law.ensures.ready

use Rattle.infer_steps.proofs.laws.following_law.Goals as goal
use Rattle.infer_steps.proofs.Staying.{follows_itself, follows_on, ready_later}

pub returns-clause-itself : goal.returns-clause-itself
returns-clause-itself c = follows_itself

pub returns-clause-on : goal.returns-clause-on
returns-clause-on c = follows_on

pub returns-clause-ready : goal.returns-clause-ready
returns-clause-ready c = ready_later c.choice_law.ensures

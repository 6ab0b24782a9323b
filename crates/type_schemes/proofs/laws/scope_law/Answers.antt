use Rattle.type_schemes.proofs.laws.scope_law.Goals as goal
use Rattle.type_schemes.proofs.Closing.{closes}

pub returns : goal.returns
returns c = closes c.choice_law.ensures

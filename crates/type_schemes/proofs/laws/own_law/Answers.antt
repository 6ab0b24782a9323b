use Rattle.type_schemes.proofs.laws.own_law.Goals as goal
use Rattle.type_schemes.proofs.Holding.{stays_own, holds_own}

pub returns-clause-stays : goal.returns-clause-stays
returns-clause-stays c = stays_own

pub returns-clause-holds : goal.returns-clause-holds
returns-clause-holds c = holds_own c.choice_law.ensures

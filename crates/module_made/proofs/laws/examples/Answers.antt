use Rattle.std.specs.Prelude.{refl}
use Rattle.module_offers.specs.Offers.{module_interface}
use Rattle.module_made.specs.Made.{too_long}
use Rattle.module_made.proofs.laws.examples.Goals as goal

pub returns-clause-misplaced : goal.returns-clause-misplaced
returns-clause-misplaced c = refl

pub returns-clause-offered : goal.returns-clause-offered
unfolding module_interface
returns-clause-offered c = refl

pub returns-clause-unexposed : goal.returns-clause-unexposed
unfolding module_interface
returns-clause-unexposed c = refl

pub returns-clause-too_long : goal.returns-clause-too_long
returns-clause-too_long c = too_long

-- Name by name: `offers`.
use Rattle.module_proper.proofs.Showing.{offers}
use Rattle.module_proper.proofs.laws.shown_law.Goals as goal

pub returns : goal.returns
returns c = offers

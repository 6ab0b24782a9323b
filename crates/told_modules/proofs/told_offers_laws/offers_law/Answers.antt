use Rattle.told_modules.proofs.Offers.{offers_told}
use Rattle.told_modules.proofs.told_offers_laws.offers_law.Goals as goal

pub returns : goal.returns
returns c = offers_told

use Rattle.type_items.proofs.laws.copies_law.Goals as goal
use Rattle.type_items.proofs.Parts.{copies_ask}

pub returns : goal.returns
returns c = copies_ask

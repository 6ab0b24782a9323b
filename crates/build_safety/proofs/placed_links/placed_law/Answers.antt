use Rattle.build_safety.proofs.PlacedLinks.{links_placed}
use Rattle.build_safety.proofs.placed_links.placed_law.Goals as goal

pub returns : goal.returns
returns c = links_placed

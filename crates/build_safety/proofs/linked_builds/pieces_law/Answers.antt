use Rattle.build_safety.proofs.LinkedPieces.{links_have_pieces}
use Rattle.build_safety.proofs.linked_builds.pieces_law.Goals as goal

pub returns : goal.returns
returns c = links_have_pieces

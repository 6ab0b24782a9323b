use Rattle.build_safety.proofs.SimplePieces.{pieces_simple}
use Rattle.build_safety.proofs.simple_pieces.simple_law.Goals as goal

pub returns : goal.returns
returns c = pieces_simple

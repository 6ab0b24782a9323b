-- A link writes the program of the modules: `tells_program`.
use Rattle.link.proofs.Written.{tells_program}
use Rattle.link.proofs.laws.link_law.Goals as goal

pub returns : goal.returns
returns c = λ sources entry s o at linked. tells_program sources entry s o at linked

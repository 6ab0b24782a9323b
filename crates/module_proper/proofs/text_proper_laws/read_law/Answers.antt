-- By what a text guarantees of its tree: `text_read`.
use Rattle.module_proper.proofs.Read.{text_read}
use Rattle.module_proper.proofs.text_proper_laws.read_law.Goals as goal

pub returns : goal.returns
returns c = text_read

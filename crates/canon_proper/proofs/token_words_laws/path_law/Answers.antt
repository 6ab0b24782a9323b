-- Name by name: `path_module`.
use Rattle.canon_proper.proofs.Paths.{path_module}
use Rattle.canon_proper.proofs.token_words_laws.path_law.Goals as goal

pub returns : goal.returns
returns c = path_module

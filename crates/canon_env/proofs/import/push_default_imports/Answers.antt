-- One import after the other.
use Rattle.std.proofs.Common.{append_assoc, rules}
use Rattle.canon_env.specs.Imports.{default_imports}
use Rattle.canon_env.proofs.import.push_default_imports.Goals as goal

pub returns : goal.returns
unfolding default_imports
returns c = search (rules, append_assoc)

-- One import after the other.
use Rattle.std.proofs.Common.{append_assoc, rules}
use Rattle.canon_env.specs.Imports.{more_imports}
use Rattle.canon_env.proofs.import.push_more_imports.Goals as goal

pub returns : goal.returns
unfolding more_imports
returns c = search (rules, append_assoc)

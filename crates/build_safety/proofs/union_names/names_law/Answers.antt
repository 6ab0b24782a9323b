use Rattle.build_safety.proofs.UnionNames.{unions_found}
use Rattle.build_safety.proofs.union_names.names_law.Goals as goal

pub returns : goal.returns
returns c = unions_found

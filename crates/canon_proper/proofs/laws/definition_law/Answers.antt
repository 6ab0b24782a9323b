-- The parameters, then the body: `definition_proper`. Functions: `functions_are`.
use Rattle.canon_proper.proofs.Exprs.{definition_proper, functions_are}
use Rattle.canon_proper.proofs.laws.definition_law.Goals as goal

pub returns : goal.returns
returns c = record { proper = definition_proper; function = functions_are }

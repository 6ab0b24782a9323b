use Rattle.type_safety.proofs.Covering.{faultless_is_simple, simple_is_resolved}
use Rattle.type_safety.proofs.pattern_safety_laws.simple_law.Goals as goal

pub returns-clause-simple : goal.returns-clause-simple
returns-clause-simple c = faultless_is_simple

pub returns-clause-resolved : goal.returns-clause-resolved
returns-clause-resolved c = simple_is_resolved

-- The comparison of runs: `same_run_itself`, `same_run_through`, `same_run_exactly`.
use Rattle.runs.proofs.Equivalence.{same_run_itself, same_run_through, same_run_exactly}
use Rattle.runs.proofs.laws.same_run_laws.Goals as goal

pub returns-clause-reflexive : goal.returns-clause-reflexive
returns-clause-reflexive c = same_run_itself

pub returns-clause-transitive : goal.returns-clause-transitive
returns-clause-transitive c f g h = same_run_through

pub returns-clause-exact : goal.returns-clause-exact
returns-clause-exact c f g = same_run_exactly

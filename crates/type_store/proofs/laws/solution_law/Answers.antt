-- Each store has a solution: `solution`.
use Rattle.type_store.proofs.Solution.{solution}
use Rattle.type_store.proofs.laws.solution_law.Goals as goal

pub returns : goal.returns
returns c = solution c.kind_law.ensures

use Rattle.type_walks.proofs.type_steps_laws.make_law.Goals as goal
use Rattle.type_walks.proofs.Stepping.{opens, builds}
use Rattle.type_walks.proofs.RowTypes.{builds_row}
use Rattle.type_walks.proofs.Lacking.{row_goes}

pub returns-clause-opens : goal.returns-clause-opens
returns-clause-opens c = opens

pub returns-clause-builds : goal.returns-clause-builds
returns-clause-builds c = builds

pub returns-clause-row : goal.returns-clause-row
returns-clause-row c = builds_row

pub returns-clause-goes : goal.returns-clause-goes
returns-clause-goes c = row_goes c.solution_law.ensures

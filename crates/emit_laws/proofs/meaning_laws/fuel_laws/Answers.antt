use Rattle.emit_laws.proofs.meaning_laws.fuel_laws.Goals as goal
use Rattle.emit_laws.proofs.Fuel.{ends_stay}
use Rattle.emit_laws.proofs.Runs.{runs_go_on}

pub returns : goal.returns
returns c = record { ends_stay = ends_stay; runs_go_on = runs_go_on }

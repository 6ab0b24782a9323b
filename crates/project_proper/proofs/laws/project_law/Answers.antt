use Rattle.project_proper.proofs.Taken.{resolved_are_proper, resolved_links, values_in_scope}
use Rattle.project_proper.proofs.laws.project_law.Goals as goal

pub returns : goal.returns
returns c = record { proper = resolved_are_proper; linked = resolved_links; values = values_in_scope }

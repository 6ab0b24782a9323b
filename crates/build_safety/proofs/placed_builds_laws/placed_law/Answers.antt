use Rattle.build_safety.proofs.Placed.{modules_are_parts, placed_never_stuck}
use Rattle.build_safety.proofs.placed_builds_laws.placed_law.Goals as goal

pub returns : goal.returns
returns c = record { parts = modules_are_parts; programs = placed_never_stuck }

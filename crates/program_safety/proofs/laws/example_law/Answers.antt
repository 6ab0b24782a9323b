use Rattle.program_safety.proofs.Example.{main_is_typed}
use Rattle.program_safety.proofs.laws.example_law.Goals as goal

pub returns : goal.returns
returns c = main_is_typed

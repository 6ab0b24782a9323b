use Rattle.emit_size_laws.proofs.Samples.{adder_named}
use Rattle.emit_size_laws.proofs.laws.adder_law.Goals as goal

pub returns : goal.returns
returns c = adder_named

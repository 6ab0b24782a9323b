use Rattle.emit_size_laws.proofs.EmitSubsetLawsSamples.{adder_proper, adder_written}
use Rattle.emit_size_laws.proofs.emit_subset_laws.adder_law.Goals as goal

pub returns-clause-proper : goal.returns-clause-proper
returns-clause-proper c = adder_proper

pub returns-clause-written : goal.returns-clause-written
returns-clause-written c = adder_written

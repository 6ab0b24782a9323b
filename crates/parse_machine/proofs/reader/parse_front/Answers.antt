-- A stop is the reading of the longest front (`front_reading`), or its fault (`front_fault`).
use Rattle.std.proofs.Common.{refl}
use Rattle.parse_machine.proofs.Stopping.{front_reading, front_fault}
use Rattle.parse_machine.proofs.reader.parse_front.Goals as goal

pub run-requires-clause-begun : goal.run-requires-clause-begun
run-requires-clause-begun c = record { start = c.args.start; within = c.requires.started; one = refl }

pub returns-then-stop-clause-read : goal.returns-then-stop-clause-read
returns-then-stop-clause-read c = front_reading _ _ _ _ _ _ _ _ c.in_ok-stop.ensures c.if-stop.true

pub returns-else-stop-clause-fault : goal.returns-else-stop-clause-fault
returns-else-stop-clause-fault c = front_fault _ _ _ _ _ _ _ _ c.in_ok-stop.ensures c.if-stop.false _ c.fault_of.ensures

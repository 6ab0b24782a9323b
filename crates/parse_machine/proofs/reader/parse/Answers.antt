-- A stop with nothing left is a reading (`whole_reading`), and any other one a fault (`stop_fault`).
use Rattle.std.proofs.Common.{refl, sym, ◌∙◌}
use Rattle.parse_machine.proofs.Stopping.{whole_reading, stop_fault}
use Rattle.parse_machine.proofs.reader.parse.Goals as goal

pub run-requires-clause-begun : goal.run-requires-clause-begun
run-requires-clause-begun c = record { start = c.args.start; within = c.requires.started; one = refl }

pub returns-then-is_whole-clause-read : goal.returns-then-is_whole-clause-read
returns-then-is_whole-clause-read c =
    let w = c.is_whole.ensures.0 c.if-is_whole.true in
    whole_reading _ _ _ _ _ _ _ _ c.in_ok-stop.ensures w.0 w.1

pub returns-else-is_whole-clause-fault : goal.returns-else-is_whole-clause-fault
returns-else-is_whole-clause-fault c = stop_fault _ _ _ _ _ _ _ _ c.in_ok-stop.ensures (λ w e. let t =
    c.is_whole.ensures.1 (w, e) in let f = c.if-is_whole.false in cc) _ c.fault_of.ensures

-- What a put answers says what it put: all, a beginning, or nothing.
use Rattle.std.proofs.Common.{refl, subst, sym}
use Rattle.elm_files.specs.States.{sink_state}
use Rattle.commands.specs.Report.{Prints, all_printed, none_printed, part_printed}
use Rattle.commands.proofs.Pieces.{failed_rose}
use Rattle.commands.proofs.report.printed.Goals as goal

pub returns-in-Ok : goal.returns-in-Ok
returns-in-Ok g c = all_printed c.in-Ok.ensures.ok c.in-Ok.ensures.same_faults refl

pub returns-in-Err-Failed : goal.returns-in-Err-Failed
returns-in-Err-Failed g c =
    part_printed (rw c.in-Err-Failed.field-0-is at c.in-Err-Failed.ensures.part)
    (failed_rose _ _ c.requires (rw c.in-Err-Failed.field-0-is at c.in-Err-Failed.ensures.failed)) refl

pub returns-in-Err-NoMemory : goal.returns-in-Err-NoMemory
returns-in-Err-NoMemory g c =
    let out = sink_state g.O.Sink c.args.out.now in
    let out' = sink_state g.O.Sink c.put.new.self in
    let err = sink_state g.E.Sink c.args.err.now in
    let err' = sink_state g.E.Sink c.out_of_memory.new.err in
    subst (λ status. Prints c.args.line.now out out' err err' status) (sym c.out_of_memory.ensures.status)
    (none_printed (rw c.in-Err-NoMemory.field-0-is at c.in-Err-NoMemory.ensures.no_memory)
    (rw c.in-Err-NoMemory.field-0-is at c.in-Err-NoMemory.ensures.same_faults) c.out_of_memory.ensures.told)

-- What a put answers says what it put: all, a beginning, or nothing.
use Rattle.std.proofs.Common.{subst, sym}
use Rattle.elm_files.specs.States.{sink_state}
use Rattle.elm_files.specs.Texts.{LongerByPart}
use Rattle.commands.specs.Causes.{memory_line}
use Rattle.commands.specs.Report.{Says, all_said, none_said, part_said}
use Rattle.commands.proofs.Pieces.{failed_rose}
use Rattle.commands.proofs.report.said.Goals as goal

pub returns-in-Ok : goal.returns-in-Ok
returns-in-Ok g c = all_said c.in-Ok.ensures.ok c.in-Ok.ensures.same_faults

pub returns-in-Err-Failed : goal.returns-in-Err-Failed
returns-in-Err-Failed g c =
    part_said (rw c.in-Err-Failed.field-0-is at c.in-Err-Failed.ensures.part)
    (failed_rose _ _ c.requires (rw c.in-Err-Failed.field-0-is at c.in-Err-Failed.ensures.failed))

pub returns-in-Err-NoMemory : goal.returns-in-Err-NoMemory
returns-in-Err-NoMemory g c =
    let old = sink_state g.E.Sink c.args.err.now in
    let new = sink_state g.E.Sink c.out_of_memory.new.err in
    subst (λ status. Says c.args.lines.now c.args.status old new status) (sym c.out_of_memory.ensures.status)
    (none_said
    (subst (λ text. LongerByPart text memory_line new.text)
    (rw c.in-Err-NoMemory.field-0-is at c.in-Err-NoMemory.ensures.no_memory) c.out_of_memory.ensures.told))

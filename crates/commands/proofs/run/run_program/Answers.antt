-- Each arm ends the run in one of the ways of `Ran`, by what `run` leaves and what the report then prints.
use Rattle.std.proofs.Common.{Some, refl, subst}
use Rattle.command_line.specs.Command.{run}
use Rattle.run_files.specs.RunEnd.{HasCause, IsToldIfRose, LeavesAtEnd}
use Rattle.commands.specs.Outside.{outside}
use Rattle.commands.specs.Report.{Says}
use Rattle.commands.proofs.Kept.{by_file_failure, unchanged}
use Rattle.commands.proofs.Ran as ran
use Rattle.commands.proofs.run.run_program.Goals as goal

pub returns-in-Ok-Ready : goal.returns-in-Ok-Ready
returns-in-Ok-Ready g c =
    let old = outside g.F.Files g.O.Sink g.E.Sink c.args.files.now c.args.out.now c.args.err.now in
    let new = outside g.F.Files g.O.Sink g.E.Sink c.run.new.files c.run.new.out c.args.err.now in
    ran.ready c.args.program.now c.args.inputs.now c.args.fuel old new c.run.ensures.keeps c.in-Ok-Ready.field-0
    c.in-Ok-Ready.ensures.ran c.in-Ok-Ready.ensures.no_fault.0 c.in-Ok-Ready.ensures.no_fault.1
    c.in-Ok-Ready.field-0-is refl

pub returns-in-Ok-Stopped : goal.returns-in-Ok-Stopped
returns-in-Ok-Stopped g c =
    let old = outside g.F.Files g.O.Sink g.E.Sink c.args.files.now c.args.out.now c.args.err.now in
    let new = outside g.F.Files g.O.Sink g.E.Sink c.run.new.files c.run.new.out c.args.err.now in
    ran.stopped c.args.program.now c.args.inputs.now c.args.fuel old new c.run.ensures.keeps c.in-Ok-Stopped.field-0
    c.in-Ok-Stopped.ensures.ran c.in-Ok-Stopped.ensures.no_fault.0 c.in-Ok-Stopped.ensures.no_fault.1
    c.in-Ok-Stopped.field-0-is refl

pub returns-in-Ok-Refused : goal.returns-in-Ok-Refused
returns-in-Ok-Refused g c =
    let old = outside g.F.Files g.O.Sink g.E.Sink c.args.files.now c.args.out.now c.args.err.now in
    let new = outside g.F.Files g.O.Sink g.E.Sink c.run.new.files c.run.new.out c.said.new.err in
    ran.refused c.args.program.now c.args.inputs.now c.args.fuel old new c.run.ensures.keeps c.in-Ok-Refused.field-0
    c.in-Ok-Refused.ensures.ran c.in-Ok-Refused.ensures.no_fault.0 c.in-Ok-Refused.ensures.no_fault.1
    c.in-Ok-Refused.line c.in-Ok-Refused.field-0-is c.said.result
    (subst (λ line. Says line 1 old.err new.err c.said.result) c.deref.ensures.value c.said.ensures)

pub returns-in-Err-File : goal.returns-in-Err-File
returns-in-Err-File g c =
    let old = outside g.F.Files g.O.Sink g.E.Sink c.args.files.now c.args.out.now c.args.err.now in
    let new = outside g.F.Files g.O.Sink g.E.Sink c.run.new.files c.run.new.out c.file_failed.new.err in
    let asked = Some (run c.args.program.now c.args.inputs.now c.args.fuel) in
    by_file_failure asked old new tt c.in-Err-File.path c.file_failed.result c.file_failed.ensures.status
    (subst (λ e. HasCause e old.files.faults new.files.faults old.out.faults new.out.faults) c.in-Err-File.field-0-is
    c.in-Err-File.ensures.cause)
    c.file_failed.ensures.told
    (subst
    (λ e. LeavesAtEnd e old.files.tree c.args.program.now c.args.inputs.now c.args.fuel old.out.text new.out.text)
    c.in-Err-File.field-0-is c.in-Err-File.ensures.part)
    (unchanged asked old.files.tree new.files.tree c.run.ensures.keeps)

pub returns-in-Err-Sink : goal.returns-in-Err-Sink
returns-in-Err-Sink g c =
    let old = outside g.F.Files g.O.Sink g.E.Sink c.args.files.now c.args.out.now c.args.err.now in
    let new = outside g.F.Files g.O.Sink g.E.Sink c.run.new.files c.run.new.out c.args.err.now in
    ran.sink_failed c.args.program.now c.args.inputs.now c.args.fuel old new c.run.ensures.keeps
    (subst (λ e. HasCause e old.files.faults new.files.faults old.out.faults new.out.faults) c.in-Err-Sink.field-0-is
    c.in-Err-Sink.ensures.cause)
    (subst (λ e. IsToldIfRose e old.files.faults new.files.faults old.out.faults new.out.faults)
    c.in-Err-Sink.field-0-is c.in-Err-Sink.ensures.told)
    (subst
    (λ e. LeavesAtEnd e old.files.tree c.args.program.now c.args.inputs.now c.args.fuel old.out.text new.out.text)
    c.in-Err-Sink.field-0-is c.in-Err-Sink.ensures.part)
    refl

pub returns-in-Err-NoMemory : goal.returns-in-Err-NoMemory
returns-in-Err-NoMemory g c =
    let old = outside g.F.Files g.O.Sink g.E.Sink c.args.files.now c.args.out.now c.args.err.now in
    let new = outside g.F.Files g.O.Sink g.E.Sink c.run.new.files c.run.new.out c.out_of_memory.new.err in
    let told = subst (λ e. IsToldIfRose e old.files.faults new.files.faults old.out.faults new.out.faults)
    c.in-Err-NoMemory.field-0-is c.in-Err-NoMemory.ensures.told in
    ran.out_of_memory c.args.program.now c.args.inputs.now c.args.fuel old new c.run.ensures.keeps
    c.out_of_memory.result c.out_of_memory.ensures.status c.out_of_memory.ensures.told told.0 told.1
    (subst
    (λ e. LeavesAtEnd e old.files.tree c.args.program.now c.args.inputs.now c.args.fuel old.out.text new.out.text)
    c.in-Err-NoMemory.field-0-is c.in-Err-NoMemory.ensures.part)

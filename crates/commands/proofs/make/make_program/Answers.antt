-- Each arm ends the build in one of the ways of `Built`, by what `build` leaves and what the report then prints.
use Rattle.std.proofs.Common.{refl, subst}
use Rattle.commands.specs.Outside.{outside}
use Rattle.commands.specs.Report.{Prints, Says}
use Rattle.commands.proofs.Built as built
use Rattle.commands.proofs.make.make_program.Goals as goal

pub returns-in-Text : goal.returns-in-Text
returns-in-Text g c =
    let old = outside g.F.Files g.O.Sink g.E.Sink c.args.files.now c.args.out.now c.args.err.now in
    let new = outside g.F.Files g.O.Sink g.E.Sink c.build.new.files c.printed.new.out c.printed.new.err in
    built.text_written c.safety_law.ensures c.args.entry.now c.args.output.now c.args.jobs old new c.in-Ok.built
    c.in-Ok.ensures.outcome c.in-Ok.ensures.count c.in-Ok.ensures.built c.utf8.entry c.in-Text.field-0 c.in-Text.is
    c.printed.result
    (subst (λ line. Prints line old.out new.out old.err new.err c.printed.result) c.deref.ensures.value
    c.printed.ensures)

pub returns-in-Ok : goal.returns-in-Ok
returns-in-Ok g c =
    let old = outside g.F.Files g.O.Sink g.E.Sink c.args.files.now c.args.out.now c.args.err.now in
    let new = outside g.F.Files g.O.Sink g.E.Sink c.build.new.files c.args.out.now c.said.new.err in
    built.refused c.safety_law.ensures c.args.entry.now c.args.output.now c.args.jobs old new c.in-Ok.built
    c.in-Ok.ensures.outcome c.in-Ok.ensures.count c.in-Ok.ensures.built c.in-Stopped.is refl c.said.result
    (subst (λ lines. Says lines 1 old.err new.err c.said.result) c.deref-in-Stopped.ensures.value c.said.ensures)

pub returns-in-Err-File : goal.returns-in-Err-File
returns-in-Err-File g c =
    let old = outside g.F.Files g.O.Sink g.E.Sink c.args.files.now c.args.out.now c.args.err.now in
    let new = outside g.F.Files g.O.Sink g.E.Sink c.build.new.files c.args.out.now c.file_failed.new.err in
    built.file_failed c.safety_law.ensures c.args.entry.now c.args.output.now c.args.jobs old new c.in-Err-File.field-0
    c.in-Err-File.ensures.built refl c.in-Err-File.path c.in-Err-File.field-0-is c.file_failed.result
    c.file_failed.ensures.status c.file_failed.ensures.told

pub returns : goal.returns
returns g c =
    let old = outside g.F.Files g.O.Sink g.E.Sink c.args.files.now c.args.out.now c.args.err.now in
    let new = outside g.F.Files g.O.Sink g.E.Sink c.build.new.files c.args.out.now c.out_of_memory.new.err in
    built.out_of_memory c.safety_law.ensures c.args.entry.now c.args.output.now c.args.jobs old new
    c.in-Err-NoMemory.field-0 c.in-Err-NoMemory.ensures.built refl c.in-Err-NoMemory.field-0-is c.out_of_memory.result
    c.out_of_memory.ensures.status c.out_of_memory.ensures.told

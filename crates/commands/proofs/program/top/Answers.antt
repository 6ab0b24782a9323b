-- What a command promises for what it was asked, it promises for the words that ask for it.
use Rattle.std.proofs.Common.{◌≡◌, None, Some, arith, inl, map, refl, rules, subst, sym}
use Rattle.std.specs.Prelude.{string_bytes}
use Rattle.command_line.specs.Command.{make, run}
use Rattle.command_line.specs.Given.{command_line}
use Rattle.commands.specs.declared.program.TheConstants.{USAGE}
use Rattle.commands.specs.Outside.{outside}
use Rattle.commands.specs.Promise.{KeepsPromise}
use Rattle.commands.proofs.Kept.{at_memory, by_saying, unchanged}
use Rattle.commands.proofs.Settled.{nothing_settled, means}
use Rattle.commands.proofs.program.top.Goals as goal

pub returns-in-Some-Make : goal.returns-in-Some-Make
returns-in-Some-Make g c =
    let asked = c.in-Some-Make in
    let words = map string_bytes c.args.words.now in
    let asks : Some (make asked.entry.now asked.output.now asked.jobs) ≡ command_line words = search rules in
    subst (λ command. KeepsPromise command c.make_program.result
    (outside g.F.Files g.O.Sink g.E.Sink c.args.files.now c.args.out.now c.args.err.now)
    (outside g.F.Files g.O.Sink g.E.Sink c.make_program.new.files c.make_program.new.out c.make_program.new.err))
    asks c.make_program.ensures

pub returns-in-Some-Run : goal.returns-in-Some-Run
returns-in-Some-Run g c =
    let asked = c.in-Some-Run in
    let words = map string_bytes c.args.words.now in
    let asks : Some (run asked.program.now asked.inputs.now asked.fuel) ≡ command_line words = search rules in
    subst (λ command. KeepsPromise command c.run_program.result
    (outside g.F.Files g.O.Sink g.E.Sink c.args.files.now c.args.out.now c.args.err.now)
    (outside g.F.Files g.O.Sink g.E.Sink c.run_program.new.files c.run_program.new.out c.run_program.new.err))
    asks c.run_program.ensures

pub returns-in-None : goal.returns-in-None
returns-in-None g c =
    let words = map string_bytes c.args.words.now in
    let old = outside g.F.Files g.O.Sink g.E.Sink c.args.files.now c.args.out.now c.args.err.now in
    let new = outside g.F.Files g.O.Sink g.E.Sink c.args.files.now c.args.out.now c.said.new.err in
    let none : command_line words ≡ None = sym (rw c.in-None.is at c.in-Ok.ensures) in
    by_saying (command_line words) old new (means c.safety_law.ensures (command_line words) old.files.tree) 2 USAGE.now
    (omega arith) (omega arith)
    (nothing_settled (command_line words) old.files.tree none) refl refl refl refl c.said.result c.said.ensures

pub returns-in_default : goal.returns-in_default
returns-in_default g c =
    let asked = command_line (map string_bytes c.args.words.now) in
    let old = outside g.F.Files g.O.Sink g.E.Sink c.args.files.now c.args.out.now c.args.err.now in
    let new = outside g.F.Files g.O.Sink g.E.Sink c.args.files.now c.args.out.now c.out_of_memory.new.err in
    at_memory asked c.out_of_memory.result old new (means c.safety_law.ensures asked old.files.tree)
    c.out_of_memory.ensures.status c.out_of_memory.ensures.told
    refl refl (inl refl) (unchanged asked old.files.tree new.files.tree refl) (inl refl)

-- One input of a run of which a front part was put: `session_begun`, `session_trace`.
use Rattle.std.proofs.Common.{map, ap, subst}
use Rattle.std.proofs.lemmas.Result.{IfOk-weaker, IfErr-weaker}
use Rattle.wire_value.specs.Wire.{null}
use Rattle.wire_value.specs.View.{wire_view}
use Rattle.js_code.specs.Program.{program_view}
use Rattle.js_meaning.specs.Run.{j_machine}
use Rattle.js_run.specs.Views.{answer_view, app_view, machine_of}
use Rattle.run_files.specs.Told.{told_text}
use Rattle.run_files.specs.View.{input_view}
use Rattle.run_files.specs.Steps.{PutsPart, Tells}
use Rattle.run_files.proofs.Giving.{session_begun, session_trace}
use Rattle.run_files.proofs.session.run_session.Goals as goal

pub go_on-requires-clause-begun : goal.go_on-requires-clause-begun
go_on-requires-clause-begun g c =
    session_begun (program_view c.args.program.now) (wire_view c.args.flags.now) c.args.fuel (app_view c.in_ok-app.app) (answer_view c.in_ok-app.answer) c.in_ok-app.ensures.begins

pub returns-clause-told : goal.returns-clause-told
returns-clause-told g c =
    let same = session_trace (program_view c.args.program.now) (wire_view c.args.flags.now) c.args.fuel (map input_view c.args.inputs.now) (machine_of c.in_ok-app.app) (app_view c.in_ok-app.app) (answer_view c.in_ok-app.answer)
    (ap (λ p. j_machine (program_view p) null) c.in_ok-app.ensures.keeps) c.in_ok-app.ensures.begins (c.laws.ensures (program_view c.args.program.now) (wire_view c.args.flags.now) (map input_view c.args.inputs.now) c.args.fuel) in
    IfOk-weaker c.go_on.result _ _ (λ ended told. subst (λ trace. Tells ended trace (g.O.Sink.text c.args.out.now) (g.O.Sink.text c.go_on.new.out)) same told) c.go_on.ensures.told

pub returns-clause-part : goal.returns-clause-part
returns-clause-part g c =
    let same = session_trace (program_view c.args.program.now) (wire_view c.args.flags.now) c.args.fuel (map input_view c.args.inputs.now) (machine_of c.in_ok-app.app) (app_view c.in_ok-app.app) (answer_view c.in_ok-app.answer)
    (ap (λ p. j_machine (program_view p) null) c.in_ok-app.ensures.keeps) c.in_ok-app.ensures.begins (c.laws.ensures (program_view c.args.program.now) (wire_view c.args.flags.now) (map input_view c.args.inputs.now) c.args.fuel) in
    IfErr-weaker c.go_on.result _ _ (λ end part. subst (λ trace. PutsPart end (told_text trace) (g.O.Sink.text c.args.out.now) (g.O.Sink.text c.go_on.new.out) (g.O.Sink.faults c.args.out.now) (g.O.Sink.faults c.go_on.new.out)) same part) c.go_on.ensures.part

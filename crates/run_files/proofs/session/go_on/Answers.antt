-- One input of a run of which a front part was put: `started_last`, `started_told`, `started_part`, `start_part`.
use Rattle.std.proofs.Common.{◌≡◌, map, sym, ap, ◌∙◌, subst}
use Rattle.std.proofs.lemmas.Result.{IfOk-weaker, IfErr-weaker}
use Rattle.elm_files.specs.Texts.{longer}
use Rattle.js_run.specs.Sessions.{told}
use Rattle.run_files.specs.Told.{told_text}
use Rattle.js_run.specs.Views.{answer_view, app_view, machine_of}
use Rattle.run_files.specs.View.{input_view}
use Rattle.run_files.specs.Steps.{start_text, PutsPart}
use Rattle.run_files.proofs.Giving.{started_last, started_told, started_part, start_part}
use Rattle.run_files.proofs.session.go_on.Goals as goal

pub returns-in-Err-clause-part : goal.returns-in-Err-clause-part
returns-in-Err-clause-part g c =
    let answer = answer_view c.args.answer.now in
    let piece : c.deref.result.now ≡ start_text answer = c.deref.ensures.value ∙ c.in_ok-lines.ensures in
    start_part (machine_of c.args.app.now) c.args.fuel (map input_view c.args.inputs.now) answer.0 (app_view c.args.app.now) answer.1 c.requires.begun (g.O.Sink.text c.args.out.now)
    (g.O.Sink.text c.put.new.out) (g.O.Sink.faults c.args.out.now) (g.O.Sink.faults c.put.new.out) c.in-Err.end
    (subst (λ b. PutsPart c.in-Err.end b (g.O.Sink.text c.args.out.now) (g.O.Sink.text c.put.new.out) (g.O.Sink.faults c.args.out.now) (g.O.Sink.faults c.put.new.out)) piece c.in-Err.ensures.part)

pub returns-then-not-is_done-clause-told : goal.returns-then-not-is_done-clause-told
returns-then-not-is_done-clause-told g c =
    let answer = answer_view c.args.answer.now in
    let piece : c.deref.result.now ≡ start_text answer = c.deref.ensures.value ∙ c.in_ok-lines.ensures in
    started_last (machine_of c.args.app.now) c.args.fuel (map input_view c.args.inputs.now) answer.0 (app_view c.args.app.now) answer.1 c.requires.begun (g.O.Sink.text c.args.out.now)
    (g.O.Sink.text c.put.new.out) (sym c.is_done.ensures ∙ c.if-not-is_done.true) (c.in_default.ensures.ok ∙ ap (λ b. longer (g.O.Sink.text c.args.out.now) b) piece)

pub returns-clause-told : goal.returns-clause-told
returns-clause-told g c =
    let answer = answer_view c.args.answer.now in
    let piece : c.deref.result.now ≡ start_text answer = c.deref.ensures.value ∙ c.in_ok-lines.ensures in
    IfOk-weaker c.give_all.result _ _
    (λ ended told. started_told (machine_of c.args.app.now) c.args.fuel (map input_view c.args.inputs.now) answer.0 (app_view c.args.app.now) answer.1 c.requires.begun (g.O.Sink.text c.args.out.now)
    (g.O.Sink.text c.put.new.out) (g.O.Sink.text c.give_all.new.out) ended (sym c.is_done.ensures ∙ c.if-not-is_done.false) (c.in_default.ensures.ok ∙ ap (λ b. longer (g.O.Sink.text c.args.out.now) b) piece) told)
    c.give_all.ensures.told

pub returns-clause-part : goal.returns-clause-part
returns-clause-part g c =
    let answer = answer_view c.args.answer.now in
    let piece : c.deref.result.now ≡ start_text answer = c.deref.ensures.value ∙ c.in_ok-lines.ensures in
    IfErr-weaker c.give_all.result _ _
    (λ end part. started_part (machine_of c.args.app.now) c.args.fuel (map input_view c.args.inputs.now) answer.0 (app_view c.args.app.now) answer.1 c.requires.begun (g.O.Sink.text c.args.out.now)
    (g.O.Sink.text c.put.new.out) (g.O.Sink.text c.give_all.new.out) (g.O.Sink.faults c.args.out.now) (g.O.Sink.faults c.give_all.new.out) end (sym c.is_done.ensures ∙ c.if-not-is_done.false) (c.in_default.ensures.ok ∙ ap (λ b. longer (g.O.Sink.text c.args.out.now) b) piece)
    (subst (λ n. PutsPart end (told_text (told (machine_of c.args.app.now) c.args.fuel (map input_view c.args.inputs.now) (app_view c.args.app.now))) (g.O.Sink.text c.put.new.out) (g.O.Sink.text c.give_all.new.out) n (g.O.Sink.faults c.give_all.new.out)) c.in_default.ensures.no_fault part))
    c.give_all.ensures.part

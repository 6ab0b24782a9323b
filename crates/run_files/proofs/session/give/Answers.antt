-- What is put after an answered input is the text of its answer.
use Rattle.std.proofs.Common.{ap, ◌∙◌}
use Rattle.elm_files.specs.Texts.{longer}
use Rattle.wire_value.specs.View.{wire_view}
use Rattle.js_run.specs.Sessions.{answer_input}
use Rattle.js_run.specs.Views.{answer_view, app_view, machine_of}
use Rattle.run_files.specs.Steps.{answer_text}
use Rattle.run_files.proofs.session.give.Goals as goal

pub returns-clause-text : goal.returns-clause-text
returns-clause-text g c =
    let port = c.args.given.now.port in
    let machine = machine_of c.args.app.now in
    c.in_ok-put.ensures.ok
    ∙ ap (λ lines. longer (g.O.Sink.text c.args.out.now) lines) (c.deref.ensures.value
    ∙ c.in_ok-lines.ensures
    ∙ ap (λ p. answer_text p (answer_view c.in_ok-answer.answer)) c.as_slice-2.ensures
    ∙ ap (λ r. answer_text port r.1) (c.in_ok-answer.ensures.answers ∙ ap (λ p. answer_input machine c.args.fuel (p, wire_view c.args.given.now.value) (app_view c.args.app.now)) c.as_slice.ensures))

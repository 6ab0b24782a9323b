-- One input of a run of which a front part was put: `next_given`, `given_on`, `given_last`, `given_part`.
use Rattle.std.proofs.Common.{◌+◌, map, drop, sym, ◌∙◌}
use Rattle.js_run.specs.Sessions.{told}
use Rattle.js_run.specs.Views.{app_view, machine_of}
use Rattle.run_files.specs.View.{input_view}
use Rattle.run_files.proofs.Giving.{next_given, given_on, given_last, given_part}
use Rattle.run_files.proofs.session.give_all.Goals as goal

pub loop-given-preserved : goal.loop-given-preserved
loop-given-preserved g c =
    let i = c.loop-given.given-index in
    let inputs = c.args.inputs.now in
    let machine = machine_of c.args.app.now in
    let whole = told machine c.args.fuel (map input_view inputs) (app_view c.args.app.now) in
    let on = given_on (machine_of c.loop-given.app) machine c.args.fuel whole (g.O.Sink.text c.args.out.now) (g.O.Sink.text c.loop-given.out) (map input_view (drop i inputs)) (map input_view (drop (i + 1) inputs)) (input_view c.given-item.result) (app_view c.loop-given.app)
    c.loop-given.invariant.2 c.loop-given.invariant.0 c.loop-given.invariant.1 (next_given inputs i c.given-item.result c.loop-given-test.true c.given-item.is)
    (app_view c.give.new.app) (g.O.Sink.text c.give.new.out) (sym c.in-Ok-true.ensures.on ∙ c.in-Ok-true.field-0-test) c.in-Ok-true.ensures.text c.in-Ok-true.ensures.app in
    (on.0, on.1, c.in-Ok-true.ensures.keeps ∙ c.loop-given.invariant.2, c.in-Ok-true.ensures.no_fault ∙ c.loop-given.invariant.3)

pub returns-in-Ok-false-clause-told : goal.returns-in-Ok-false-clause-told
returns-in-Ok-false-clause-told g c =
    let i = c.loop-given.given-index in
    let inputs = c.args.inputs.now in
    let machine = machine_of c.args.app.now in
    let whole = told machine c.args.fuel (map input_view inputs) (app_view c.args.app.now) in
    given_last (machine_of c.loop-given.app) machine c.args.fuel whole (g.O.Sink.text c.args.out.now) (g.O.Sink.text c.loop-given.out) (map input_view (drop i inputs)) (map input_view (drop (i + 1) inputs)) (input_view c.given-item.result) (app_view c.loop-given.app)
    c.loop-given.invariant.2 c.loop-given.invariant.0 c.loop-given.invariant.1 (next_given inputs i c.given-item.result c.loop-given-test.true c.given-item.is)
    (g.O.Sink.text c.give.new.out) (sym c.in-Ok-false.ensures.on ∙ c.in-Ok-false.field-0-test) c.in-Ok-false.ensures.text

pub returns-in-Err-clause-part : goal.returns-in-Err-clause-part
returns-in-Err-clause-part g c =
    let i = c.loop-given.given-index in
    let inputs = c.args.inputs.now in
    let machine = machine_of c.args.app.now in
    let whole = told machine c.args.fuel (map input_view inputs) (app_view c.args.app.now) in
    given_part (machine_of c.loop-given.app) machine c.args.fuel whole (g.O.Sink.text c.args.out.now) (g.O.Sink.text c.loop-given.out) (map input_view (drop i inputs)) (map input_view (drop (i + 1) inputs)) (input_view c.given-item.result) (app_view c.loop-given.app)
    c.loop-given.invariant.2 c.loop-given.invariant.0 c.loop-given.invariant.1 (next_given inputs i c.given-item.result c.loop-given-test.true c.given-item.is)
    (g.O.Sink.text c.give.new.out) (g.O.Sink.faults c.loop-given.out) (g.O.Sink.faults c.args.out.now) (g.O.Sink.faults c.give.new.out) c.in-Err.end c.loop-given.invariant.3 c.in-Err.ensures.part

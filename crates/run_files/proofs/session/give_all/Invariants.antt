use Rattle.std.proofs.Common.{◌≡◌, map, drop}
use Rattle.js_run.specs.Sessions.{told}
use Rattle.js_run.specs.Views.{app_view, machine_of}
use Rattle.run_files.specs.View.{input_view}
use Rattle.run_files.specs.Steps.{IsRunning}
use Rattle.run_files.proofs.Remains.{Remains}
use Rattle.run_files.proofs.session.give_all.Given as goal

abbrev pub invariant-loop-given : goal.invariant-loop-given
invariant-loop-given g l =
    let machine = machine_of l.initial.app in
    Remains (told machine l.fuel (map input_view l.inputs) (app_view l.initial.app)) (told machine l.fuel (map input_view (drop l.given-index l.inputs)) (app_view l.app)) (g.O.Sink.text l.initial.out) (g.O.Sink.text l.out)
    × IsRunning (app_view l.app) × (machine_of l.app ≡ machine) × (g.O.Sink.faults l.out ≡ g.O.Sink.faults l.initial.out)

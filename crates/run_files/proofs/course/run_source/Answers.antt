-- The run of a program's text, once it was read: `run_of_text`, `stop_of_text`, `refused_text`.
use Rattle.std.proofs.Common.{subst, ap, ◌∙◌}
use Rattle.std.proofs.lemmas.Result.{IfOk-weaker, IfErr-weaker}
use Rattle.js_tree.specs.Postorder.{trees_of, top}
use Rattle.js_scope.specs.Read.{IsRefused, place_view}
use Rattle.js_scope.specs.declared.refusal.Refusal.TheVariants.{At}
use Rattle.run_files.proofs.Sources.{run_of_text, stop_of_text, refused_text}
use Rattle.run_files.proofs.course.run_source.Goals as goal

pub returns-in_ok-lent-in-Ok-clause-ran : goal.returns-in_ok-lent-in-Ok-clause-ran
returns-in_ok-lent-in-Ok-clause-ran g c =
    let read = c.in-Ok.ensures.read in
    let whole = ap (λ t. top (trees_of t)) c.in_ok-lent-in-Ok.ensures ∙ read.whole in
    IfOk-weaker c.run_trees.result _ _
    (λ ended ran. run_of_text (g.F.Files.tree c.args.files.now) c.args.program.now c.args.text.now c.args.fuel c.args.inputs.now (g.O.Sink.text c.args.out.now) (g.O.Sink.text c.run_trees.new.out) read.program read.admitted read.text read.only ended (ran read.program whole))
    c.run_trees.ensures.ran

pub returns-in_ok-lent-in-Ok-clause-stopped : goal.returns-in_ok-lent-in-Ok-clause-stopped
returns-in_ok-lent-in-Ok-clause-stopped g c =
    let read = c.in-Ok.ensures.read in
    let whole = ap (λ t. top (trees_of t)) c.in_ok-lent-in-Ok.ensures ∙ read.whole in
    IfErr-weaker c.run_trees.result _ _
    (λ end stop. stop_of_text (g.F.Files.tree c.args.files.now) c.args.program.now c.args.text.now c.args.fuel c.args.inputs.now (g.O.Sink.text c.args.out.now) (g.O.Sink.text c.run_trees.new.out) read.program read.admitted read.text read.only end (g.F.Files.faults c.args.files.now) (g.F.Files.faults c.run_trees.new.files) (g.O.Sink.faults c.args.out.now) (g.O.Sink.faults c.run_trees.new.out) (stop read.program whole))
    c.run_trees.ensures.stopped

pub returns-in_ok-line-in-Err-At-clause-ran : goal.returns-in_ok-line-in-Err-At-clause-ran
returns-in_ok-line-in-Err-At-clause-ran g c =
    let refused : IsRefused (At c.in-Err-At.place) c.args.text.now = subst (λ r. IsRefused r c.args.text.now) c.in-Err-At.field-0-is c.in-Err-At.ensures.refused in
    refused_text (g.F.Files.tree c.args.files.now) c.args.program.now c.args.text.now c.args.fuel c.args.inputs.now (g.O.Sink.text c.args.out.now) (g.O.Sink.text c.args.out.now) (place_view c.in-Err-At.place) c.in_ok-line-in-Err-At.line refused.0 refused.1 c.stop_law.ensures.only c.in_ok-line-in-Err-At.ensures

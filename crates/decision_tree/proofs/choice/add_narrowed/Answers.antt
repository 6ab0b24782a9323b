use Rattle.std.proofs.Common.{◌∷◌, ap, ◌∙◌}
use Rattle.std.proofs.lemmas.Result.{on_ok_weaker}
use Rattle.js_tree.specs.Postorder.{Expression}
use Rattle.decision_tree.specs.declared.choice.Task.TheVariants as task
use Rattle.decision_tree.specs.Run.{all_done}
use Rattle.decision_tree.proofs.Doing.{done_push}
use Rattle.decision_tree.proofs.choice.add_narrowed.Goals as goal

pub returns-in-Ok : goal.returns-in-Ok
returns-in-Ok c =
    let work = c.args.work.now.items in
    on_ok_weaker c.add.result
    (λ e subject ts.
    ap (λ ws. all_done subject ws ts) e
    ∙ (done_push subject work (task.Choose c.in-Ok.matrix) ts
    ∙ ap (λ x. all_done subject work (Expression x ∷ ts)) (c.in-Ok.ensures subject)))
    c.add.ensures

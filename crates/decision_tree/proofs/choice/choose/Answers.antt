use Rattle.std.proofs.Common.{◌∷◌, ap, ◌∙◌, sym}
use Rattle.std.proofs.lemmas.Result.{on_ok_weaker}
use Rattle.js_tree.specs.Postorder.{Expression, trees_of}
use Rattle.decision_tree.specs.declared.choice.Task.TheVariants as task
use Rattle.decision_tree.specs.Run.{all_done}
use Rattle.decision_tree.proofs.Doing.{done_push}
use Rattle.decision_tree.proofs.choice.choose.Goals as goal

pub returns-in-Ok : goal.returns-in-Ok
returns-in-Ok c =
    let work = c.args.work.now.items in
    let ts = trees_of c.args.trees.now in
    on_ok_weaker c.add.result
    (λ e subject.
    ap (λ ws. all_done subject ws ts) e
    ∙ (done_push subject work (task.Try c.in-Ok.chain) ts
    ∙ ap (λ x. all_done subject work (Expression x ∷ ts))
    (c.in-Ok.ensures subject ∙ sym (c.in-Split.ensures.look subject))))
    c.add.ensures

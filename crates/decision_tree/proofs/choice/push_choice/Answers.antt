use Rattle.std.proofs.Common.{◌∷◌, ap, ◌∙◌}
use Rattle.std.proofs.lemmas.Result.{on_ok_weaker}
use Rattle.js_tree.specs.Postorder.{Expression, trees_of}
use Rattle.decision_tree.proofs.Branching.{whole_choice}
use Rattle.decision_tree.proofs.choice.push_choice.Goals as goal

pub returns : goal.returns
returns c =
    on_ok_weaker c.push_first.result
    (λ e.
    e
    ∙ ap (λ x. Expression x ∷ trees_of c.args.trees.now)
    (whole_choice c.args.subject c.args.branches.now _ c.in_ok-patterns.ensures))
    c.push_first.ensures

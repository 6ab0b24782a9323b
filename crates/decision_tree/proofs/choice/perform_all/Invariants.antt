use Rattle.std.proofs.Common.{◌≡◌}
use Rattle.js_tree.specs.Postorder.{trees_of}
use Rattle.decision_tree.specs.Run.{all_done}
use Rattle.decision_tree.proofs.choice.perform_all.Given as goal

abbrev pub invariant-loop : goal.invariant-loop
invariant-loop l =
    all_done l.subject l.work.items (trees_of l.trees) ≡ all_done l.subject l.fn.work.items (trees_of l.fn.trees)

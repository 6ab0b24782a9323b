use Rattle.std.proofs.Common.{◌≡◌, ℕ, drop}
use Rattle.js_emit.specs.Choice.{first_column}
use Rattle.decision_tree.specs.Views.{paths_view, parts_view}
use Rattle.decision_tree.specs.Run.{further_by}
use Rattle.decision_tree.proofs.split.first_column.Given as goal

abbrev pub invariant-loop-number : goal.invariant-loop-number
invariant-loop-number l = (subject : ℕ) → first_column (paths_view subject l.paths) (parts_view l.parts)
    ≡ further_by l.number
    (first_column (drop l.number (paths_view subject l.paths)) (drop l.number (parts_view l.parts)))

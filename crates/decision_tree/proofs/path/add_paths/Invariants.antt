use Rattle.std.proofs.Common.{◌≡◌, ℕ, ◌++◌, drop}
use Rattle.decision_tree.specs.Views.{paths_view}
use Rattle.decision_tree.proofs.path.add_paths.Given as goal

abbrev pub invariant-loop-path : goal.invariant-loop-path
invariant-loop-path l = (subject : ℕ) →
    paths_view subject l.out.items ++ paths_view subject (drop l.path-index l.paths)
    ≡ paths_view subject l.fn.out.items ++ paths_view subject l.paths

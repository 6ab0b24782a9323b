use Rattle.std.proofs.Common.{◌≡◌, ℕ, ◌-◌, ◌++◌}
use Rattle.js_emit.specs.Choice.{part_paths}
use Rattle.decision_tree.specs.Views.{path_view, paths_view}
use Rattle.decision_tree.proofs.path.add_parts.Given as goal

abbrev pub invariant-loop-number : goal.invariant-loop-number
invariant-loop-number l = (subject : ℕ) →
    paths_view subject l.out.items ++ part_paths (l.arity - l.number) l.number (path_view subject l.path)
    ≡ paths_view subject l.fn.out.items ++ part_paths (l.arity - 0) 0 (path_view subject l.path)

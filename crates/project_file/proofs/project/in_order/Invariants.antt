use Rattle.std.proofs.Common.{◌≡◌, ◌++◌}
use Rattle.project_file.proofs.project.in_order.Given as goal

abbrev pub invariant-loop-path : goal.invariant-loop-path
invariant-loop-path l = l.list.items ++ l.path-iterator ≡ l.fn.paths.keys

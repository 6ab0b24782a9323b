use Rattle.std.proofs.Common.{◌≡◌, []}
use Rattle.project_file.proofs.Distinct.{paths_so_far}
use Rattle.project_file.proofs.project.distinct_paths.Given as goal

-- the paths so far and those that are left are all
abbrev pub invariant-loop-item : goal.invariant-loop-item
invariant-loop-item l = paths_so_far l.items l.paths.keys l.item-index ≡ paths_so_far l.items [] 0

use Rattle.decl_groups.specs.Groups.{plain}
use Rattle.import_graph.specs.Rings.{IsLeast}
use Rattle.import_graph.proofs.ordering.least_ring.Given as goal

-- the ring with the least first module among the groups so far
abbrev pub invariant-loop-place : goal.invariant-loop-place
invariant-loop-place l = IsLeast (plain l.uses) (plain l.groups) l.place l.least

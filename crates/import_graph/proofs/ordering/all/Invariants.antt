use Rattle.std.proofs.Common.{◌≡◌, ◌++◌, drop}
use Rattle.decl_groups.specs.Groups.{plain}
use Rattle.import_graph.specs.Rings.{joined}
use Rattle.import_graph.proofs.ordering.all.Given as goal

-- the modules so far, and those of the groups that are left
abbrev pub invariant-loop-group : goal.invariant-loop-group
invariant-loop-group l =
    l.modules.items ++ joined (plain (drop l.group-index l.groups)) ≡ joined (plain l.groups)

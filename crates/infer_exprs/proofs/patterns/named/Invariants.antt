use Rattle.std.proofs.Common.{◌≡◌, map, take}
use Rattle.infer_groups.specs.Laws.{bound_named}
use Rattle.infer_groups.specs.Names.{named_views}
use Rattle.infer_patterns.specs.View.{bound_view}
use Rattle.infer_exprs.proofs.patterns.named.Given as goal

abbrev pub invariant-loop-one : goal.invariant-loop-one
invariant-loop-one l = named_views l.names.items ≡ bound_named (map bound_view (take l.one-index l.bound))

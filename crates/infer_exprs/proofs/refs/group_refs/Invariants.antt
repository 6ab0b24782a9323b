use Rattle.std.proofs.Common.{◌≡◌, map, take}
use Rattle.infer_exprs.proofs.refs.group_refs.Given as goal

abbrev pub invariant-loop-group : goal.invariant-loop-group
invariant-loop-group l = map (λ g. g.now) l.found.items ≡ take l.group-index l.groups

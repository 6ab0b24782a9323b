use Rattle.std.proofs.Common.{◌≡◌, map, take}
use Rattle.canon_env.specs.Shown.{unions_view}
use Rattle.canon_module.specs.Resolve.{union_name}
use Rattle.canon_module.proofs.module.union_names.Given as goal

abbrev pub invariant-loop-union : goal.invariant-loop-union
invariant-loop-union l = l.names.items ≡ map union_name (unions_view (take l.union-index l.unions))

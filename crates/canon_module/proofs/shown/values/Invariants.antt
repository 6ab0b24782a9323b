use Rattle.std.proofs.Common.{◌≡◌, take}
use Rattle.std.specs.List.{filter}
use Rattle.canon_env.specs.Filter.{filter_value}
use Rattle.canon_module.proofs.shown.values.Given as goal

abbrev pub invariant-loop-name : goal.invariant-loop-name
invariant-loop-name l = l.values.items ≡ filter (filter_value l.passing) (take l.name-index l.all)

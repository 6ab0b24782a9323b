use Rattle.std.proofs.Common.{◌≡◌, ◌++◌, map, take}
use Rattle.interface.specs.Interface.{Value, value_view}
use Rattle.infer.specs.Named.{named_views}
use Rattle.infer.proofs.infer_known_types.push_values.Given as goal

abbrev pub invariant-loop-value : goal.invariant-loop-value
invariant-loop-value l =
    named_views l.found.items
    ≡ named_views l.fn.found.items
    ++ map (λ (v : Value). (v.name, v.scheme)) (map value_view (take l.value-index l.values))

use Rattle.std.proofs.Common.{◌≡◌, drop, map}
use Rattle.canon_env.specs.Exposing.{is_among}
use Rattle.interface.specs.Interface.{Value, value_view}
use Rattle.module_offers.proofs.operator_faults_functions.is_named.Given as goal

abbrev pub invariant-loop-value : goal.invariant-loop-value
invariant-loop-value l =
    is_among l.name (map (λ (v : Value). v.name) (map value_view (drop l.value-index l.values)))
    ≡ is_among l.name (map (λ (v : Value). v.name) (map value_view l.values))

use Rattle.std.proofs.Common.{◌≡◌, drop, map}
use Rattle.elm_canon.specs.Tree.{functions_of}
use Rattle.elm_canon.specs.View.{function_view}
use Rattle.elm_canon.specs.declared.reference.Ref.TheVariants.{Top}
use Rattle.elm_canon.specs.Proper.{among, function_names}
use Rattle.module_offers.proofs.operator_faults_functions.is_any.Given as goal

abbrev pub invariant-loop-defined : goal.invariant-loop-defined
invariant-loop-defined l =
    among (Top l.home l.function) (function_names (functions_of (map function_view (drop l.defined-index l.functions))))
    ≡ among (Top l.home l.function) (function_names (functions_of (map function_view l.functions)))

use Rattle.std.proofs.Common.{◌≡◌, drop}
use Rattle.elm_canon.specs.declared.reference.Ref.TheVariants.{Top}
use Rattle.elm_canon.specs.Proper.{among}
use Rattle.module_offers.proofs.operator_faults_functions.is_one_of.Given as goal

abbrev pub invariant-loop-name : goal.invariant-loop-name
invariant-loop-name l =
    among (Top l.home l.function) (drop l.name-index l.names) ≡ among (Top l.home l.function) l.names

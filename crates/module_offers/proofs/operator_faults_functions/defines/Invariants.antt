use Rattle.std.proofs.Common.{◌≡◌, drop, map}
use Rattle.std.specs.List.{list_any}
use Rattle.elm_canon.specs.View.{declaration_view}
use Rattle.elm_canon.specs.declared.reference.Ref.TheVariants.{Top}
use Rattle.elm_canon.specs.Proper.{among}
use Rattle.module_offers.specs.Faults.{defined_by}
use Rattle.module_offers.proofs.operator_faults_functions.defines.Given as goal

abbrev pub invariant-loop-declaration : goal.invariant-loop-declaration
invariant-loop-declaration l =
    list_any (λ d. among (Top l.home l.function) (defined_by d))
    (map declaration_view (drop l.declaration-index l.module.declarations.items))
    ≡ list_any (λ d. among (Top l.home l.function) (defined_by d)) (map declaration_view l.module.declarations.items)

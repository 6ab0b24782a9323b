use Rattle.std.proofs.Common.{◌≡◌, map, take}
use Rattle.std.specs.Prelude.{not}
use Rattle.std.specs.List.{filter}
use Rattle.module_offers.specs.Offers.{is_operator_function}
use Rattle.module_offers.specs.View.{values_view}
use Rattle.module_offers.proofs.showing.shown_names.Given as goal

abbrev pub invariant-loop-value : goal.invariant-loop-value
invariant-loop-value l =
    l.names.items
    ≡ filter (λ x. not (is_operator_function l.home x)) (map (λ v. v.name) (values_view (take l.value-index l.values)))

use Rattle.std.proofs.Common.{◌≡◌, ◌++◌, map, take}
use Rattle.std.specs.Prelude.{flat_map}
use Rattle.elm_canon.specs.View.{declaration_view}
use Rattle.module_offers.specs.Offers.{named_by, declared_values}
use Rattle.module_offers.specs.View.{values_view}
use Rattle.module_offers.proofs.listing.push_all_declared.Given as goal

abbrev pub invariant-loop-declaration : goal.invariant-loop-declaration
invariant-loop-declaration g l =
    values_view l.values.items
    ≡ values_view l.initial.values.items
    ++ named_by (g.N.Naming.test l.naming) (flat_map (declared_values (g.T.Told.schemes l.told))
    (map declaration_view (take l.declaration-index l.declarations)))

use Rattle.std.proofs.Common.{◌≡◌, ◌++◌, map, take}
use Rattle.elm_canon.specs.Tree.{functions_of}
use Rattle.elm_canon.specs.View.{function_view}
use Rattle.module_offers.specs.Offers.{named_by, function_values}
use Rattle.module_offers.specs.View.{values_view}
use Rattle.module_offers.proofs.listing.push_functions.Given as goal

abbrev pub invariant-loop-function : goal.invariant-loop-function
invariant-loop-function g l =
    values_view l.values.items
    ≡ values_view l.initial.values.items
    ++ named_by (g.N.Naming.test l.naming) (function_values (g.T.Told.schemes l.told)
    (functions_of (map function_view (take l.function-index l.functions))))

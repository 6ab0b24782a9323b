use Rattle.std.proofs.Common.{◌≡◌, map, drop}
use Rattle.elm_canon.specs.Tree.{functions_of}
use Rattle.elm_canon.specs.View.{function_view}
use Rattle.link.specs.Made.{place_in, titled}
use Rattle.link.proofs.fragments_places.place_in_functions.Given as goal

abbrev pub invariant-loop-function : goal.invariant-loop-function
invariant-loop-function l =
    place_in l.name (titled (functions_of (map function_view (drop l.function-index l.functions))))
    ≡ place_in l.name (titled (functions_of (map function_view l.functions)))

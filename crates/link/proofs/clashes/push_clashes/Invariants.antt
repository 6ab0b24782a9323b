use Rattle.std.proofs.Common.{◌≡◌, ◌++◌, [], List, map, drop}
use Rattle.elm_canon.specs.Names.{Name}
use Rattle.link.specs.Kept.{IsHomes}
use Rattle.link.specs.Link.{clashes}
use Rattle.link.specs.View.{placed_view}
use Rattle.link.proofs.clashes.push_clashes.Given as goal

abbrev pub invariant-loop-placed : goal.invariant-loop-placed
invariant-loop-placed l =
    (before : List (Name × Name)) × IsHomes l.homes before
    × (l.faults.items ++ clashes before (map placed_view (drop l.placed-index l.pieces))
    ≡ l.initial.faults.items ++ clashes [] (map placed_view l.pieces))

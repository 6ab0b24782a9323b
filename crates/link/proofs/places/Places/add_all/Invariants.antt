use Rattle.std.proofs.Common.{◌≡◌, List, [], ◌∷◌, ◌++◌, length, take}
use Rattle.link.specs.Names.{TopName}
use Rattle.link.specs.Kept.{Numbered}
use Rattle.link.proofs.places.Places.add_all.Given as goal

abbrev pub invariant-loop-name : goal.invariant-loop-name
invariant-loop-name l =
    (each : List (List TopName)) → length each ≡ l.place → Numbered l.initial.self each
    → Numbered l.self (each ++ take l.name-index l.names ∷ [])

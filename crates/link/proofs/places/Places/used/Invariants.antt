use Rattle.std.proofs.Common.{◌≡◌, ◌<◌, List, length, take}
use Rattle.std.specs.List.{All, filter_map}
use Rattle.link.specs.Names.{TopName}
use Rattle.link.specs.Kept.{Numbered}
use Rattle.link.specs.Reached.{place_of}
use Rattle.link.proofs.places.Places.used.Given as goal

abbrev pub invariant-loop-name : goal.invariant-loop-name
invariant-loop-name l =
    (each : List (List TopName)) → Numbered l.self each → l.places.items ≡ filter_map (place_of each) (take
    l.name-index l.names)

use Rattle.std.proofs.Common.{◌≡◌, ◌<◌, List, length, map, take}
use Rattle.std.specs.List.{All}
use Rattle.decl_groups.specs.Groups.{plain}
use Rattle.link.specs.Names.{TopName}
use Rattle.link.specs.Kept.{Numbered}
use Rattle.link.specs.Reached.{places_used}
use Rattle.link.specs.View.{placed_view}
use Rattle.link.proofs.places.Places.all_used.Given as goal

abbrev pub invariant-loop-placed : goal.invariant-loop-placed
invariant-loop-placed l = record {
  used : (each : List (List TopName)) → Numbered l.self each
      → plain l.rows.items ≡ places_used each (map (λ d. d.piece.uses) (map placed_view (take l.placed-index
      l.pieces)));
  within : (each : List (List TopName)) → Numbered l.self each →
      All (λ row. All (λ j. j < length each) row.items) l.rows.items;
}

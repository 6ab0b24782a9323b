use Rattle.std.proofs.Common.{◌≡◌, List, map, drop}
use Rattle.std.specs.Prelude.{unwrap_or}
use Rattle.indexmap.specs.IndexMap.{get}
use Rattle.elm_canon.specs.Names.{Name, same_name}
use Rattle.elm_canon.specs.View.{port_declaration_view}
use Rattle.link.specs.Made.{start, port_place}
use Rattle.link.proofs.fragments_places.Places.of.Given as goal

abbrev pub invariant-loop-k : goal.invariant-loop-k
invariant-loop-k l =
    (x : Name) → unwrap_or (get same_name l.by_name x) start ≡ port_place (map port_declaration_view (drop l.k
    l.ports)) x

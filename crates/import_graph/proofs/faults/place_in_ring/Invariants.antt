use Rattle.std.specs.Prelude.{◌≡◌, map, drop}
use Rattle.import_graph.specs.ModuleWalkView.{import_view}
use Rattle.import_graph.specs.Faults.{place_in_ring}
use Rattle.import_graph.specs.ModuleGraphView.{modules_of}
use Rattle.import_graph.proofs.faults.place_in_ring.Given as goal

-- the place is in what is left
abbrev pub invariant-loop-import : goal.invariant-loop-import
invariant-loop-import l =
    place_in_ring (modules_of l.modules) l.ring (map import_view (drop l.import-index l.imports)) ≡ place_in_ring (modules_of l.modules) l.ring (map import_view l.imports)

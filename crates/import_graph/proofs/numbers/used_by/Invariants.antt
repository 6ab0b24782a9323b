use Rattle.std.specs.Prelude.{◌≡◌, map, take}
use Rattle.std.specs.List.{filter_map}
use Rattle.import_graph.specs.ModuleWalkView.{import_view}
use Rattle.import_graph.specs.Graph.{used}
use Rattle.import_graph.specs.ModuleGraphView.{modules_of}
use Rattle.import_graph.proofs.numbers.used_by.Given as goal

-- the numbers of the imports so far
abbrev pub invariant-loop-import : goal.invariant-loop-import
invariant-loop-import l = l.row.items ≡ filter_map (used (modules_of l.modules)) (map import_view (take l.import-index l.imports))

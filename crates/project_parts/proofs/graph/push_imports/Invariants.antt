use Rattle.std.specs.Prelude.{◌≡◌, ◌++◌, map, take, flat_map}
use Rattle.std.specs.List.{filter_map}
use Rattle.import_graph.specs.ModuleWalkView.{import_view}
use Rattle.project_parts.specs.Modules.{one_name}
use Rattle.project_parts.specs.View.{number_at}
use Rattle.project_parts.proofs.graph.push_imports.Given as goal

-- the numbers of the imports so far
abbrev pub invariant-loop-import : goal.invariant-loop-import
invariant-loop-import l =
    l.row.items
    ≡ l.initial.row.items
    ++ filter_map (number_at l.numbers) (flat_map one_name (map import_view (take l.import-index l.imports)))

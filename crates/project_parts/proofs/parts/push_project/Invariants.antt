use Rattle.std.specs.Prelude.{◌≡◌, ◌++◌, map, take, slice_get}
use Rattle.std.specs.List.{filter_map}
use Rattle.import_graph.specs.ModuleGraphView.{graph_modules}
use Rattle.project_parts.specs.Modules.{project_part}
use Rattle.project_parts.specs.View.{part_view}
use Rattle.project_parts.proofs.parts.push_project.Given as goal

-- the modules so far
abbrev pub invariant-loop-number : goal.invariant-loop-number
invariant-loop-number l =
    map part_view l.parts.items
    ≡ map part_view l.initial.parts.items
    ++ map project_part (filter_map (slice_get (graph_modules l.graph)) (take l.number-index l.graph.order.items))

-- The core library, and then the project.
use Rattle.std.proofs.Common.{◌++◌, map, ap, ◌∙◌}
use Rattle.std.specs.Prelude.{slice_get}
use Rattle.std.specs.List.{filter_map}
use Rattle.import_graph.specs.ModuleGraphView.{graph_modules}
use Rattle.import_graph.specs.ModuleWalkView.{module_view}
use Rattle.project_parts.specs.Modules.{core_part, project_part}
use Rattle.project_parts.specs.View.{part_view}
use Rattle.project_parts.proofs.parts.parts_of.Goals as goal

pub returns : goal.returns
returns c =
    let g = c.args.graph.now in
    let core = map core_part (map module_view c.args.core.now) in
    c.in_ok-push_project.ensures
    ∙ ap (λ ps. ps ++ map project_part (filter_map (slice_get (graph_modules g)) g.order.items))
    (c.in_ok-push_core.ensures ∙ ap (λ ps. map part_view ps ++ core) c.in_ok-parts.ensures.items)

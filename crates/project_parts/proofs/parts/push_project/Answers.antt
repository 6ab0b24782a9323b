-- One module more: `project_more`.
use Rattle.std.proofs.Common.{map, arith}
use Rattle.std.specs.Prelude.{slice_get}
use Rattle.import_graph.specs.ModuleGraphView.{graph_modules}
use Rattle.project_parts.specs.View.{part_view}
use Rattle.project_parts.proofs.Rows.{project_more}
use Rattle.project_parts.proofs.parts.push_project.Goals as goal

pub loop-number-preserved : goal.loop-number-preserved
loop-number-preserved c =
    project_more (slice_get (graph_modules c.args.graph.now)) (map part_view c.args.parts.now.items)
    (map part_view c.loop-number.parts.items) (map part_view c.push_one.new.parts.items)
    c.deref-number-items.result.now c.args.graph.now.order.items c.loop-number.number-index
    c.deref-number-items.ensures.value (omega arith) c.loop-number.invariant c.in_ok-push_one.ensures

use Rattle.std.proofs.Common.{map, ap}
use Rattle.import_graph.specs.ModuleGraphView.{graph_modules}
use Rattle.import_graph.specs.ModuleWalkView.{module_view}
use Rattle.elm_make.proofs.ProjectCompileCounted.{few_taken}
use Rattle.elm_make.proofs.compiling.compile.Goals as goal

pub entry_number-requires-clause-few : goal.entry_number-requires-clause-few
entry_number-requires-clause-few c =
    few_taken (map module_view c.args.library.now.modules.items) (map module_view c.deref.result.now)
    (graph_modules c.args.graph.now) c.args.graph.now.order.items c.in_ok-parts.parts.items c.deref-2.result.now
    c.requires.core c.requires.numbered c.requires.order (ap (map module_view) c.deref.ensures.value)
    c.in_ok-parts.ensures c.deref-2.ensures.value

pub compiled-requires-clause-few : goal.compiled-requires-clause-few
compiled-requires-clause-few c =
    few_taken (map module_view c.args.library.now.modules.items) (map module_view c.deref.result.now)
    (graph_modules c.args.graph.now) c.args.graph.now.order.items c.in_ok-parts.parts.items c.deref-3.result.now
    c.requires.core c.requires.numbered c.requires.order (ap (map module_view) c.deref.ensures.value)
    c.in_ok-parts.ensures c.deref-3.ensures.value

-- One more module: `one_row`.
use Rattle.std.proofs.Common.{arith, map, sym, ap, ◌∙◌, ◌++◌, ◌∷◌, []}
use Rattle.std.specs.List.{filter_map}
use Rattle.decl_groups.specs.Groups.{plain}
use Rattle.import_graph.specs.Modules as walk
use Rattle.import_graph.specs.ModuleWalkView.{import_view}
use Rattle.import_graph.specs.Graph.{used}
use Rattle.import_graph.specs.ModuleGraphView.{modules_of}
use Rattle.import_graph.proofs.Uses.{one_row, row_pushed, not_none}
use Rattle.import_graph.proofs.numbers.uses_of.Goals as goal
use Rattle.import_graph.proofs.numbers.uses_of.Goals.{in-Some+in_ok-used_by+in_ok-push, in_default}

pub loop-index-preserved : goal.loop-index-preserved
loop-index-preserved c =
    let ms = modules_of c.args.modules.now in
    let g = λ (m : walk.Module). filter_map (used ms) m.imports in
    let rows = c.loop-index.uses.items in
    elim c.match-get_index.branch [
      | in-Some+in_ok-used_by+in_ok-push w ↦
          let row = w.in_ok-used_by.ensures ∙ ap (λ is. filter_map (used ms) (map import_view is)) w.deref.ensures.value in
          ap (λ v. plain v.items) w.uses-is ∙ ap plain w.in_ok-push.ensures.items ∙ row_pushed rows w.in_ok-used_by.field-0 ∙ ap (λ r. plain rows ++ r ∷ []) row
          ∙ one_row g c.args.modules.now.entries (plain rows) c.loop-index.index (w.in-Some.field-0-0.now, w.in-Some.importer.now) (sym w.in-Some.ensures.entry) c.loop-index.invariant
      | in_default w ↦ absurd (not_none c.get_index.result (c.get_index.ensures.found.1 (omega (arith, c.loop-index-test.true, c.len-index-end.ensures.len))) w.in_default.is)
    ]

-- One more import, with a number or without: `one_used`, `none_used`.
use Rattle.std.proofs.Common.{map, take, sym, ap, ◌∙◌}
use Rattle.std.specs.List.{filter_map}
use Rattle.import_graph.specs.ModuleWalkView.{import_view}
use Rattle.import_graph.specs.Graph.{used}
use Rattle.import_graph.specs.ModuleGraphView.{modules_of}
use Rattle.import_graph.proofs.Uses.{one_used, none_used, next_front}
use Rattle.import_graph.proofs.numbers.used_by.Goals as goal
use Rattle.import_graph.proofs.numbers.used_by.Goals.{in-Some+in_ok-push, in_default}

pub loop-import-preserved : goal.loop-import-preserved
loop-import-preserved c =
    let f = used (modules_of c.args.modules.now) in
    let imports = c.args.imports.now in
    let i = c.loop-import.import-index in
    let item = c.import-item.result in
    let front = map import_view (take i imports) in
    let next = next_front import_view imports i item c.loop-import-test.true c.import-item.is in
    elim c.match-number_used.branch [
      | in-Some+in_ok-push w ↦
          ap (λ v. v.items) w.row-is ∙ w.in_ok-push.ensures.items
          ∙ one_used f c.loop-import.row.items front (import_view item) w.in-Some.number c.loop-import.invariant (sym c.number_used.ensures ∙ w.in-Some.is) ∙ ap (filter_map f) (sym next)
      | in_default w ↦
          ap (λ v. v.items) w.row-is ∙ none_used f c.loop-import.row.items front (import_view item) c.loop-import.invariant (sym c.number_used.ensures ∙ w.in_default.is) ∙ ap (filter_map f) (sym next)
    ]

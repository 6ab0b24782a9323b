-- One import more: `row_more`.
use Rattle.std.proofs.Common.{◌++◌, map, take, sym, ap, ◌∙◌, append_assoc}
use Rattle.std.specs.Prelude.{flat_map}
use Rattle.std.specs.List.{filter_map}
use Rattle.import_graph.proofs.Uses.{next_front}
use Rattle.import_graph.specs.ModuleWalkView.{import_view}
use Rattle.project_parts.specs.Modules.{one_name}
use Rattle.project_parts.specs.View.{number_at}
use Rattle.project_parts.proofs.Rows.{row_more}
use Rattle.project_parts.proofs.graph.push_imports.Goals as goal

pub loop-import-preserved : goal.loop-import-preserved
loop-import-preserved c =
    let f = number_at c.args.numbers.now in
    let imports = c.args.imports.now in
    let old = c.args.row.now.items in
    let i = c.loop-import.import-index in
    let item = c.import-item.result in
    let front = map import_view (take i imports) in
    let next = next_front import_view imports i item c.loop-import-test.true c.import-item.is in
    c.in_ok-push_import.ensures
    ∙ ap (λ r. r ++ filter_map f (one_name (import_view item))) c.loop-import.invariant
    ∙ append_assoc old (filter_map f (flat_map one_name front)) (filter_map f (one_name (import_view item)))
    ∙ ap (λ r. old ++ r) (row_more f front (import_view item))
    ∙ ap (λ is. old ++ filter_map f (flat_map one_name is)) (sym next)

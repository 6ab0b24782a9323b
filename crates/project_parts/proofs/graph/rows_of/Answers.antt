-- One part more.
use Rattle.std.proofs.Common.{[], ◌∷◌, ◌++◌, map, take, sym, ap, ◌∙◌}
use Rattle.std.specs.List.{filter_map}
use Rattle.std.proofs.lemmas.List.{map-append}
use Rattle.decl_groups.specs.Groups.{plain}
use Rattle.import_graph.proofs.Uses.{next_front, row_pushed}
use Rattle.project_parts.specs.Modules.{Part, imported_names}
use Rattle.project_parts.specs.View.{part_view, number_at}
use Rattle.project_parts.proofs.graph.rows_of.Goals as goal

pub loop-part-preserved : goal.loop-part-preserved
loop-part-preserved c =
    let g = λ (p : Part). filter_map (number_at c.args.numbers.now) (imported_names p) in
    let parts = c.args.parts.now in
    let i = c.loop-part.part-index in
    let item = c.part-item.result in
    let front = map part_view (take i parts) in
    let rows = c.loop-part.rows.items in
    let next = next_front part_view parts i item c.loop-part-test.true c.part-item.is in
    ap plain c.in_ok-push.ensures.items ∙ row_pushed rows c.in_ok-row.row
    ∙ ap (λ r. plain rows ++ r ∷ []) c.in_ok-row.ensures
    ∙ ap (λ rs. rs ++ g (part_view item) ∷ []) c.loop-part.invariant
    ∙ sym (map-append g front (part_view item ∷ [])) ∙ ap (map g) (sym next)

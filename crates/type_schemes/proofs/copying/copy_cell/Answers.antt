use Rattle.std.proofs.Common.{◌≡◌, ◌<◌, ◌∙◌, ap, sym, subst, map, length, Err}
use Rattle.std.specs.List.{All}
use Rattle.type_store.specs.Store as store
use Rattle.type_store.specs.Store.{FieldSlot, field_names}
use Rattle.type_store.specs.Shape.{IsCell, parts_of}
use Rattle.type_store.specs.Solutions.{Clash}
use Rattle.type_store.specs.Steps.{rest_asks}
use Rattle.type_store.specs.View as stored
use Rattle.type_walks.specs.Frozen as plain
use Rattle.type_walks.specs.Frozen.{CellBefore, CellLive}
use Rattle.type_schemes.specs.Formed.{IsRecord}
use Rattle.type_schemes.specs.View as frozen
use Rattle.type_schemes.specs.View.{cell_view, end_view, part_view}
use Rattle.type_schemes.specs.Copies.{copied, copied_field, copied_end, Grows, IsCopy, CanHave}
use Rattle.type_schemes.proofs.Cells.{all_inside, built_made, as_row, is_cell, row_inside, row_made, row_fits}
use Rattle.type_schemes.proofs.copying.copy_cell.Goals as goal

pub built-requires : goal.built-requires
built-requires c =
    let k : cell_view c.args.cell.now ≡ plain.Built c.in-Built.head (map part_view c.in-Built.list.items) = ap cell_view c.in-Built.is in
    let e : c.in_ok-variables-in-Built.variables.items ≡ map (copied c.args.copies.now) (map part_view c.in-Built.list.items) =
    c.in_ok-variables-in-Built.ensures ∙ ap (λ ps. map (copied c.args.copies.now) (map part_view ps)) c.deref.ensures.value in
    record {
      inside =
          subst (All (λ w. w < length c.args.store.now)) (sym e)
          (all_inside c.args.copies.now c.args.depth c.args.store.now c.requires.copies (map part_view c.in-Built.list.items)
          (subst (CellBefore (length c.args.copies.now)) k c.requires.before) (subst (CellLive c.args.depth c.args.store.now) k c.requires.live));
    }

pub returns-in_ok-variable-in-Built-clause-made : goal.returns-in_ok-variable-in-Built-clause-made
returns-in_ok-variable-in-Built-clause-made c =
    let k : cell_view c.args.cell.now ≡ plain.Built c.in-Built.head (map part_view c.in-Built.list.items) = ap cell_view c.in-Built.is in
    let e : c.in_ok-variables-in-Built.variables.items ≡ map (copied c.args.copies.now) (map part_view c.in-Built.list.items) =
    c.in_ok-variables-in-Built.ensures ∙ ap (λ ps. map (copied c.args.copies.now) (map part_view ps)) c.deref.ensures.value in
    let i : All (λ w. w < length c.args.store.now) c.in_ok-variables-in-Built.variables.items =
    subst (All (λ w. w < length c.args.store.now)) (sym e)
    (all_inside c.args.copies.now c.args.depth c.args.store.now c.requires.copies (map part_view c.in-Built.list.items)
    (subst (CellBefore (length c.args.copies.now)) k c.requires.before) (subst (CellLive c.args.depth c.args.store.now) k c.requires.live)) in
    subst (λ x. Grows c.args.depth c.args.store.now c.in_ok-variable-in-Built.variable c.built.new.self (IsCopy c.args.copies.now x)) (sym k)
    (built_made c.args.copies.now c.args.depth c.args.store.now c.in_ok-variable-in-Built.variable c.built.new.self c.in-Built.head (map part_view c.in-Built.list.items)
    c.in_ok-copy-in-Built.field-0 c.in_ok-variables-in-Built.variables.items c.requires.whole c.in_ok-copy-in-Built.ensures e i
    c.in_ok-variable-in-Built.ensures.number c.in_ok-variable-in-Built.ensures.made)

pub row-requires-clause-inside : goal.row-requires-clause-inside
row-requires-clause-inside c =
    let k : cell_view c.args.cell.now ≡ plain.Row (map frozen.field_view c.in-Row.list.items) (end_view c.in-Row.last) = ap cell_view c.in-Row.is in
    let e : map stored.field_view c.in_ok-slots-in-Row.slots.items ≡ map (copied_field c.args.copies.now) (map frozen.field_view c.in-Row.list.items) =
    c.in_ok-slots-in-Row.ensures ∙ ap (λ ps. map (copied_field c.args.copies.now) (map frozen.field_view ps)) c.deref-in-Row.ensures.value in
    as_row c.args.copies.now (λ x. All (λ w. w < length c.args.store.now) (parts_of x)) (map stored.field_view c.in_ok-slots-in-Row.slots.items)
    (map (copied_field c.args.copies.now) (map frozen.field_view c.in-Row.list.items)) c.end.result (copied_end c.args.copies.now (end_view c.in-Row.last)) e c.end.ensures
    (row_inside c.args.copies.now c.args.depth c.args.store.now c.requires.copies (map frozen.field_view c.in-Row.list.items) (end_view c.in-Row.last)
    (subst (CellBefore (length c.args.copies.now)) k c.requires.before) (subst (CellLive c.args.depth c.args.store.now) k c.requires.live))

pub row-requires-clause-cell : goal.row-requires-clause-cell
row-requires-clause-cell c =
    let k : cell_view c.args.cell.now ≡ plain.Row (map frozen.field_view c.in-Row.list.items) (end_view c.in-Row.last) = ap cell_view c.in-Row.is in
    let e : map stored.field_view c.in_ok-slots-in-Row.slots.items ≡ map (copied_field c.args.copies.now) (map frozen.field_view c.in-Row.list.items) =
    c.in_ok-slots-in-Row.ensures ∙ ap (λ ps. map (copied_field c.args.copies.now) (map frozen.field_view ps)) c.deref-in-Row.ensures.value in
    as_row c.args.copies.now (IsCell 0) (map stored.field_view c.in_ok-slots-in-Row.slots.items)
    (map (copied_field c.args.copies.now) (map frozen.field_view c.in-Row.list.items)) c.end.result (copied_end c.args.copies.now (end_view c.in-Row.last)) e c.end.ensures
    (is_cell c.args.copies.now (map frozen.field_view c.in-Row.list.items) (end_view c.in-Row.last) (subst IsRecord k c.requires.record))

pub unreachable-requires : goal.unreachable-requires
unreachable-requires c =
    let k : cell_view c.args.cell.now ≡ plain.Row (map frozen.field_view c.in-Row.list.items) (end_view c.in-Row.last) = ap cell_view c.in-Row.is in
    let e : map stored.field_view c.in_ok-slots-in-Row.slots.items ≡ map (copied_field c.args.copies.now) (map frozen.field_view c.in-Row.list.items) =
    c.in_ok-slots-in-Row.ensures ∙ ap (λ ps. map (copied_field c.args.copies.now) (map frozen.field_view ps)) c.deref-in-Row.ensures.value in
    let x : Clash c.args.store.now (rest_asks c.end.result (field_names (map stored.field_view c.in_ok-slots-in-Row.slots.items))) =
    c.row.ensures.clash (c.in-Err-Clash.is ∙ ap Err c.in-Err-Clash.field-0-is) in
    row_fits c.args.copies.now c.args.depth c.args.store.now 0 c.args.store.now (map frozen.field_view c.in-Row.list.items) (end_view c.in-Row.last) (subst IsRecord k c.requires.record)
    (subst (λ y. CanHave c.args.store.now (IsCopy c.args.copies.now y)) k c.requires.possible)
    (subst (λ g. Clash c.args.store.now (rest_asks (copied_end c.args.copies.now (end_view c.in-Row.last)) (field_names g))) e
    (subst (λ l. Clash c.args.store.now (rest_asks l (field_names (map stored.field_view c.in_ok-slots-in-Row.slots.items)))) c.end.ensures x))

pub returns-in-Ok-clause-made : goal.returns-in-Ok-clause-made
returns-in-Ok-clause-made c =
    let k : cell_view c.args.cell.now ≡ plain.Row (map frozen.field_view c.in-Row.list.items) (end_view c.in-Row.last) = ap cell_view c.in-Row.is in
    let e : map stored.field_view c.in_ok-slots-in-Row.slots.items ≡ map (copied_field c.args.copies.now) (map frozen.field_view c.in-Row.list.items) =
    c.in_ok-slots-in-Row.ensures ∙ ap (λ ps. map (copied_field c.args.copies.now) (map frozen.field_view ps)) c.deref-in-Row.ensures.value in
    let i : All (λ w. w < length c.args.store.now) (parts_of (store.Row (map stored.field_view c.in_ok-slots-in-Row.slots.items) c.end.result)) =
    as_row c.args.copies.now (λ x. All (λ w. w < length c.args.store.now) (parts_of x)) (map stored.field_view c.in_ok-slots-in-Row.slots.items)
    (map (copied_field c.args.copies.now) (map frozen.field_view c.in-Row.list.items)) c.end.result (copied_end c.args.copies.now (end_view c.in-Row.last)) e c.end.ensures
    (row_inside c.args.copies.now c.args.depth c.args.store.now c.requires.copies (map frozen.field_view c.in-Row.list.items) (end_view c.in-Row.last)
    (subst (CellBefore (length c.args.copies.now)) k c.requires.before) (subst (CellLive c.args.depth c.args.store.now) k c.requires.live)) in
    subst (λ x. Grows c.args.depth c.args.store.now c.in-Ok.variable c.row.new.self (IsCopy c.args.copies.now x)) (sym k)
    (row_made c.args.copies.now c.args.depth c.args.store.now c.in-Ok.variable c.row.new.self (map frozen.field_view c.in-Row.list.items) (end_view c.in-Row.last) (subst IsRecord k c.requires.record)
    (map stored.field_view c.in_ok-slots-in-Row.slots.items) c.end.result c.requires.whole e c.end.ensures i c.in-Ok.ensures.number c.in-Ok.ensures.made c.in-Ok.ensures.goes)

use Rattle.std.proofs.Common.{◌≡◌, ◌<◌, ◌∙◌, ap, sym, subst, map, length, get_or, arith}
use Rattle.std.proofs.lemmas.List.{length-map, length_push}
use Rattle.type_walks.specs.Frozen.{cell_at, CellBefore, CellLive}
use Rattle.type_walks.specs.Says.{Instantiates}
use Rattle.type_schemes.specs.Formed.{IsRecord}
use Rattle.type_schemes.specs.View.{cell_view, frozen_view, part_view}
use Rattle.type_schemes.specs.Copies.{Grows, IsCopy, CanHave, Copying, copied}
use Rattle.type_schemes.proofs.TypeThawingReading.{cell_read}
use Rattle.type_schemes.proofs.Thawing.{cell_on, can_have, made, instantiated}
use Rattle.type_schemes.proofs.copying.instantiate.Goals as goal

pub copy_cell-requires-clause-before : goal.copy_cell-requires-clause-before
copy_cell-requires-clause-before c =
    let l : c.loop-cell.cell-index < length c.args.frozen.now.cells.items = omega (arith, c.loop-cell-test.true, ap length c.deref-cell-items.ensures.value) in
    let is : c.cell-item.result ≡ get_or c.args.frozen.now.cells.items c.loop-cell.cell-index c.cell-item.result =
    c.cell-item.is ∙ ap (λ xs. get_or xs c.loop-cell.cell-index c.cell-item.result) c.deref-cell-items.ensures.value in
    let e = cell_read c.args.frozen.now.cells.items c.loop-cell.cell-index c.cell-item.result l is in
    let n : length c.deref.result.now ≡ c.loop-cell.cell-index = ap length c.deref.ensures.value ∙ c.loop-cell.invariant.count in
    subst (λ m. CellBefore m (cell_view c.cell-item.result)) (sym n)
    (subst (CellBefore c.loop-cell.cell-index) e (c.requires.formed.before c.loop-cell.cell-index (omega (arith, l, length-map c.args.frozen.now.cells.items cell_view))))

pub copy_cell-requires-clause-record : goal.copy_cell-requires-clause-record
copy_cell-requires-clause-record c =
    let l : c.loop-cell.cell-index < length c.args.frozen.now.cells.items = omega (arith, c.loop-cell-test.true, ap length c.deref-cell-items.ensures.value) in
    let is : c.cell-item.result ≡ get_or c.args.frozen.now.cells.items c.loop-cell.cell-index c.cell-item.result =
    c.cell-item.is ∙ ap (λ xs. get_or xs c.loop-cell.cell-index c.cell-item.result) c.deref-cell-items.ensures.value in
    let e = cell_read c.args.frozen.now.cells.items c.loop-cell.cell-index c.cell-item.result l is in
    subst IsRecord e (c.requires.formed.records c.loop-cell.cell-index (omega (arith, l, length-map c.args.frozen.now.cells.items cell_view)))

pub copy_cell-requires-clause-live : goal.copy_cell-requires-clause-live
copy_cell-requires-clause-live c =
    let l : c.loop-cell.cell-index < length c.args.frozen.now.cells.items = omega (arith, c.loop-cell-test.true, ap length c.deref-cell-items.ensures.value) in
    let is : c.cell-item.result ≡ get_or c.args.frozen.now.cells.items c.loop-cell.cell-index c.cell-item.result =
    c.cell-item.is ∙ ap (λ xs. get_or xs c.loop-cell.cell-index c.cell-item.result) c.deref-cell-items.ensures.value in
    let e = cell_read c.args.frozen.now.cells.items c.loop-cell.cell-index c.cell-item.result l is in
    cell_on c.args.depth c.args.store.now c.loop-cell.store c.loop-cell.invariant.made.later (cell_view c.cell-item.result)
    (subst (CellLive c.args.depth c.args.store.now) e (c.requires.live.cells c.loop-cell.cell-index (omega (arith, l, length-map c.args.frozen.now.cells.items cell_view))))

pub copy_cell-requires-clause-possible : goal.copy_cell-requires-clause-possible
copy_cell-requires-clause-possible c =
    let l : c.loop-cell.cell-index < length c.args.frozen.now.cells.items = omega (arith, c.loop-cell-test.true, ap length c.deref-cell-items.ensures.value) in
    let is : c.cell-item.result ≡ get_or c.args.frozen.now.cells.items c.loop-cell.cell-index c.cell-item.result =
    c.cell-item.is ∙ ap (λ xs. get_or xs c.loop-cell.cell-index c.cell-item.result) c.deref-cell-items.ensures.value in
    let e = cell_read c.args.frozen.now.cells.items c.loop-cell.cell-index c.cell-item.result l is in
    let k : length c.loop-cell.copies.items < length (map cell_view c.args.frozen.now.cells.items) = omega (arith, l, c.loop-cell.invariant.count, length-map c.args.frozen.now.cells.items cell_view) in
    let h = can_have c.args.depth c.args.store.now (frozen_view c.args.frozen.now) c.requires.formed c.requires.live c.loop-cell.copies.items c.loop-cell.store c.loop-cell.invariant.made
    c.solution_law.ensures c.requires.whole c.requires.possible k in
    subst (λ cs. CanHave c.loop-cell.store (IsCopy cs (cell_view c.cell-item.result))) (sym c.deref.ensures.value)
    (subst (λ x. CanHave c.loop-cell.store (IsCopy c.loop-cell.copies.items x)) (ap (cell_at (map cell_view c.args.frozen.now.cells.items)) c.loop-cell.invariant.count ∙ e) h)

pub loop-cell-preserved : goal.loop-cell-preserved
loop-cell-preserved c =
    let l : c.loop-cell.cell-index < length c.args.frozen.now.cells.items = omega (arith, c.loop-cell-test.true, ap length c.deref-cell-items.ensures.value) in
    let is : c.cell-item.result ≡ get_or c.args.frozen.now.cells.items c.loop-cell.cell-index c.cell-item.result =
    c.cell-item.is ∙ ap (λ xs. get_or xs c.loop-cell.cell-index c.cell-item.result) c.deref-cell-items.ensures.value in
    let e = cell_read c.args.frozen.now.cells.items c.loop-cell.cell-index c.cell-item.result l is in
    let k : length c.loop-cell.copies.items < length (map cell_view c.args.frozen.now.cells.items) = omega (arith, l, c.loop-cell.invariant.count, length-map c.args.frozen.now.cells.items cell_view) in
    let g : Grows c.args.depth c.loop-cell.store c.in_ok-variable.variable c.copy_cell.new.store
    (IsCopy c.loop-cell.copies.items (cell_at (map cell_view c.args.frozen.now.cells.items) (length c.loop-cell.copies.items))) =
    subst (λ x. Grows c.args.depth c.loop-cell.store c.in_ok-variable.variable c.copy_cell.new.store (IsCopy c.loop-cell.copies.items x))
    (sym (ap (cell_at (map cell_view c.args.frozen.now.cells.items)) c.loop-cell.invariant.count ∙ e))
    (subst (λ cs. Grows c.args.depth c.loop-cell.store c.in_ok-variable.variable c.copy_cell.new.store (IsCopy cs (cell_view c.cell-item.result))) c.deref.ensures.value c.in_ok-variable.ensures.made) in
    record {
      whole = c.in_ok-variable.ensures.whole;
      count = omega (arith, ap length c.in_ok-push.ensures.items, length_push c.loop-cell.copies.items c.in_ok-variable.variable, c.loop-cell.invariant.count);
      made =
          subst (λ cs. Copying c.args.depth c.args.store.now (frozen_view c.args.frozen.now) cs c.copy_cell.new.store) (sym c.in_ok-push.ensures.items)
          (made c.args.depth c.args.store.now (frozen_view c.args.frozen.now) c.requires.formed c.requires.live c.loop-cell.copies.items c.loop-cell.store c.loop-cell.invariant.made
          c.in_ok-variable.variable c.copy_cell.new.store k g);
    }

pub returns-clause-made : goal.returns-clause-made
returns-clause-made c =
    let n : length c.loop-cell.copies.items ≡ length (map cell_view c.args.frozen.now.cells.items) =
    omega (arith, c.loop-cell.invariant.count, c.loop-cell-test.false, c.loop-cell.auto.cell-index-end, ap length c.deref-cell-items.ensures.value, length-map c.args.frozen.now.cells.items cell_view) in
    subst (λ v. Instantiates c.args.depth c.args.store.now (frozen_view c.args.frozen.now) v c.loop-cell.store)
    (sym (c.part.ensures ∙ ap (λ cs. copied cs (part_view c.args.frozen.now.root)) c.deref-2.ensures.value))
    (instantiated c.args.depth c.args.store.now (frozen_view c.args.frozen.now) c.requires.formed c.requires.live c.loop-cell.copies.items c.loop-cell.store c.loop-cell.invariant.made n)

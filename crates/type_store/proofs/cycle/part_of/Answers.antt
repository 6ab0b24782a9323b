-- What the program reads of slots: `row_part`, `end_part`.
use Rattle.std.proofs.Common.{◌<◌, ◌≤◌, ◌-◌, length, slice_get, sym, ap, ◌∙◌, arith, Some}
use Rattle.type_store.specs.Store.{end_slots}
use Rattle.type_store.specs.Shape.{parts_of}
use Rattle.type_store.specs.View.{cell_view}
use Rattle.type_store.proofs.Views.{row_part, end_part}
use Rattle.type_store.proofs.cycle.part_of.Goals as goal

pub returns-then-place-len-clause-part : goal.returns-then-place-len-clause-part
returns-then-place-len-clause-part c =
    let fs = c.in-Row.fields in
    let l : c.args.place < length fs.items = omega (arith, c.if-place-len.true, c.len.ensures, fs.ok) in
    sym (ap (λ x. slice_get (parts_of (cell_view x)) c.args.place) c.in-Row.is ∙ row_part fs.items c.in-Row.end c.index.result.now c.args.place l
    ∙ ap (λ f. Some f.slot) (sym c.index.ensures))

pub returns-else-place-len-clause-part : goal.returns-else-place-len-clause-part
returns-else-place-len-clause-part c =
    let fs = c.in-Row.fields in
    let l : length fs.items ≤ c.args.place = omega (arith, c.if-place-len.false, c.len.ensures, fs.ok) in
    c.only-else-place-len.ensures
    ∙ (ap (λ n. slice_get (end_slots c.in-Row.end) (c.args.place - n)) (c.len-else-place-len.ensures ∙ fs.ok.0)
    ∙ sym (ap (λ x. slice_get (parts_of (cell_view x)) c.args.place) c.in-Row.is ∙ end_part fs.items c.in-Row.end c.args.place l))

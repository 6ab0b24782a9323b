use Rattle.std.proofs.Common.{subst, map, Some}
use Rattle.type_store.specs.Steps.{Merges, Merged}
use Rattle.type_store.specs.Store.{field_names}
use Rattle.type_store.specs.Shape.{Ascending}
use Rattle.type_store.specs.View.{field_view, fields_in, store_view}
use Rattle.type_store.proofs.Gathering.{row_at, row_taken, inside_view, no_row_at}
use Rattle.type_store.specs.declared.slot.Cell.TheVariants as forms
use Rattle.type_store.proofs.gather.next_row.Goals as goal

pub returns-in-Some : goal.returns-in-Some
returns-in-Some c =
    let m : Merges (map field_view c.args.all.now) (map field_view c.deref.result.now) (fields_in (Some c.in-Some.more)) =
    subst (λ o. Merges (map field_view c.args.all.now) (map field_view c.deref.result.now) (fields_in o)) c.in-Some.is c.in_ok-merge-in-Row.ensures in
    let n : Merged (map field_view c.args.all.now) (map field_view c.in-Row.fields.items) (map field_view c.in-Some.more.items) × Ascending (field_names (map field_view c.in-Some.more.items)) =
    subst (λ xs. Merged (map field_view c.args.all.now) (map field_view xs) (map field_view c.in-Some.more.items) × Ascending (field_names (map field_view c.in-Some.more.items))) c.deref.ensures.value m in
    row_taken (store_view c.args.slots.now) (map field_view c.args.all.now) (map field_view c.in-Some.more.items) c.args.variable c.find-at.result (map field_view c.in-Row.fields.items) c.in-Row.end c.requires.graph c.find-at.ensures.leads
    (inside_view c.args.slots.now c.find-at.result c.find-at.ensures.inside) (row_at c.args.slots.now c.find-at.result c.index-slots-at.result (forms.Row c.in-Row.fields c.in-Row.end) c.find-at.ensures.inside c.in-Row.is) n

pub returns-in-Open : goal.returns-in-Open
returns-in-Open c = record {
  leads = c.find-at.ensures.leads;
  inside = inside_view c.args.slots.now c.find-at.result c.find-at.ensures.inside;
  free = c.find-at.ensures.ends;
  no_row = no_row_at c.args.slots.now c.find-at.result c.index-slots-at.result c.find-at.ensures.inside c.in-Open.is;
}

use Rattle.std.proofs.Common.{List, map, subst, sym, arith}
use Rattle.std.proofs.lemmas.Result.{IfOk-weaker}
use Rattle.type_store.specs.Linked.{Joins}
use Rattle.type_store.specs.Shape.{Ascending}
use Rattle.type_store.specs.Store.{field_names}
use Rattle.type_store.specs.declared.slot.FieldSlot as stored_field
use Rattle.type_store.specs.View.{field_view, store_view}
use Rattle.type_store.proofs.Linking.{no_rows_joined, one_row_joined, joined_halves}
use Rattle.type_store.proofs.linked.+joined.Goals as goal

pub returns-then-rows-eq0 : goal.returns-then-rows-eq0
returns-then-rows-eq0 t c =
    subst (λ (xs : List stored_field.FieldSlot). Joins (store_view c.args.slots.now) c.args.rows.now (map field_view xs)
    × Ascending (field_names (map field_view xs))) (sym c.new.ensures.items)
    (no_rows_joined (store_view c.args.slots.now) c.args.rows.now (omega (arith, c.if-rows-eq0.true)))

pub returns-then-rows-eq1 : goal.returns-then-rows-eq1
returns-then-rows-eq1 t c =
    one_row_joined (store_view c.args.slots.now) c.args.rows.now 0 (map field_view c.in_ok-fields_at.field-0.items)
    (omega (arith, c.if-rows-eq1.true)) c.in_ok-fields_at.ensures

pub returns : goal.returns
returns t c =
    IfOk-weaker c.merge.result _ _ (λ fields m.
    joined_halves (store_view c.args.slots.now) _ _ c.args.rows.now _ c.in_ok-joined.field-0 c.in_ok-joined-2.field-0
    fields c.in-Some.one c.in-Some-2.two c.deref.result.now c.deref-2.result.now
    c.split_at.ensures.front c.split_at.ensures.back c.in_ok-joined.ensures c.in-Some.is c.in_ok-joined-2.ensures
    c.in-Some-2.is c.deref.ensures.value c.deref-2.ensures.value m) c.merge.ensures

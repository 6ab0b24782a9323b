-- The way along a row: `adds_none`, `adds_on`, `row_done`, `row_record`.
use Rattle.std.proofs.Common.{[], sym, subst, map}
use Rattle.type_store.specs.View.{field_view}
use Rattle.elm_type.specs.View.{end_view}
use Rattle.elm_type.specs.Types.{NoField, Record}
use Rattle.type_schemes.specs.Reading.{read_in}
use Rattle.type_schemes.specs.Rows.{Adds, Steps, older_in}
use Rattle.type_schemes.proofs.Along.{adds_none, adds_on, row_done, row_record}
use Rattle.type_schemes.proofs.rows.gather.Goals as goal

pub rows-init : goal.rows-init
rows-init c = record {
  listed = c.requires.listed;
  row = row_record c.args.store.now (older_in c.args.order.now) c.requires.whole c.requires.first c.args.variable
      c.requires.listed c.requires.row;
  adds =
      subst
      (λ fs. Adds c.args.store.now (older_in c.args.order.now) c.args.variable
      (read_in c.args.store.now (older_in c.args.order.now) c.args.variable) [] (map field_view fs))
      (sym c.new-fields.ensures.items) (adds_none c.args.store.now (older_in c.args.order.now) c.args.variable);
}

pub rows-preserved : goal.rows-preserved
rows-preserved c =
    let k : Steps c.args.store.now (older_in c.args.order.now) c.rows.at c.in_ok-next.field-0
    (map field_view c.rows.fields.items) (map field_view c.step.new.fields.items) =
    c.in_ok-next.ensures in
    let h = subst (λ x. Steps c.args.store.now (older_in c.args.order.now) c.rows.at x
    (map field_view c.rows.fields.items) (map field_view c.step.new.fields.items)) c.in-Next.is k in
    record {
      listed = h.1;
      row = h.2;
      adds =
          adds_on c.args.store.now (older_in c.args.order.now) c.args.variable c.rows.at
          (read_in c.args.store.now (older_in c.args.order.now) c.in-Next.next) []
          (map field_view c.rows.fields.items) (map field_view c.step.new.fields.items) c.rows.invariant.adds h.0;
    }

pub rows-smaller : goal.rows-smaller
rows-smaller c =
    let k : Steps c.args.store.now (older_in c.args.order.now) c.rows.at c.in_ok-next.field-0
    (map field_view c.rows.fields.items) (map field_view c.step.new.fields.items) =
    c.in_ok-next.ensures in
    let h = subst (λ x. Steps c.args.store.now (older_in c.args.order.now) c.rows.at x
    (map field_view c.rows.fields.items) (map field_view c.step.new.fields.items)) c.in-Next.is k in
    h.3

pub returns-in-Ends : goal.returns-in-Ends
returns-in-Ends c =
    let k : Steps c.args.store.now (older_in c.args.order.now) c.rows.at c.in_ok-next.field-0
    (map field_view c.rows.fields.items) (map field_view c.step.new.fields.items) =
    c.in_ok-next.ensures in
    let h = subst (λ x. Steps c.args.store.now (older_in c.args.order.now) c.rows.at x
    (map field_view c.rows.fields.items) (map field_view c.step.new.fields.items)) c.in-Ends.is k in
    row_done c.args.store.now (older_in c.args.order.now) c.args.variable (end_view c.in-Ends.end)
    (map field_view c.step.new.fields.items)
    (map field_view c.in_ok-fields-in-Ends.fields.items)
    (adds_on c.args.store.now (older_in c.args.order.now) c.args.variable c.rows.at
    (Record NoField (end_view c.in-Ends.end)) []
    (map field_view c.rows.fields.items) (map field_view c.step.new.fields.items) c.rows.invariant.adds h)
    c.in_ok-fields-in-Ends.ensures

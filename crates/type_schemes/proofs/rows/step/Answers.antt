-- The way along a row: `open_ends`, `constant_ends`, `row_ends`, `row_next`.
use Rattle.std.proofs.Common.{◌≡◌, ◌++◌, ◌∙◌, ap, sym, subst, map, length, rules, arith}
use Rattle.type_store.specs.Store as plain
use Rattle.type_store.specs.Store.{slot_at}
use Rattle.type_store.specs.declared.slot.Cell.TheVariants as cell
use Rattle.type_store.specs.View as stored
use Rattle.type_store.proofs.Undoing.{length_view}
use Rattle.type_schemes.proofs.Ends.{end_is}
use Rattle.type_schemes.specs.Rows.{Steps, older_in}
use Rattle.type_schemes.specs.declared.rows.Onward.TheVariants.{Ends}
use Rattle.elm_type.specs.declared.node.Leaf.TheVariants as leaf
use Rattle.std.specs.Prelude.{Some, None}
use Rattle.type_schemes.proofs.Along.{open_ends, constant_ends, row_ends, row_next, never_bound, never_built}
use Rattle.type_schemes.proofs.Along.{rest_inside}
use Rattle.type_schemes.proofs.Listed.{listed_inside, cell_read}
use Rattle.type_schemes.proofs.rows.step.Goals as goal

pub bounds-slots-variable : goal.bounds-slots-variable
bounds-slots-variable c =
    let l = listed_inside c.args.store.now (older_in c.args.order.now) c.args.variable c.requires.first
    c.requires.listed in
    omega (arith, l, ap length c.slots.ensures, length_view c.slots.result.now)

pub root-requires : goal.root-requires
root-requires c =
    let l = listed_inside c.args.store.now (older_in c.args.order.now) c.args.variable c.requires.first
    c.requires.listed in
    let k : (slot_at c.args.store.now c.args.variable).cell ≡ plain.Row (map stored.field_view c.in-Row.more.items)
    (Some c.in-Some.rest) =
    cell_read c.slots.result.now c.args.store.now c.args.variable c.index-slots-variable.result
    (cell.Row c.in-Row.more (Some c.in-Some.rest)) c.slots.ensures l
    c.index-slots-variable.is (ap (λ x. x.cell) c.index-slots-variable.is ∙
    (c.in-Row.is ∙ ap (cell.Row c.in-Row.more) c.in-Some.is)) in
    rest_inside c.args.store.now (older_in c.args.order.now) c.requires.whole c.requires.first c.args.variable
    c.requires.listed (map stored.field_view c.in-Row.more.items) c.in-Some.rest k

pub unreachable-requires : goal.unreachable-requires
unreachable-requires c =
    let l = listed_inside c.args.store.now (older_in c.args.order.now) c.args.variable c.requires.first
    c.requires.listed in
    let k : (slot_at c.args.store.now c.args.variable).cell ≡ plain.Bound c.in-Bound.field-0 =
    cell_read c.slots.result.now c.args.store.now c.args.variable c.index-slots-variable.result
    (cell.Bound c.in-Bound.field-0) c.slots.ensures l
    c.index-slots-variable.is (ap (λ x. x.cell) c.index-slots-variable.is ∙ c.in-Bound.is) in
    never_bound c.args.store.now (older_in c.args.order.now) c.requires.whole c.requires.first c.args.variable
    c.requires.listed c.in-Bound.field-0 k

pub unreachable-requires-in-Built : goal.unreachable-requires-in-Built
unreachable-requires-in-Built c =
    let l = listed_inside c.args.store.now (older_in c.args.order.now) c.args.variable c.requires.first
    c.requires.listed in
    let k : (slot_at c.args.store.now c.args.variable).cell ≡ plain.Built c.in-Built.field-0 c.in-Built.field-1.items =
    cell_read c.slots.result.now c.args.store.now c.args.variable c.index-slots-variable.result
    (cell.Built c.in-Built.field-0 c.in-Built.field-1) c.slots.ensures l
    c.index-slots-variable.is (ap (λ x. x.cell) c.index-slots-variable.is ∙ c.in-Built.is) in
    never_built c.args.store.now (older_in c.args.order.now) c.requires.whole c.requires.first c.args.variable
    c.requires.listed c.in-Built.field-0 c.in-Built.field-1.items c.requires.row k

pub returns-in-Open : goal.returns-in-Open
returns-in-Open c =
    let l = listed_inside c.args.store.now (older_in c.args.order.now) c.args.variable c.requires.first
    c.requires.listed in
    let k : (slot_at c.args.store.now c.args.variable).cell ≡ plain.Open =
    cell_read c.slots.result.now c.args.store.now c.args.variable c.index-slots-variable.result cell.Open
    c.slots.ensures l
    c.index-slots-variable.is (ap (λ x. x.cell) c.index-slots-variable.is ∙ c.in-Open.is) in
    open_ends c.args.store.now (older_in c.args.order.now) c.requires.whole c.requires.first c.args.variable
    c.requires.listed (map stored.field_view c.args.fields.now.items) k

pub returns-in_ok-clone-in-Constant : goal.returns-in_ok-clone-in-Constant
returns-in_ok-clone-in-Constant c =
    let l = listed_inside c.args.store.now (older_in c.args.order.now) c.args.variable c.requires.first
    c.requires.listed in
    let e : c.in_ok-clone-in-Constant.field-0 ≡ c.in-Constant.rigid = search rules in
    let k : (slot_at c.args.store.now c.args.variable).cell ≡ plain.Constant c.in-Constant.rigid =
    cell_read c.slots.result.now c.args.store.now c.args.variable c.index-slots-variable.result
    (cell.Constant c.in-Constant.rigid) c.slots.ensures l
    c.index-slots-variable.is (ap (λ x. x.cell) c.index-slots-variable.is ∙ c.in-Constant.is) in
    subst (λ r. Steps c.args.store.now (older_in c.args.order.now) c.args.variable (Ends (Some (leaf.Fixed r)))
    (map stored.field_view c.args.fields.now.items) (map stored.field_view c.args.fields.now.items)) (sym e)
    (constant_ends c.args.store.now (older_in c.args.order.now) c.requires.whole c.requires.first c.args.variable
    c.requires.listed c.in-Constant.rigid (map stored.field_view c.args.fields.now.items) k)

pub returns-in-None : goal.returns-in-None
returns-in-None c =
    let l = listed_inside c.args.store.now (older_in c.args.order.now) c.args.variable c.requires.first
    c.requires.listed in
    let k : (slot_at c.args.store.now c.args.variable).cell ≡ plain.Row (map stored.field_view c.in-Row.more.items) None
    =
    cell_read c.slots.result.now c.args.store.now c.args.variable c.index-slots-variable.result
    (cell.Row c.in-Row.more None) c.slots.ensures l
    c.index-slots-variable.is (ap (λ x. x.cell) c.index-slots-variable.is ∙
    (c.in-Row.is ∙ ap (cell.Row c.in-Row.more) c.in-None.is)) in
    row_ends c.args.store.now (older_in c.args.order.now) c.requires.whole c.requires.first c.args.variable
    c.requires.listed (map stored.field_view c.in-Row.more.items)
    (map stored.field_view c.args.fields.now.items) (map stored.field_view c.push_fields.new.fields.items) k
    (c.in_ok-push_fields-in-Row.ensures ∙ ap
    (λ fs. map stored.field_view c.args.fields.now.items ++ map stored.field_view fs) c.deref.ensures.value)

pub returns-in-Some : goal.returns-in-Some
returns-in-Some c =
    let l = listed_inside c.args.store.now (older_in c.args.order.now) c.args.variable c.requires.first
    c.requires.listed in
    let k : (slot_at c.args.store.now c.args.variable).cell ≡ plain.Row (map stored.field_view c.in-Row.more.items)
    (Some c.in-Some.rest) =
    cell_read c.slots.result.now c.args.store.now c.args.variable c.index-slots-variable.result
    (cell.Row c.in-Row.more (Some c.in-Some.rest)) c.slots.ensures l
    c.index-slots-variable.is (ap (λ x. x.cell) c.index-slots-variable.is ∙
    (c.in-Row.is ∙ ap (cell.Row c.in-Row.more) c.in-Some.is)) in
    row_next c.args.store.now (older_in c.args.order.now) c.requires.whole c.requires.first c.args.variable
    c.requires.listed (map stored.field_view c.in-Row.more.items)
    (map stored.field_view c.args.fields.now.items) (map stored.field_view c.push_fields.new.fields.items)
    c.in-Some.rest c.root.result k
    (end_is c.args.store.now c.requires.whole c.in-Some.rest c.root.result c.root.ensures.leads c.root.ensures.ends)
    (c.in_ok-push_fields-in-Row.ensures ∙ ap
    (λ fs. map stored.field_view c.args.fields.now.items ++ map stored.field_view fs) c.deref.ensures.value)

use Rattle.std.proofs.Common.{◌∙◌, ◌++◌, List, Ok, ap, map}
use Rattle.type_store.specs.Steps.{rest_asks}
use Rattle.type_store.specs.Store.{field_names}
use Rattle.type_store.specs.View.{field_view, work_view}
use Rattle.type_store.specs.declared.slot.FieldSlot as stored_field
use Rattle.type_store.proofs.Building.{did_row_ready, did_row_becomes, did_row_clash, did_row_goes}
use Rattle.type_store.proofs.build.push_row.Goals as goal

pub add-requires-clause-ready : goal.add-requires-clause-ready
add-requires-clause-ready c =
    did_row_ready c.args.slots.now.items c.make.new.slots.items (map field_view c.args.fields.items) c.args.end c.args.depth c.args.tools.now.work.items c.push_rest.new.work.items
    c.requires.whole c.requires.inside c.requires.cell c.in-Ok-make.ensures.lowered
    (c.in-Ok-push_rest.ensures ∙ ap (λ (xs : List stored_field.FieldSlot). work_view c.args.tools.now.work.items ++ rest_asks c.args.end (field_names (map field_view xs))) c.deref.ensures.value)
    c.requires.work c.in-Ok-make.ensures.levelled

pub returns-in-Ok-true-clause-made : goal.returns-in-Ok-true-clause-made
returns-in-Ok-true-clause-made c =
    did_row_becomes c.args.slots.now.items c.make.new.slots.items (map field_view c.args.fields.items) c.args.end c.args.depth c.args.tools.now.work.items c.push_rest.new.work.items
    c.requires.whole c.requires.inside c.requires.cell c.in-Ok-make.ensures.lowered
    (c.in-Ok-push_rest.ensures ∙ ap (λ (xs : List stored_field.FieldSlot). work_view c.args.tools.now.work.items ++ rest_asks c.args.end (field_names (map field_view xs))) c.deref.ensures.value)
    c.requires.work c.add.new.slots.items (c.add.ensures.yes (c.in-Ok-true.is ∙ ap Ok c.in-Ok-true.field-0-test))

pub returns-in-Ok-true-clause-goes : goal.returns-in-Ok-true-clause-goes
returns-in-Ok-true-clause-goes c =
    did_row_goes c.args.slots.now.items c.make.new.slots.items (map field_view c.args.fields.items) c.args.end c.args.depth c.args.tools.now.work.items c.push_rest.new.work.items
    c.requires.whole c.requires.inside c.requires.cell c.in-Ok-make.ensures.lowered
    (c.in-Ok-push_rest.ensures ∙ ap (λ (xs : List stored_field.FieldSlot). work_view c.args.tools.now.work.items ++ rest_asks c.args.end (field_names (map field_view xs))) c.deref.ensures.value)
    c.requires.work c.add.new.slots.items (c.add.ensures.yes (c.in-Ok-true.is ∙ ap Ok c.in-Ok-true.field-0-test))

pub returns-in-Ok-false-clause-clash : goal.returns-in-Ok-false-clause-clash
returns-in-Ok-false-clause-clash c e =
    did_row_clash c.args.slots.now.items c.make.new.slots.items (map field_view c.args.fields.items) c.args.end c.args.depth c.args.tools.now.work.items c.push_rest.new.work.items
    c.requires.whole c.requires.inside c.requires.cell c.in-Ok-make.ensures.lowered
    (c.in-Ok-push_rest.ensures ∙ ap (λ (xs : List stored_field.FieldSlot). work_view c.args.tools.now.work.items ++ rest_asks c.args.end (field_names (map field_view xs))) c.deref.ensures.value)
    c.requires.work (c.add.ensures.no (c.in-Ok-false.is ∙ ap Ok c.in-Ok-false.field-0-test))

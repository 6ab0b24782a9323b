use Rattle.std.proofs.Common.{◌∙◌, ◌∷◌, ◌++◌, [], ap, reverse}
use Rattle.type_store.specs.declared.slot.FieldSlot.{FieldSlot}
use Rattle.type_schemes.specs.declared.order.Task.TheVariants.{Enter}
use Rattle.type_schemes.specs.Walk.{entered}
use Rattle.type_schemes.proofs.Working.{pushed, all_pushed, slots_of}
use Rattle.type_schemes.proofs.order.push_fields.Goals as goal

pub loop-field-preserved : goal.loop-field-preserved
loop-field-preserved c =
    pushed (λ (f : FieldSlot). f.slot) c.args.fields.now c.loop-field.field-index c.field-item.result c.args.todo.now.items c.loop-field.todo.items c.push.new.self.items
    c.loop-field-test.true c.loop-field.invariant
    (c.in_ok-push.ensures.items ∙ ap (λ (f : FieldSlot). c.loop-field.todo.items ++ Enter f.slot ∷ []) c.field-item.is)

pub returns : goal.returns
returns c =
    all_pushed (λ (f : FieldSlot). f.slot) c.args.fields.now c.loop-field.field-index c.args.todo.now.items c.loop-field.todo.items c.loop-field-test.false c.loop-field.invariant
    ∙ ap (λ vs. entered vs (reverse c.args.todo.now.items)) (slots_of c.args.fields.now)

use Rattle.std.proofs.Common.{◌≡◌, take, map, reverse}
use Rattle.type_store.specs.declared.slot.FieldSlot.{FieldSlot}
use Rattle.type_schemes.specs.Walk.{entered}
use Rattle.type_schemes.proofs.order.push_fields.Given as goal

abbrev pub invariant-loop-field : goal.invariant-loop-field
invariant-loop-field l = reverse l.todo.items ≡ entered (map (λ (f : FieldSlot). f.slot) (take l.field-index l.fields)) (reverse l.fn.todo.items)

use Rattle.std.proofs.Common.{◌≡◌, map, take}
use Rattle.type_store.specs.View.{field_view}
use Rattle.infer_types.specs.Stacks.{slots}
use Rattle.infer_types.proofs.writing.slots_of.Given as goal

abbrev pub invariant-loop-field : goal.invariant-loop-field
invariant-loop-field l = l.variables.items ≡ slots (map field_view (take l.field-index l.fields))

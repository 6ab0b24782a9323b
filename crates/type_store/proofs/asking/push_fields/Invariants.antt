use Rattle.std.proofs.Common.{◌≡◌, ◌++◌, take, map}
use Rattle.type_store.specs.Steps.{sames}
use Rattle.type_store.specs.Store.{field_slots}
use Rattle.type_store.specs.View.{field_view, work_view}
use Rattle.type_store.proofs.asking.push_fields.Given as goal

abbrev pub invariant-loop-index : goal.invariant-loop-index
invariant-loop-index l = record { pushed : work_view l.work.items ≡ work_view l.fn.work.items ++ sames (take l.index (field_slots (map field_view l.first))) (take l.index (field_slots (map field_view l.second))) }

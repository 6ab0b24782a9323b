use Rattle.std.proofs.Common.{◌≡◌, ◌++◌, take, map}
use Rattle.type_store.specs.Solutions as solutions
use Rattle.type_store.specs.Store.{field_names}
use Rattle.type_store.specs.View.{field_view, work_view}
use Rattle.type_store.proofs.asking.push_names.Given as goal

abbrev pub invariant-loop-field : goal.invariant-loop-field
invariant-loop-field l = work_view l.work.items ≡ work_view l.fn.work.items ++ map (solutions.Lacks l.variable) (field_names (map field_view (take l.field-index l.fields)))

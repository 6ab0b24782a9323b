use Rattle.std.proofs.Common.{◌≡◌, ◌++◌, take, map}
use Rattle.type_store.specs.Solutions as solutions
use Rattle.type_store.specs.View.{work_view}
use Rattle.type_store.proofs.asking.push_lacks.Given as goal

abbrev pub invariant-loop-name : goal.invariant-loop-name
invariant-loop-name l = work_view l.work.items ≡ work_view l.fn.work.items ++ map (solutions.Lacks l.variable) (take l.name-index l.names)

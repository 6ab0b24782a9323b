use Rattle.std.proofs.Common.{◌≡◌, ◌++◌, take}
use Rattle.type_store.specs.Steps.{sames}
use Rattle.type_store.specs.View.{work_view}
use Rattle.type_store.proofs.asking.push_sames.Given as goal

abbrev pub invariant-loop-index : goal.invariant-loop-index
invariant-loop-index l = record { pushed : work_view l.work.items ≡ work_view l.fn.work.items ++ sames (take l.index l.first) (take l.index l.second) }

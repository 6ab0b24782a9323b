use Rattle.std.proofs.Common.{◌≡◌, ◌++◌, take}
use Rattle.type_store.specs.Steps.{part_asks}
use Rattle.type_store.specs.View.{work_view}
use Rattle.type_store.proofs.asking.push_parts.Given as goal

abbrev pub invariant-loop-part : goal.invariant-loop-part
invariant-loop-part l = work_view l.work.items ≡ work_view l.fn.work.items ++ part_asks l.class (take l.part-index l.parts)

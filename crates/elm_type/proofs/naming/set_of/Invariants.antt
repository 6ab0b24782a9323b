use Rattle.std.proofs.Common.{take}
use Rattle.elm_type.specs.Used.{SameNames}
use Rattle.elm_type.proofs.naming.set_of.Given as goal

abbrev pub invariant-loop-name : goal.invariant-loop-name
invariant-loop-name l = SameNames l.set (take l.name-index l.names)

use Rattle.std.proofs.Common.{◌≡◌, ◌++◌, take}
use Rattle.pattern_check.proofs.text.put.Given as goal

abbrev pub invariant-loop-byte : goal.invariant-loop-byte
invariant-loop-byte l = l.text.items ≡ l.initial.text.items ++ take l.byte-index l.ascii

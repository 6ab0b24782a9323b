use Rattle.std.proofs.Common.{◌≡◌, take}
use Rattle.project_parts.specs.Outcomes.{fault_lines}
use Rattle.elm_make.proofs.lines.fault_lines.Given as goal

abbrev pub invariant-loop-fault : goal.invariant-loop-fault
invariant-loop-fault l = l.lines.items ≡ fault_lines (take l.fault-index l.faults)

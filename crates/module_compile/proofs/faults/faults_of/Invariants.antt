use Rattle.std.proofs.Common.{◌≡◌, map, take}
use Rattle.module_made.specs.Made.{fault_in}
use Rattle.module_compile.proofs.faults.faults_of.Given as goal

abbrev pub invariant-loop-finding : goal.invariant-loop-finding
invariant-loop-finding l = l.faults.items ≡ map (fault_in l.path) (take l.finding-index l.findings)

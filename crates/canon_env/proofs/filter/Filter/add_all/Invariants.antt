use Rattle.std.proofs.Common.{[], take}
use Rattle.canon_env.specs.Imports.{These}
use Rattle.canon_env.specs.Filter.{Filters}
use Rattle.canon_env.proofs.filter.Filter.add_all.Given as goal

abbrev pub invariant-loop-entry : goal.invariant-loop-entry
invariant-loop-entry l = Filters l.initial.self (These []) → Filters l.self (These (take l.entry-index l.entries))

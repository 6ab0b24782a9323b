use Rattle.std.proofs.Common.{◌<◌, length}
use Rattle.type_store.specs.Steps.{Leads}
use Rattle.type_store.specs.View.{store_view}
use Rattle.type_store.proofs.chain.find.Given as goal

abbrev pub invariant-loop-at : goal.invariant-loop-at
invariant-loop-at l = record { inside : l.at < length l.slots; leads : Leads (store_view l.slots) l.variable l.at }

abbrev pub decreases-loop-at : goal.decreases-loop-at
decreases-loop-at l = l.at

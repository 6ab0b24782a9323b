use Rattle.std.proofs.Common.{length}
use Rattle.type_store.proofs.linked.+joined.Given as goal

abbrev pub decreases-joined : goal.decreases-joined
decreases-joined l = length l.rows.now

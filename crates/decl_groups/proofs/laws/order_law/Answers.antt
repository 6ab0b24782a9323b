-- Definitions have one order: `one_order`.
use Rattle.decl_groups.proofs.Unique.{one_order}
use Rattle.decl_groups.proofs.laws.order_law.Goals as goal

pub returns : goal.returns
returns c uses placed groups others = one_order

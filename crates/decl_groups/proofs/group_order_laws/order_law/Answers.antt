-- What is computed is an order: `order_is`.
use Rattle.decl_groups.proofs.Ordering.{order_is}
use Rattle.decl_groups.proofs.group_order_laws.order_law.Goals as goal

pub returns : goal.returns
returns c = order_is

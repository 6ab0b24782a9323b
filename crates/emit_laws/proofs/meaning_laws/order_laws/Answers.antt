use Rattle.emit_laws.proofs.meaning_laws.order_laws.Goals as goal
use Rattle.emit_laws.proofs.Order.{order_turns, order_chains, levels_alike, equal_by_order}

pub returns : goal.returns
returns c = record {
  turns = order_turns;
  chains = order_chains;
  levels_alike = levels_alike;
  equal_by_order = equal_by_order;
}

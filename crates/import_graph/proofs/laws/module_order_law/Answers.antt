-- One order or one ring, and never both: `one_order`, `one_ring`, `not_both`.
use Rattle.import_graph.proofs.OneOrder.{one_order, one_ring, not_both}
use Rattle.import_graph.proofs.laws.module_order_law.Goals as goal

pub returns-clause-one_order : goal.returns-clause-one_order
returns-clause-one_order c = λ uses order other o p. one_order o p

pub returns-clause-one_ring : goal.returns-clause-one_ring
returns-clause-one_ring c = λ uses ring other r s. one_ring r s

pub returns-clause-not_both : goal.returns-clause-not_both
returns-clause-not_both c = λ uses order ring o r. not_both o r

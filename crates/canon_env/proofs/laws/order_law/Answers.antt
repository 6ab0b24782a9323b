-- Two ascending lists with the same faults have the same first one, and so on: `one_order`.
use Rattle.canon_env.proofs.Ordering.{one_order}
use Rattle.canon_env.proofs.laws.order_law.Goals as goal

pub returns : goal.returns
returns c = λ found a b p q.
    one_order a b p.ascends q.ascends
    (λ f h. (q.members f).1 ((p.members f).0 h)) (λ f h. (p.members f).1 ((q.members f).0 h))

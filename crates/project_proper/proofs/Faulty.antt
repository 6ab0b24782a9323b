-- Faults in order: a list has them in one order, and none where there are none.
use Rattle.std.proofs.Common.{◌≡◌, List, [], ◌∷◌, refl, subst, arith}
use Rattle.std.specs.Prelude.{Contains}
use Rattle.canon_env.specs.declared.finding.Finding.{Finding}
use Rattle.canon_env.specs.Order.{IsInOrder}
use Rattle.canon_env.proofs.Ordering.{one_order}

pub one_list : (found a b : List Finding) → IsInOrder found a → IsInOrder found b → a ≡ b
one_list found a b p q =
    one_order a b p.ascends q.ascends
    (λ f h. (q.members f).1 ((p.members f).0 h)) (λ f h. (p.members f).1 ((q.members f).0 h))

pub never_none : (found : List Finding) (f : Finding) (fs : List Finding) → IsInOrder found (f ∷ fs) → found ≡ [] → ⊥
never_none found f fs p e =
    let h : Contains [] f = subst (λ gs. Contains gs f) e ((p.members f).0 (0, omega arith, refl)) in
    absurd (omega (arith, h.1))

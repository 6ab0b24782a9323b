-- Orders and rings of small graphs.
use Rattle.std.proofs.Common.{ℕ, zero, suc, ◌<◌, ◌≤◌, List, [], ◌∷◌, ⊎_elim, refl, sym, subst, arith}
use Rattle.std.specs.List.{Contains}
use Rattle.std.proofs.lemmas.Bool.{cases_lt}
use Rattle.decl_groups.specs.Groups.{Uses, Reaches, here, through, Together, Ascends}
use Rattle.decl_groups.proofs.Basics.{no_member, first_member, later_member, member_cases}
use Rattle.import_graph.specs.Order.{IsReady, all_placed, next, ReachesItself}
use Rattle.import_graph.specs.Examples.{Diamond, Later, Circle, Alone}
use Rattle.import_graph.proofs.Orders.{any_member, any_is_member, only_member}

-- ---- orders

-- all lower modules are placed
lowest : (uses : List (List ℕ)) (placed : List ℕ) (m : ℕ) → ((i : ℕ) → i < m → Contains placed i) → (other : ℕ) → IsReady uses placed other → m ≤ other
lowest uses placed m all other r = ⊎_elim (λ l. absurd (r.not_placed (all other l))) (λ l. l) (cases_lt other m)

one : (i : ℕ) → i < 1 → Contains (0 ∷ []) i
one zero l = first_member 0 []
one (suc i) l = absurd (omega arith)

two : (i : ℕ) → i < 2 → Contains (0 ∷ 1 ∷ []) i
two zero l = first_member 0 (1 ∷ [])
two (suc zero) l = any_is_member (0 ∷ 1 ∷ []) 1 refl
two (suc (suc i)) l = absurd (omega arith)

three : (i : ℕ) → i < 3 → Contains (0 ∷ 1 ∷ 2 ∷ []) i
three zero l = first_member 0 (1 ∷ 2 ∷ [])
three (suc zero) l = any_is_member (0 ∷ 1 ∷ 2 ∷ []) 1 refl
three (suc (suc zero)) l = any_is_member (0 ∷ 1 ∷ 2 ∷ []) 2 refl
three (suc (suc (suc i))) l = absurd (omega arith)

four : (i : ℕ) → i < 4 → Contains (0 ∷ 1 ∷ 2 ∷ 3 ∷ []) i
four zero l = first_member 0 (1 ∷ 2 ∷ 3 ∷ [])
four (suc zero) l = any_is_member (0 ∷ 1 ∷ 2 ∷ 3 ∷ []) 1 refl
four (suc (suc zero)) l = any_is_member (0 ∷ 1 ∷ 2 ∷ 3 ∷ []) 2 refl
four (suc (suc (suc zero))) l = any_is_member (0 ∷ 1 ∷ 2 ∷ 3 ∷ []) 3 refl
four (suc (suc (suc (suc i)))) l = absurd (omega arith)

abbrev diamond : List (List ℕ)
diamond = [] ∷ [] ∷ (0 ∷ 1 ∷ []) ∷ (2 ∷ []) ∷ []

pub is_diamond : Diamond
is_diamond =
    next (record { ready = record { within = omega arith; not_placed = no_member 0; imports = λ j c. absurd (no_member j c) }; least = λ other r. omega arith })
    (next (record { ready = record { within = omega arith; not_placed = any_member (0 ∷ []) 1 refl; imports = λ j c. absurd (no_member j c) }; least = lowest diamond (0 ∷ []) 1 one })
    (next (record { ready = record { within = omega arith; not_placed = any_member (0 ∷ 1 ∷ []) 2 refl; imports = λ j c. c }; least = lowest diamond (0 ∷ 1 ∷ []) 2 two })
    (next (record { ready = record { within = omega arith; not_placed = any_member (0 ∷ 1 ∷ 2 ∷ []) 3 refl; imports = λ j c. later_member 0 j (1 ∷ 2 ∷ []) (later_member 1 j (2 ∷ []) c) }; least = lowest diamond (0 ∷ 1 ∷ 2 ∷ []) 3 three })
    (all_placed four))))

abbrev later : List (List ℕ)
later = (2 ∷ []) ∷ [] ∷ [] ∷ []

after_none : (other : ℕ) → IsReady later [] other → 1 ≤ other
after_none zero r = absurd (no_member 2 (r.imports 2 (first_member 2 [])))
after_none (suc other) r = omega arith

after_one : (other : ℕ) → IsReady later (1 ∷ []) other → 2 ≤ other
after_one zero r = absurd (any_member (1 ∷ []) 2 refl (r.imports 2 (first_member 2 [])))
after_one (suc zero) r = absurd (r.not_placed (first_member 1 []))
after_one (suc (suc other)) r = omega arith

in_turn : (i : ℕ) → i < 3 → Contains (1 ∷ 2 ∷ 0 ∷ []) i
in_turn zero l = any_is_member (1 ∷ 2 ∷ 0 ∷ []) 0 refl
in_turn (suc zero) l = any_is_member (1 ∷ 2 ∷ 0 ∷ []) 1 refl
in_turn (suc (suc zero)) l = any_is_member (1 ∷ 2 ∷ 0 ∷ []) 2 refl
in_turn (suc (suc (suc i))) l = absurd (omega arith)

pub is_later : Later
is_later =
    next (record { ready = record { within = omega arith; not_placed = no_member 1; imports = λ j c. absurd (no_member j c) }; least = after_none })
    (next (record { ready = record { within = omega arith; not_placed = any_member (1 ∷ []) 2 refl; imports = λ j c. absurd (no_member j c) }; least = after_one })
    (next (record { ready = record { within = omega arith; not_placed = any_member (1 ∷ 2 ∷ []) 0 refl; imports = λ j c. later_member 1 j (2 ∷ []) c }; least = λ other r. omega arith })
    (all_placed in_turn)))

-- ---- rings

-- what modules lead to stays among them where their imports do
stays : {uses : List (List ℕ)} {i j : ℕ} (among : List ℕ) → ((i k : ℕ) → Contains among i → Uses uses i k → Contains among k) → Reaches uses i j → Contains among i → Contains among j
stays among step here c = c
stays among step (through {i = i} {j = k} u r) c = stays among step r (step i k c u)

abbrev circle : List (List ℕ)
circle = (1 ∷ []) ∷ (0 ∷ []) ∷ (0 ∷ []) ∷ []

in_circle : (i k : ℕ) → Contains (0 ∷ 1 ∷ []) i → Uses circle i k → Contains (0 ∷ 1 ∷ []) k
in_circle zero k c u = subst (Contains (0 ∷ 1 ∷ [])) (only_member 1 k u) (two 1 (omega arith))
in_circle (suc zero) k c u = subst (Contains (0 ∷ 1 ∷ [])) (only_member 0 k u) (two 0 (omega arith))
in_circle (suc (suc i)) k c u = absurd (above i c)
  where
    above : (i : ℕ) → Contains (0 ∷ 1 ∷ []) (suc (suc i)) → ⊥
    above i c = ⊎_elim (λ e. omega (arith, e)) (λ d. omega (arith, only_member 1 (suc (suc i)) d)) (member_cases 0 (suc (suc i)) (1 ∷ []) c)

to_one : Reaches circle 0 1
to_one = through (first_member 1 []) here

to_zero : Reaches circle 1 0
to_zero = through (first_member 0 []) here

around : (i : ℕ) → Contains (0 ∷ 1 ∷ []) i → (i < 3) × Together circle 0 i
around zero c = (omega arith, (here, here))
around (suc zero) c = (omega arith, (to_one, to_zero))
around (suc (suc i)) c = ⊎_elim (λ e. absurd (omega (arith, e))) (λ d. absurd (omega (arith, only_member 1 (suc (suc i)) d))) (member_cases 0 (suc (suc i)) (1 ∷ []) c)

pair_ascends : Ascends (0 ∷ 1 ∷ [])
pair_ascends zero zero l m = absurd (omega arith)
pair_ascends zero (suc zero) l m = omega arith
pair_ascends zero (suc (suc j)) l m = absurd (omega arith)
pair_ascends (suc i) zero l m = absurd (omega arith)
pair_ascends (suc i) (suc zero) l m = absurd (omega arith)
pair_ascends (suc i) (suc (suc j)) l m = absurd (omega arith)

pub is_circle : Circle
is_circle = record {
  is_group = record {
    ascends = pair_ascends;
    not_empty = omega arith;
    members = λ i. (around i, λ t. stays (0 ∷ 1 ∷ []) in_circle t.1.0 (two 0 (omega arith)));
  };
  reaches_itself = (1, first_member 1 [], to_zero);
  least = λ i l r. omega arith;
}

abbrev alone : List (List ℕ)
alone = (2 ∷ []) ∷ (1 ∷ []) ∷ (2 ∷ []) ∷ []

-- modules 1 and 2 lead to themselves alone
from_one : (i k : ℕ) → Contains (1 ∷ []) i → Uses alone i k → Contains (1 ∷ []) k
from_one i k c u = subst (λ x. Uses alone x k) (sym (only_member 1 i c)) u

from_two : (i k : ℕ) → Contains (2 ∷ []) i → Uses alone i k → Contains (2 ∷ []) k
from_two i k c u = subst (λ x. Uses alone x k) (sym (only_member 2 i c)) u

not_first : (i : ℕ) → ReachesItself alone i → 1 ≤ i
not_first zero r =
    let two = subst (λ x. Reaches alone x 0) (sym (only_member 2 r.0 r.1)) r.2 in
    absurd (any_member (2 ∷ []) 0 refl (stays (2 ∷ []) from_two two (first_member 2 [])))
not_first (suc i) r = omega arith

one_ascends : Ascends (1 ∷ [])
one_ascends i zero l m = absurd (omega arith)
one_ascends i (suc j) l m = absurd (omega arith)

pub is_alone : Alone
is_alone = record {
  is_group = record {
    ascends = one_ascends;
    not_empty = omega arith;
    members = λ i. (λ c. let e = only_member 1 i c in (omega (arith, e), (subst (Reaches alone 1) e here, subst (λ x. Reaches alone x 1) e here)), λ t. stays (1 ∷ []) from_one t.1.0 (first_member 1 []));
  };
  reaches_itself = (1, first_member 1 [], here);
  least = λ i l r. not_first i r;
}

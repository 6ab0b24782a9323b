-- The ring with the least first module, among one more group.
use Rattle.std.proofs.Common.{◌≡◌, ℕ, ◌+◌, ◌<◌, ◌≤◌, List, [], ◌∷◌, length, ◌⊎◌, inl, inr, ⊎_elim, Bool, true, false}
use Rattle.std.proofs.Common.{Option, Some, None, refl, sym, ap, subst, ◌∙◌, arith, Vec, Global, get_or}
use Rattle.std.specs.Prelude.{IfSome, nat_lt}
use Rattle.std.proofs.lemmas.Bool.{false≢true, cases_lt}
use Rattle.std.proofs.lemmas.Bool.Decides.{nat_tests}
use Rattle.std.proofs.lemmas.List.{get_or-map}
use Rattle.decl_groups.specs.Groups.{plain, list_at, position_of}
use Rattle.import_graph.specs.Rings.{is_ring, IsLeast, begins_lower}

ring_some : (uses : List (List ℕ)) (g : List ℕ) → is_ring uses g ≡ true → 0 < length g
ring_some uses [] e = absurd (false≢true e)
ring_some uses (m ∷ more) e = omega arith

pub least_within : (uses groups : List (List ℕ)) (n count : ℕ) (least : Option ℕ) → n ≤ count → IsLeast uses groups n least → IfSome least (λ other. other < count)
least_within uses groups n count None l is = tt
least_within uses groups n count (Some p) l is = omega (arith, is.0)

pub least_some : (uses groups : List (List ℕ)) (n : ℕ) (least : Option ℕ) → IsLeast uses groups n least → IfSome least (λ other. 0 < length (list_at groups other))
least_some uses groups n None is = tt
least_some uses groups n (Some p) is = ring_some uses (list_at groups p) is.1

pub place_some : (uses groups : List (List ℕ)) (n : ℕ) → is_ring uses (list_at groups n) ≡ true → 0 < length (list_at groups n)
place_some uses groups n e = ring_some uses (list_at groups n) e

lower : (a b : ℕ) → nat_lt a b ≡ true → a < b
lower a b e = grind (arith, nat_tests)

not_lower : (a b : ℕ) → nat_lt a b ≡ false → b ≤ a
not_lower a b e = grind (arith, nat_tests)

below_or_at : (k n : ℕ) → k < n + 1 → (k < n) ⊎ (k ≡ n)
below_or_at k n l = ⊎_elim inl (λ h. inr (omega (arith, h, l))) (cases_lt k n)

-- the group at place n is a ring that begins lower
pub least_here : (uses groups : List (List ℕ)) (n : ℕ) (least : Option ℕ) → IsLeast uses groups n least → is_ring uses (list_at groups n) ≡ true →
    begins_lower groups n least ≡ true → IsLeast uses groups (n + 1) (Some n)
least_here uses groups n None is e b =
    (omega arith, e, λ k l r. ⊎_elim (λ h. absurd (false≢true (sym (is k h) ∙ r))) (λ h. let z : k ≡ n = h in omega (arith, ap (λ x. position_of (list_at groups x)) h)) (below_or_at k n l))
least_here uses groups n (Some p) is e b =
    (omega arith, e, λ k l r. ⊎_elim (λ h. omega (arith, is.2 k h r, lower _ _ b)) (λ h. omega (arith, ap (λ x. position_of (list_at groups x)) h)) (below_or_at k n l))

-- it is none, or does not begin lower
pub least_stays : (uses groups : List (List ℕ)) (n : ℕ) (least : Option ℕ) → IsLeast uses groups n least →
    (is_ring uses (list_at groups n) ≡ true → begins_lower groups n least ≡ false) → IsLeast uses groups (n + 1) least
least_stays uses groups n None is f = λ k l. ⊎_elim (λ h. is k h) (λ h. subst (λ x. is_ring uses (list_at groups x) ≡ false) (sym h) (no_ring (is_ring uses (list_at groups n)) refl)) (below_or_at k n l)
  where
    no_ring : (b : Bool) → is_ring uses (list_at groups n) ≡ b → is_ring uses (list_at groups n) ≡ false
    no_ring true e = absurd (false≢true (sym (f e)))
    no_ring false e = e
least_stays uses groups n (Some p) is f = (
  omega (arith, is.0),
  is.1,
  λ k l r. ⊎_elim (λ h. is.2 k h r)
      (λ h. omega (arith, not_lower _ _ (f (subst (λ x. is_ring uses (list_at groups x) ≡ true) h r)), ap (λ x. position_of (list_at groups x)) h)) (below_or_at k n l),
)

-- the items of the vector at a place
pub plain_at : (groups : List (Vec ℕ Global)) (n : ℕ) (v : Vec ℕ Global) → n < length groups → v ≡ get_or groups n v → list_at (plain groups) n ≡ v.items
plain_at groups n v l e = get_or-map (λ (x : Vec ℕ Global). x.items) groups n v [] l ∙ ap (λ (x : Vec ℕ Global). x.items) (sym e)

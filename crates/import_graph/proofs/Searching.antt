-- A number in a ring, whose numbers ascend.
use Rattle.std.proofs.Common.{◌≡◌, ℕ, ◌<◌, ◌≤◌, List, length, get_or, Result, Ok, Err, ⊎_elim, sym, subst, arith}
use Rattle.std.specs.Prelude.{nat_eq}
use Rattle.std.specs.List.{list_any}
use Rattle.std.specs.List.Sorted.{IsBinarySearchResult}
use Rattle.std.specs.Ordering.{nat_cmp}
use Rattle.std.specs.Result.{MatchResult, is_ok}
use Rattle.std.proofs.lemmas.Bool.{cases_lt}
use Rattle.std.proofs.lemmas.Bool.Decides.{nat_tests}
use Rattle.std.proofs.lemmas.List.{get_or_default}
use Rattle.std.proofs.lemmas.List.Folds.{list_any_at, list_any_none}
use Rattle.std.proofs.lemmas.List.Sorted.{searched}
use Rattle.decl_groups.specs.Groups.{Ascends}

does_not_fall : (ring : List ℕ) → Ascends ring → (i j : ℕ) → i ≤ j → j < length ring → get_or ring i 0 ≤ get_or ring j 0
does_not_fall ring a i j l m =
    ⊎_elim (λ h. let k : get_or ring i 0 < get_or ring j 0 = a i j h m in omega arith) (λ h. let e : i ≡ j = omega arith in subst (λ x. get_or ring i 0 ≤ get_or ring x 0) e (omega arith)) (cases_lt i j)

found_iff : (ring : List ℕ) (n : ℕ) (r : Result ℕ ℕ) → MatchResult r (λ i. (i < length ring) × (get_or ring i 0 ≡ n)) (λ i. (i ≤ length ring) × ((k : ℕ) → k < i → get_or ring k 0 < n) × ((k : ℕ) → i ≤ k → k < length ring → n < get_or ring k 0))
    → is_ok r ≡ list_any (nat_eq n) ring
found_iff ring n (Ok i) h = sym (list_any_at (nat_eq n) ring i 0 h.0 (let e : get_or ring i 0 ≡ n = h.1 in grind (arith, nat_tests)))
found_iff ring n (Err i) h =
    sym (list_any_none (nat_eq n) ring (λ k d l.
    let same : get_or ring k d ≡ get_or ring k 0 = get_or_default ring k d 0 l in
    ⊎_elim (λ m. let b : get_or ring k 0 < n = h.1 k m in grind (arith, nat_tests)) (λ m. let b : n < get_or ring k 0 = h.2 k m l in grind (arith, nat_tests)) (cases_lt k i)))

-- what the search in a ring tells
pub is_among_it : (ring : List ℕ) (n : ℕ) (r : Result ℕ ℕ) → Ascends ring → IsBinarySearchResult (λ y. nat_cmp y n) ring r → is_ok r ≡ list_any (nat_eq n) ring
is_among_it ring n r a s = found_iff ring n r (searched ring n r s (does_not_fall ring a))

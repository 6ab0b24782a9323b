-- Places in lists.
use Rattle.std.proofs.Common.{◌≡◌, ℕ, zero, suc, ◌+◌, ◌-◌, ◌<◌, ◌≤◌, List, [], ◌∷◌, ◌++◌, length, map, take, get_or}
use Rattle.std.proofs.Common.{Option, Some, None, Bool, true, false, nat_lt, cond, ⊎_elim, refl, sym, ap, subst, ◌∙◌}
use Rattle.std.proofs.Common.{arith}
use Rattle.std.specs.Prelude.{slice_get, option_map, unwrap_or}
use Rattle.std.specs.List.{AllByRecursion, Contains, filter_map, cons_option, position, position_or_len, list_any}
use Rattle.std.specs.Str.{bytes_eq}
use Rattle.std.proofs.lemmas.Bool.{cases_lt, false≢true}
use Rattle.std.proofs.lemmas.Bool.Decides.{nat_tests}
use Rattle.std.proofs.lemmas.List.Quantifiers.{position-Some}
use Rattle.std.proofs.lemmas.List.Sums.{fails_before_first}
use Rattle.std.proofs.lemmas.Map.Views.{Contains-from_any}
use Rattle.std.proofs.lemmas.Option.{get_or_from_slice_get, slice_get_within, slice_get-get_or, slice_get-map}
use Rattle.std.proofs.lemmas.Option.{unwrap_or-slice_get}
use Rattle.std.proofs.lemmas.Slice.Eq.{bytes_eq-Decides}
use Rattle.decl_groups.specs.Groups.{list_at}
use Rattle.decl_groups.proofs.Basics.{first_member, later_member, member_cases}

abbrev pub Names : Type 0
Names = List (List ℕ)

-- ---- the place of a name

stands : (xs : Names) (x : List ℕ) (k : ℕ) → slice_get xs k ≡ Some x → bytes_eq x (get_or xs k []) ≡ true
stands xs x k at = (bytes_eq-Decides x (get_or xs k [])).1 (sym (get_or_from_slice_get xs k x [] at))

-- the first of the places at which a name stands
pub first_place : (xs : Names) (x : List ℕ) (k n : ℕ) → slice_get xs k ≡ Some x → position (bytes_eq x) xs ≡ Some n
    → n ≤ k
first_place xs x k n at is =
    ⊎_elim (λ lt. absurd (false≢true (sym ((position-Some (bytes_eq x) xs n [] is).2 k lt) ∙ stands xs x k at)))
    (λ ge. omega (arith, ge)) (cases_lt k n)

-- the name stands at its place
pub at_place : (xs : Names) (x : List ℕ) (n : ℕ) → position (bytes_eq x) xs ≡ Some n → slice_get xs n ≡ Some x
at_place xs x n is =
    let p = position-Some (bytes_eq x) xs n [] is in
    slice_get-get_or xs n [] p.0 ∙ ap Some (sym ((bytes_eq-Decides x (get_or xs n [])).0 p.1))

-- a name that stands somewhere has a place
pub has_place : (xs : Names) (x : List ℕ) (k : ℕ) → slice_get xs k ≡ Some x
    → (n : ℕ) × (position (bytes_eq x) xs ≡ Some n)
has_place xs x k at =
    (position_or_len (bytes_eq x) xs, ap (λ b. cond b (Some (position_or_len (bytes_eq x) xs)) None) within)
  where
    within : nat_lt (position_or_len (bytes_eq x) xs) (length xs) ≡ true
    within =
        ⊎_elim
        (λ lt. absurd (false≢true (sym (fails_before_first (bytes_eq x) xs k [] lt) ∙ stands xs x k at)))
        (λ ge.
        let l = slice_get_within xs k x at in
        let h : position_or_len (bytes_eq x) xs < length xs = omega (arith, ge, l) in
        grind (arith, nat_tests, h)) (cases_lt k (position_or_len (bytes_eq x) xs))

-- ---- rows

given_below : (i : ℕ) (o : Option ℕ) (ns : List ℕ) → ((n : ℕ) → o ≡ Some n → n < i) → AllByRecursion (λ n. n < i) ns
    → AllByRecursion (λ n. n < i) (cons_option o ns)
given_below i None ns k rest = rest
given_below i (Some n) ns k rest = (k n refl, rest)

module _ {X : Type 0} where
  pub row_at : (g : X → List ℕ) (xs : List X) (i : ℕ)
      → list_at (map g xs) i ≡ unwrap_or (option_map g (slice_get xs i)) []
  row_at g xs i =
      sym (unwrap_or-slice_get (map g xs) i []) ∙ ap (λ o. unwrap_or o []) (slice_get-map g xs i)

  -- the numbers that a function gives
  pub numbers_below : (f : X → Option ℕ) (i : ℕ) (xs : List X)
      → AllByRecursion (λ x. (n : ℕ) → f x ≡ Some n → n < i) xs → AllByRecursion (λ n. n < i) (filter_map f xs)
  numbers_below f i [] h = tt
  numbers_below f i (x ∷ xs) h = given_below i (f x) (filter_map f xs) h.0 (numbers_below f i xs h.1)

  pub all_joined : (P : X → Type 0) (xs ys : List X) → AllByRecursion P xs → AllByRecursion P ys
      → AllByRecursion P (xs ++ ys)
  all_joined P [] ys p q = q
  all_joined P (x ∷ xs) ys p q = (p.0, all_joined P xs ys p.1 q)

first_given : {Y : Type 0} (o : Option Y) (ys : List Y) (y : Y) → o ≡ Some y → Contains (cons_option o ys) y
first_given None ys y e = absurd cc
first_given (Some w) ys y e = let s : w ≡ y = cc in subst (Contains (w ∷ ys)) s (first_member w ys)

later_given : {Y : Type 0} (o : Option Y) (ys : List Y) (y : Y) → Contains ys y → Contains (cons_option o ys) y
later_given None ys y c = c
later_given (Some w) ys y c = later_member w y ys c

-- what a function gives of a member is a member of what it gives
pub member_given : {X Y : Type 0} (f : X → Option Y) (xs : List X) (x : X) (y : Y) → Contains xs x → f x ≡ Some y
    → Contains (filter_map f xs) y
member_given f [] x y c e = absurd (omega (arith, c.1))
member_given f (z ∷ zs) x y c e =
    ⊎_elim (λ h. first_given (f z) (filter_map f zs) y (ap f h ∙ e))
    (λ r. later_given (f z) (filter_map f zs) y (member_given f zs x y r e)) (member_cases z x zs c)

-- ---- lists in parts

module _ {X : Type 0} where
  pub got_first : (xs ys : List X) (i : ℕ) (x : X) → slice_get xs i ≡ Some x → slice_get (xs ++ ys) i ≡ Some x
  got_first [] ys i x e = absurd cc
  got_first (z ∷ zs) ys zero x e = e
  got_first (z ∷ zs) ys (suc i) x e = got_first zs ys i x e

  got_from : (xs ys : List X) (n j : ℕ) (x : X) → n ≡ length xs + j → slice_get ys j ≡ Some x
      → slice_get (xs ++ ys) n ≡ Some x
  got_from [] ys n j x e is = let h : n ≡ j = omega (arith, e) in subst (λ k. slice_get ys k ≡ Some x) (sym h) is
  got_from (z ∷ zs) ys zero j x e is = absurd (omega (arith, e))
  got_from (z ∷ zs) ys (suc n) j x e is = got_from zs ys n j x (omega (arith, e)) is

  pub got_second : (xs ys : List X) (j : ℕ) (x : X) → slice_get ys j ≡ Some x
      → slice_get (xs ++ ys) (length xs + j) ≡ Some x
  got_second xs ys j x is = got_from xs ys (length xs + j) j x refl is

  -- a place stands in the first part or in the second
  pub got_cases : (xs ys : List X) (i : ℕ) (x : X) (R : Type 0) → slice_get (xs ++ ys) i ≡ Some x
      → (slice_get xs i ≡ Some x → R) → ((j : ℕ) → i ≡ length xs + j → slice_get ys j ≡ Some x → R) → R
  got_cases [] ys i x R e f g = g i (omega arith) e
  got_cases (z ∷ zs) ys zero x R e f g = f e
  got_cases (z ∷ zs) ys (suc i) x R e f g = got_cases zs ys i x R e f (λ j h. g j (omega (arith, h)))

  pub got_front : (xs : List X) (n k : ℕ) (x : X) → slice_get (take n xs) k ≡ Some x
      → (k < n) × (slice_get xs k ≡ Some x)
  got_front [] zero k x e = absurd cc
  got_front [] (suc n) k x e = absurd cc
  got_front (z ∷ zs) zero k x e = absurd cc
  got_front (z ∷ zs) (suc n) zero x e = (omega arith, e)
  got_front (z ∷ zs) (suc n) (suc k) x e = let r = got_front zs n k x e in (omega (arith, r.0), r.1)

  is_within : (xs : List X) (i : ℕ) → i < length xs → slice_get xs i ≡ None → ⊥
  is_within [] i l e = omega (arith, l)
  is_within (z ∷ zs) zero l e = cc
  is_within (z ∷ zs) (suc i) l e = is_within zs i (omega (arith, l)) e

  -- each number is a place of the list
  abbrev pub ArePlaces : List X → List ℕ → Type 0
  ArePlaces xs order = (j m : ℕ) → slice_get order j ≡ Some m → m < length xs

  given_one : (xs : List X) (m : ℕ) (order : List ℕ) (k n : ℕ) (x : X) (o : Option X) → slice_get xs m ≡ o
      → m < length xs → slice_get (m ∷ order) k ≡ Some n → slice_get xs n ≡ Some x
      → ((i : ℕ) → slice_get order i ≡ Some n → slice_get (filter_map (slice_get xs) order) i ≡ Some x)
      → slice_get (cons_option o (filter_map (slice_get xs) order)) k ≡ Some x
  given_one xs m order k n x None none l e is rest = absurd (is_within xs m l none)
  given_one xs m order zero n x (Some y) some l e is rest =
      let h : m ≡ n = cc in sym some ∙ ap (slice_get xs) h ∙ is
  given_one xs m order (suc k) n x (Some y) some l e is rest = rest k e

  -- the items at these places
  pub got_given : (xs : List X) (order : List ℕ) (k n : ℕ) (x : X) → ArePlaces xs order → slice_get order k ≡ Some n
      → slice_get xs n ≡ Some x → slice_get (filter_map (slice_get xs) order) k ≡ Some x
  got_given xs [] k n x w e is = absurd cc
  got_given xs (m ∷ order) k n x w e is =
      given_one xs m order k n x (slice_get xs m) refl (w zero m refl) e is
      (λ i f. got_given xs order i n x (λ j. w (suc j)) f is)

  -- the place of an item
  abbrev pub GivenAt : List X → List ℕ → ℕ → X → Type 0
  GivenAt xs order k x = (n : ℕ) × (slice_get order k ≡ Some n) × (slice_get xs n ≡ Some x)

  one_given : (xs : List X) (m : ℕ) (order : List ℕ) (k : ℕ) (x : X) (o : Option X) → slice_get xs m ≡ o → m < length xs
      → slice_get (cons_option o (filter_map (slice_get xs) order)) k ≡ Some x
      → ((i : ℕ) → slice_get (filter_map (slice_get xs) order) i ≡ Some x → GivenAt xs order i x)
      → GivenAt xs (m ∷ order) k x
  one_given xs m order k x None none l e rest = absurd (is_within xs m l none)
  one_given xs m order zero x (Some y) some l e rest = (m, refl, some ∙ e)
  one_given xs m order (suc k) x (Some y) some l e rest = rest k e

  pub given_got : (xs : List X) (order : List ℕ) (k : ℕ) (x : X) → ArePlaces xs order
      → slice_get (filter_map (slice_get xs) order) k ≡ Some x → GivenAt xs order k x
  given_got xs [] k x w e = absurd cc
  given_got xs (m ∷ order) k x w e =
      one_given xs m order k x (slice_get xs m) refl (w zero m refl) e
      (λ i f. given_got xs order i x (λ j. w (suc j)) f)

  -- what stands at a place is a member
  pub got_member : (xs : List X) (k : ℕ) (x : X) → slice_get xs k ≡ Some x → Contains xs x
  got_member [] k x e = absurd cc
  got_member (y ∷ ys) zero x e = let h : y ≡ x = cc in subst (Contains (y ∷ ys)) h (first_member y ys)
  got_member (y ∷ ys) (suc k) x e = later_member y x ys (got_member ys k x e)

  pub item_at : (xs : List X) (i : ℕ) → i < length xs → (x : X) × (slice_get xs i ≡ Some x)
  item_at [] i l = absurd (omega (arith, l))
  item_at (x ∷ xs) zero l = (x, refl)
  item_at (x ∷ xs) (suc i) l = item_at xs i (omega (arith, l))

  pub there_is : (xs : List X) (x : X) → Contains xs x → (i : ℕ) × (slice_get xs i ≡ Some x)
  there_is [] x c = absurd (omega (arith, c.1))
  there_is (y ∷ ys) x c =
      ⊎_elim (λ h. (zero, ap Some h)) (λ r. let i = there_is ys x r in (suc i.0, i.1)) (member_cases y x ys c)

-- what stands at a place of a list of images
pub mapped : {X Y : Type 0} (f : X → Y) (xs : List X) (k : ℕ) (y : Y) → slice_get (map f xs) k ≡ Some y
    → (x : X) × (slice_get xs k ≡ Some x) × (f x ≡ y)
mapped f [] k y e = absurd cc
mapped f (x ∷ xs) zero y e = (x, refl, cc)
mapped f (x ∷ xs) (suc k) y e = mapped f xs k y e

pub image : {X Y : Type 0} (f : X → Y) (xs : List X) (k : ℕ) (x : X) → slice_get xs k ≡ Some x
    → slice_get (map f xs) k ≡ Some (f x)
image f xs k x e = slice_get-map f xs k ∙ ap (option_map f) e

-- a name that is among others stands somewhere
pub among : (xs : Names) (x : List ℕ) → list_any (bytes_eq x) xs ≡ true → (k : ℕ) × (slice_get xs k ≡ Some x)
among xs x e = there_is xs x (Contains-from_any (λ y z. (bytes_eq-Decides y z).0) x xs e)

-- Where groups have an order, it is the one that is computed.
use Rattle.std.proofs.Common.{◌≡◌, ℕ, zero, suc, ◌<◌, ◌≤◌, ◌+◌, List, [], ◌∷◌, ◌++◌, Bool, true, false, cond, ◌⊎◌, inl, inr, ⊎_elim, Some, refl, sym, ap, ◌∙◌, subst, length, map, arith, eq-eqb}
use Rattle.std.proofs.lemmas.List.{get_or_default}
use Rattle.std.proofs.lemmas.Bool.{cases_lt, eqb-true, false≢true}
use Rattle.std.specs.Prelude.{◌&&◌, ◌||◌, ◌≢◌, filter}
use Rattle.std.specs.List.{Contains, list_all, range_with_len}
use Rattle.decl_groups.specs.Groups.{list_at, Uses, here, Together, Ascends, position_of, IsGroup, IsOrder, all_placed, next}
use Rattle.decl_groups.specs.InOrder.{is_in, reaches, places_of, group_of, groups_of, begins_with, is_ready, put_before, taken, first_and_rest, placed_in_turn, ordered_groups, AreWithin, IsTheOrder}
use Rattle.decl_groups.proofs.Basics.{no_member, first_member, later_member, member_cases, ascends_head, ascends_tail, same_ascending, member_map, map_member}
use Rattle.decl_groups.proofs.Unique.{first_of_group}
use Rattle.decl_groups.proofs.Reaching.{both, and_both, or_cases, or_first, or_second, sound, complete, is_use, use_is, joined_reaches}

-- ---- lists

ascends_cons : (x : ℕ) (xs : List ℕ) → Ascends xs → ((y : ℕ) → Contains xs y → x < y) → Ascends (x ∷ xs)
ascends_cons x xs a f zero zero l m = absurd (omega arith)
ascends_cons x xs a f zero (suc j) l m = f _ (j, omega arith, get_or_default xs j _ 0 (omega arith))
ascends_cons x xs a f (suc i) zero l m = absurd (omega arith)
ascends_cons x xs a f (suc i) (suc j) l m = a i j (omega arith) (omega arith)

all_from : {X : Type 0} (t : X → Bool) (xs : List X) (x : X) → list_all t xs ≡ true → Contains xs x → t x ≡ true
all_from t [] x e m = absurd (no_member x m)
all_from t (y ∷ ys) x e m =
    let p = both (t y) (list_all t ys) e in
    ⊎_elim (λ s. subst (λ z. t z ≡ true) s p.0) (λ k. all_from t ys x p.1 k) (member_cases y x ys m)

all_to : {X : Type 0} (t : X → Bool) (xs : List X) → ((x : X) → Contains xs x → t x ≡ true) → list_all t xs ≡ true
all_to t [] f = refl
all_to t (y ∷ ys) f = and_both (t y) (list_all t ys) (f y (first_member y ys)) (all_to t ys (λ x m. f x (later_member y x ys m)))

-- the numbers from a on that pass a test
module _ (p : ℕ → Bool) where
  Passing : ℕ → ℕ → List ℕ → Type 0
  Passing a n xs = ((y : ℕ) → Contains xs y → (a ≤ y) × (y < a + n) × (p y ≡ true)) × ((y : ℕ) → a ≤ y → y < a + n → p y ≡ true → Contains xs y) × Ascends xs

  passing_first : (a n : ℕ) (xs : List ℕ) (b : Bool) → p a ≡ b → Passing (a + 1) n xs → Passing a (suc n) (cond b (a ∷ xs) xs)
  unfolding Passing
  passing_first a n xs true e h = (
    (λ y m. ⊎_elim (λ s. (omega (arith, s), omega (arith, s), subst (λ z. p z ≡ true) s e)) (λ k. let r = h.0 y k in (omega (arith, r.0), omega (arith, r.1), r.2)) (member_cases a y xs m)),
    (λ y l u t. ⊎_elim (λ s. subst (Contains (a ∷ xs)) s (first_member a xs)) (λ k. later_member a y xs (h.1 y k (omega (arith, u)) t)) (first_or_later a y l)),
    ascends_cons a xs h.2 (λ y k. omega (arith, (h.0 y k).0)),
  )
    where
      first_or_later : (a y : ℕ) → a ≤ y → (a ≡ y) ⊎ (a + 1 ≤ y)
      first_or_later a y l = ⊎_elim (λ k. inr (omega (arith, k))) (λ k. inl (omega (arith, k, l))) (cases_lt a y)
  passing_first a n xs false e h = (
    (λ y m. let r = h.0 y m in (omega (arith, r.0), omega (arith, r.1), r.2)),
    (λ y l u t. ⊎_elim (λ k. h.1 y (omega (arith, k)) (omega (arith, u)) t) (λ k. absurd (false≢true (sym e ∙ subst (λ z. p z ≡ true) (later a y k l) t))) (cases_lt a y)),
    h.2,
  )
    where
      later : (a y : ℕ) → y ≤ a → a ≤ y → y ≡ a
      later a y k l = omega (arith, k, l)

  passing : (a n : ℕ) → Passing a n (filter p (range_with_len a n))
  unfolding Passing
  passing a zero = ((λ y m. absurd (no_member y m)), (λ y l u t. absurd (omega (arith, l, u))), (λ i j l m. absurd (omega (arith, m))))
  passing a (suc n) = passing_first a n (filter p (range_with_len (a + 1) n)) (p a) refl (passing (a + 1) n)

-- ---- groups

module _ (uses : List (List ℕ)) (w : AreWithin uses) where
  group_members : (i j : ℕ) → Contains (group_of uses i) j → (j < length uses) × Together uses i j
  unfolding Passing
  group_members i j m =
      let r = (passing (λ k. reaches uses i k && reaches uses k i) 0 (length uses)).0 j m in
      let b = both (reaches uses i j) (reaches uses j i) r.2 in
      (omega (arith, r.1), (sound uses (length uses) i j b.0, sound uses (length uses) j i b.1))

  members_group : (i j : ℕ) → j < length uses → Together uses i j → Contains (group_of uses i) j
  unfolding Passing
  members_group i j l t =
      (passing (λ k. reaches uses i k && reaches uses k i) 0 (length uses)).1 j (omega arith) (omega (arith, l))
      (and_both (reaches uses i j) (reaches uses j i) (complete uses w i j t.0) (complete uses w j i t.1))

  group_ascends : (i : ℕ) → Ascends (group_of uses i)
  unfolding Passing
  group_ascends i = (passing (λ k. reaches uses i k && reaches uses k i) 0 (length uses)).2

  turned : {i j : ℕ} → Together uses i j → Together uses j i
  turned t = (t.1, t.0)

  chained : {i j k : ℕ} → Together uses i j → Together uses j k → Together uses i k
  chained s t = (joined_reaches uses s.0 t.0, joined_reaches uses t.1 s.1)

  some_member : (group : List ℕ) (i : ℕ) → Contains group i → 0 < length group
  some_member group i m = omega (arith, m.1)

  group_is : (i : ℕ) → i < length uses → IsGroup uses (group_of uses i)
  group_is i l =
      let self = members_group i i l (here, here) in
      let some = some_member (group_of uses i) i self in
      let first = group_members i (position_of (group_of uses i)) (first_of_group (group_of uses i) some) in
      record {
        ascends = group_ascends i;
        not_empty = some;
        members = λ j. ((λ m. let r = group_members i j m in (r.0, chained (turned first.1) r.1)), (λ r. members_group i j r.0 (chained first.1 r.1)));
      }

  group_within : (g : List ℕ) → IsGroup uses g → position_of g < length uses
  group_within g is = ((is.members (position_of g)).0 (first_of_group g is.not_empty)).0

  -- each group is the one of its first place
  is_that : (g : List ℕ) → IsGroup uses g → g ≡ group_of uses (position_of g)
  is_that g is =
      same_ascending g (group_of uses (position_of g)) is.ascends (group_ascends (position_of g))
      (λ c m. let r = (is.members c).0 m in members_group (position_of g) c r.0 r.1)
      (λ c m. (is.members c).1 (group_members (position_of g) c m))

  begins : (g : List ℕ) → 0 < length g → begins_with (position_of g) g ≡ true
  begins [] h = absurd (omega (arith, h))
  begins (x ∷ xs) h = eq-eqb x x refl

  begins_at : (i : ℕ) (g : List ℕ) → begins_with i g ≡ true → position_of g ≡ i
  begins_at i [] e = absurd (false≢true e)
  begins_at i (x ∷ xs) e = sym (eqb-true i x e)

  is_first : ℕ → Bool
  is_first i = begins_with i (group_of uses i)

  in_groups : (g : List ℕ) → IsGroup uses g → Contains (groups_of uses) g
  unfolding Passing is_first
  in_groups g is =
      let p = position_of g in
      let e = is_that g is in
      let first : begins_with p (group_of uses p) ≡ true = subst (λ h. begins_with p h ≡ true) e (begins g is.not_empty) in
      let m = (passing is_first 0 (length uses)).1 p (omega arith) (omega (arith, group_within g is)) first in
      subst (Contains (groups_of uses)) (sym e) (member_map (group_of uses) (filter is_first (places_of uses)) p m)

  groups_sound : (g : List ℕ) → Contains (groups_of uses) g → IsGroup uses g
  unfolding Passing is_first
  groups_sound g m =
      let r = map_member (group_of uses) (filter is_first (places_of uses)) g m in
      let s = (passing is_first 0 (length uses)).0 r.0 r.1 in
      subst (IsGroup uses) r.2 (group_is r.0 (omega (arith, s.1)))

  -- by their first places
  Sorted : List (List ℕ) → Type 0
  Sorted [] = Unit {0}
  Sorted (g ∷ gs) = ((h : List ℕ) → Contains gs h → position_of g < position_of h) × Sorted gs

  firsts_sorted : (is : List ℕ) → Ascends is → ((i : ℕ) → Contains is i → position_of (group_of uses i) ≡ i) → Sorted (map (group_of uses) is)
  unfolding Sorted
  firsts_sorted [] a f = tt
  firsts_sorted (i ∷ is) a f = (
    (λ h m. let r = map_member (group_of uses) is h m in
        let l : i < r.0 = ascends_head i r.0 is a r.1 in
        let e : position_of (group_of uses i) ≡ i = f i (first_member i is) in
        let d : position_of (group_of uses r.0) ≡ r.0 = f r.0 (later_member i r.0 is r.1) in
        subst (λ k. position_of (group_of uses i) < position_of k) r.2 (omega (arith, l, e, d))),
    firsts_sorted is (ascends_tail i is a) (λ j m. f j (later_member i j is m)),
  )

  groups_sorted : Sorted (groups_of uses)
  unfolding Passing is_first
  groups_sorted = firsts_sorted (filter is_first (places_of uses)) (passing is_first 0 (length uses)).2 (λ i m. begins_at i (group_of uses i) ((passing is_first 0 (length uses)).0 i m).2)

  -- ---- what is ready

  ready_from : (placed g : List ℕ) → is_ready uses placed g ≡ true → (i j : ℕ) → Contains g i → Uses uses i j → Contains placed j ⊎ Contains g j
  ready_from placed g e i j m u =
      let row = all_from (λ k. list_all (λ j. is_in j placed || is_in j g) (list_at uses k)) g i e m in
      let one = all_from (λ k. is_in k placed || is_in k g) (list_at uses i) j row u in
      ⊎_elim (λ s. inl (is_use uses j placed s)) (λ s. inr (is_use uses j g s)) (or_cases (is_in j placed) (is_in j g) one)

  ready_to : (placed g : List ℕ) → ((i j : ℕ) → Contains g i → Uses uses i j → Contains placed j ⊎ Contains g j) → is_ready uses placed g ≡ true
  ready_to placed g f =
      all_to (λ k. list_all (λ j. is_in j placed || is_in j g) (list_at uses k)) g
      (λ i m. all_to (λ k. is_in k placed || is_in k g) (list_at uses i)
      (λ j u. ⊎_elim (λ s. or_first (is_in j placed) (is_in j g) (use_is uses j placed s)) (λ s. or_second (is_in j placed) (is_in j g) (use_is uses j g s)) (f i j m u)))

  -- ---- the group that is taken

  record Takes (placed g : List ℕ) (gs rest : List (List ℕ)) : Type 0 where
    is : taken uses placed gs ≡ Some (g, rest)
    fewer : length gs ≡ suc (length rest)
    kept : (h : List ℕ) → Contains rest h → Contains gs h × (position_of g ≢ position_of h)
    others : (h : List ℕ) → Contains gs h → (position_of g ≡ position_of h) ⊎ Contains rest h
    sorted : Sorted rest

  taken_later : (placed g : List ℕ) (h : List ℕ) (gs rest : List (List ℕ)) → is_ready uses placed h ≡ false → taken uses placed gs ≡ Some (g, rest) → taken uses placed (h ∷ gs) ≡ Some (g, h ∷ rest)
  taken_later placed g h gs rest e is = ap (λ b. cond b (Some (h, gs)) (put_before h (taken uses placed gs))) e ∙ ap (put_before h) is

  takes_first : (placed g h : List ℕ) (gs : List (List ℕ)) → Sorted (h ∷ gs) → h ≡ g → is_ready uses placed h ≡ true → Takes placed g (h ∷ gs) gs
  unfolding Sorted
  takes_first placed g h gs s q r = record {
    is = ap (λ b. cond b (Some (h, gs)) (put_before h (taken uses placed gs))) r ∙ ap (λ x. Some (x, gs)) q;
    fewer = refl;
    kept = λ x k. (later_member h x gs k, λ d. let a : position_of h < position_of x = s.0 x k in let b = ap position_of q in omega (arith, a, b, d));
    others = λ x k. ⊎_elim (λ d. inl (ap position_of (sym q ∙ d))) (λ d. inr d) (member_cases h x gs k);
    sorted = s.1;
  }

  takes_later : (placed g h : List ℕ) (gs rest : List (List ℕ)) → Sorted (h ∷ gs) → position_of g ≢ position_of h → is_ready uses placed h ≡ false → Takes placed g gs rest → Takes placed g (h ∷ gs) (h ∷ rest)
  unfolding Sorted
  takes_later placed g h gs rest s d r t = record {
    is = taken_later placed g h gs rest r t.is;
    fewer = omega (arith, t.fewer);
    kept = λ x k. ⊎_elim (λ q. (subst (Contains (h ∷ gs)) q (first_member h gs), subst (λ y. position_of g ≢ position_of y) q d)) (λ m. let p = t.kept x m in (later_member h x gs p.0, p.1)) (member_cases h x rest k);
    others = λ x k. ⊎_elim (λ q. inr (subst (Contains (h ∷ rest)) q (first_member h rest))) (λ m. ⊎_elim (λ e. inl e) (λ n. inr (later_member h x rest n)) (t.others x m)) (member_cases h x gs k);
    sorted = ((λ x k. s.0 x (t.kept x k).0), t.sorted);
  }

  ready_is_it : (placed g h : List ℕ) (gs : List (List ℕ)) → Sorted (h ∷ gs) → Contains (h ∷ gs) g → position_of g ≤ position_of h → h ≡ g
  unfolding Sorted
  ready_is_it placed g h gs s m l = ⊎_elim (λ q. q) (λ k. let a : position_of h < position_of g = s.0 g k in absurd (omega (arith, a, l))) (member_cases h g gs m)

  not_ready : (placed g h : List ℕ) → is_ready uses placed g ≡ true → is_ready uses placed h ≡ false → h ≢ g
  not_ready placed g h e r q = false≢true (sym r ∙ ap (is_ready uses placed) q ∙ e)

  later_place : (h : List ℕ) (gs : List (List ℕ)) (g : List ℕ) → Sorted (h ∷ gs) → Contains gs g → position_of g ≢ position_of h
  unfolding Sorted
  later_place h gs g s k d = let a : position_of h < position_of g = s.0 g k in omega (arith, a, d)

  sorted_tail : (h : List ℕ) (gs : List (List ℕ)) → Sorted (h ∷ gs) → Sorted gs
  unfolding Sorted
  sorted_tail h gs s = s.1

  Rest : List ℕ → List ℕ → List (List ℕ) → Type 0
  Rest placed g gs = (rest : List (List ℕ)) × Takes placed g gs rest

  takes_by : (placed g h : List ℕ) (gs : List (List ℕ)) (b : Bool) → is_ready uses placed h ≡ b → Sorted (h ∷ gs) → Contains (h ∷ gs) g → is_ready uses placed g ≡ true
      → ((x : List ℕ) → Contains (h ∷ gs) x → is_ready uses placed x ≡ true → position_of g ≤ position_of x) → (Contains gs g → Rest placed g gs) → Rest placed g (h ∷ gs)
  unfolding Rest
  takes_by placed g h gs true r s m e l below = (gs, takes_first placed g h gs s (ready_is_it placed g h gs s m (l h (first_member h gs) r)) r)
  takes_by placed g h gs false r s m e l below =
      ⊎_elim (λ q. absurd (not_ready placed g h e r q)) (λ k. let t = below k in (h ∷ t.0, takes_later placed g h gs t.0 s (later_place h gs g s k) r t.1)) (member_cases h g gs m)

  takes : (placed g : List ℕ) (gs : List (List ℕ)) → Sorted gs → Contains gs g → is_ready uses placed g ≡ true
      → ((x : List ℕ) → Contains gs x → is_ready uses placed x ≡ true → position_of g ≤ position_of x) → Rest placed g gs
  takes placed g [] s m e l = absurd (no_member g m)
  takes placed g (h ∷ gs) s m e l =
      takes_by placed g h gs (is_ready uses placed h) refl s m e l (λ k. takes placed g gs (sorted_tail h gs s) k e (λ x n r. l x (later_member h x gs n) r))

  -- ---- the order

  Apart : List ℕ → List ℕ → Type 0
  Apart placed g = (i : ℕ) → Contains g i → Contains placed i → ⊥

  record Remain (placed : List ℕ) (gs : List (List ℕ)) : Type 0 where
    sound_are : (g : List ℕ) → Contains gs g → IsGroup uses g × ((i : ℕ) → Contains g i → Contains placed i → ⊥)
    whole : (g : List ℕ) → IsGroup uses g → ((i : ℕ) → Contains g i → Contains placed i → ⊥) → Contains gs g
    sorted : Sorted gs

  in_join : (xs ys : List ℕ) (i : ℕ) → Contains (xs ++ ys) i → Contains xs i ⊎ Contains ys i
  in_join [] ys i m = inr m
  in_join (x ∷ xs) ys i m = ⊎_elim (λ q. inl (subst (Contains (x ∷ xs)) q (first_member x xs))) (λ k. ⊎_elim (λ a. inl (later_member x i xs a)) (λ b. inr b) (in_join xs ys i k)) (member_cases x i (xs ++ ys) m)

  join_first : (xs ys : List ℕ) (i : ℕ) → Contains xs i → Contains (xs ++ ys) i
  join_first [] ys i m = absurd (no_member i m)
  join_first (x ∷ xs) ys i m = ⊎_elim (λ q. subst (Contains (x ∷ xs ++ ys)) q (first_member x (xs ++ ys))) (λ k. later_member x i (xs ++ ys) (join_first xs ys i k)) (member_cases x i xs m)

  join_second : (xs ys : List ℕ) (i : ℕ) → Contains ys i → Contains (xs ++ ys) i
  join_second [] ys i m = m
  join_second (x ∷ xs) ys i m = later_member x i (xs ++ ys) (join_second xs ys i m)

  -- groups with a common member have one place
  common : (g h : List ℕ) (i : ℕ) → IsGroup uses g → IsGroup uses h → Contains g i → Contains h i → position_of g ≡ position_of h
  common g h i a b m n = ap position_of (same_ascending g h a.ascends b.ascends
      (λ c k. let r = (a.members c).0 k in (b.members c).1 (r.0, chained ((b.members i).0 n).1 (chained (turned ((a.members i).0 m).1) r.1)))
      (λ c k. let r = (b.members c).0 k in (a.members c).1 (r.0, chained ((a.members i).0 m).1 (chained (turned ((b.members i).0 n).1) r.1))))

  remain_next : (placed g : List ℕ) (gs rest : List (List ℕ)) → IsGroup uses g → Remain placed gs → Takes placed g gs rest → Remain (placed ++ g) rest
  remain_next placed g gs rest is r t = record {
    sound_are = λ h k. let p = t.kept h k in let q = r.sound_are h p.0 in
        (q.0, λ i m n. ⊎_elim (λ a. q.1 i m a) (λ b. p.1 (common g h i is q.0 b m)) (in_join placed g i n));
    whole = λ h is_h apart. ⊎_elim (λ e. absurd (apart (position_of h) (first_of_group h is_h.not_empty) (join_second placed g (position_of h) (subst (Contains g) e (first_of_group g is.not_empty)))))
        (λ k. k) (t.others h (r.whole h is_h (λ i m n. apart i m (join_first placed g i n))));
    sorted = t.sorted;
  }

  none_left : (placed : List ℕ) (gs : List (List ℕ)) → Remain placed gs → ((i : ℕ) → i < length uses → Contains placed i) → gs ≡ []
  none_left placed [] r f = refl
  none_left placed (g ∷ gs) r f = let q = r.sound_are g (first_member g gs) in absurd (q.1 (position_of g) (first_of_group g q.0.not_empty) (f (position_of g) (group_within g q.0)))

  placed_one : (n : ℕ) (placed g : List ℕ) (gs rest : List (List ℕ)) → taken uses placed gs ≡ Some (g, rest) → placed_in_turn uses (suc n) placed gs ≡ g ∷ placed_in_turn uses n (placed ++ g) rest
  placed_one n placed g gs rest e = ap (first_and_rest (λ group others. placed_in_turn uses n (placed ++ group) others)) e

  computed : (placed : List ℕ) (gs : List (List ℕ)) (n : ℕ) (groups : List (List ℕ)) → n ≡ length gs → Remain placed gs → IsOrder uses placed groups → placed_in_turn uses n placed gs ≡ groups
  unfolding Rest
  computed placed gs n groups e r (all_placed f) = ap (λ m. placed_in_turn uses m placed gs) (e ∙ ap length (none_left placed gs r f))
  computed placed gs n groups e r (next {group = g} {rest = rest} step o) =
      let in_gs = r.whole g step.ready.is_group step.ready.not_placed in
      let ready = ready_to placed g step.ready.used in
      let least = λ (x : List ℕ) (m : Contains gs x) (b : is_ready uses placed x ≡ true). step.least x (record { is_group = (r.sound_are x m).0; not_placed = (r.sound_are x m).1; used = ready_from placed x b }) in
      let t = takes placed g gs r.sorted in_gs ready least in
      ap (λ m. placed_in_turn uses m placed gs) (e ∙ t.1.fewer) ∙ placed_one (length t.0) placed g gs t.0 t.1.is
      ∙ ap (λ x. g ∷ x) (computed (placed ++ g) t.0 (length t.0) rest refl (remain_next placed g gs t.0 step.ready.is_group r t.1) o)

pub is_the_order : (uses : List (List ℕ)) → IsTheOrder uses
unfolding ordered_groups
is_the_order uses w groups o =
    computed uses w [] (groups_of uses) (length (groups_of uses)) groups refl
    (record { sound_are = λ g m. (groups_sound uses w g m, λ i k n. no_member i n); whole = λ g is apart. in_groups uses w g is; sorted = groups_sorted uses w }) o

-- Each definition stands in one group, and whether the group uses itself says whether the definition does.
use Rattle.std.proofs.Common.{◌≡◌, ℕ, ◌<◌, ◌≤◌, ◌+◌, zero, suc, List, [], ◌∷◌, ◌++◌, Bool, true, false, ◌⊎◌, inl, inr, ⊎_elim}
use Rattle.std.proofs.Common.{length, map, refl, sym, ap, ◌∙◌, subst, arith}
use Rattle.std.proofs.lemmas.Bool.{cases_lt, false≢true}
use Rattle.std.proofs.Math.ListN.{get_or-eq_default}
use Rattle.std.specs.Prelude.{◌&&◌, ◌||◌}
use Rattle.std.specs.List.{Contains, list_any, range_with_len}
use Rattle.decl_groups.specs.Groups.{list_at, Uses, Reaches, here, through, Ascends, IsGroup}
use Rattle.decl_groups.specs.Groups.{IsOrder, all_placed, next}
use Rattle.decl_groups.proofs.Basics.{no_member, first_member, later_member, member_cases, ascends_head, ascends_tail}
use Rattle.decl_groups.specs.InOrder.{is_in, reaches, places_of, is_recursive, uses_itself, AreWithin}
use Rattle.decl_groups.specs.View.{members_of, marks_of, is_marked, StandOnce, joined}
use Rattle.decl_groups.specs.declared.grouping.Group.{Group}
use Rattle.decl_groups.proofs.Reaching.{both, and_both, or_cases, or_first, or_second, sound, complete, is_use, use_is}
use Rattle.decl_groups.proofs.Reaching.{joined_reaches}

-- ---- tests of lists

pub same_bool : (a b : Bool) → (a ≡ true → b ≡ true) → (b ≡ true → a ≡ true) → a ≡ b
same_bool true b f g = sym (f refl)
same_bool false true f g = g refl
same_bool false false f g = refl

module _ {X : Type 0} (t : X → Bool) where
  any_from : (xs : List X) → list_any t xs ≡ true → (x : X) × Contains xs x × (t x ≡ true)
  any_from [] e = absurd (false≢true e)
  any_from (x ∷ xs) e =
      ⊎_elim (λ h. (x, first_member x xs, h))
      (λ h. let r = any_from xs h in (r.0, later_member x r.0 xs r.1, r.2))
      (or_cases (t x) (list_any t xs) e)

  any_to : (xs : List X) (x : X) → Contains xs x → t x ≡ true → list_any t xs ≡ true
  any_to [] x m e = absurd (no_member x m)
  any_to (y ∷ ys) x m e =
      ⊎_elim (λ s. or_first (t y) (list_any t ys) (subst (λ z. t z ≡ true) (sym s) e))
      (λ k. or_second (t y) (list_any t ys) (any_to ys x k e))
      (member_cases y x ys m)

in_range : (a n y : ℕ) → a ≤ y → y < a + n → Contains (range_with_len a n) y
in_range a zero y l u = absurd (omega (arith, l, u))
in_range a (suc n) y l u =
    ⊎_elim (λ k. later_member a y (range_with_len (a + 1) n) (in_range (a + 1) n y (omega (arith, k)) (omega (arith, u))))
    (λ k. let e : a ≡ y = omega (arith, k, l) in
    subst (Contains (a ∷ range_with_len (a + 1) n)) e (first_member a (range_with_len (a + 1) n)))
    (cases_lt a y)

-- ---- whether definitions use themselves

-- what leads to a definition is it, or leads to one that uses it
last_use : {uses : List (List ℕ)} {m i : ℕ} → Reaches uses m i → (m ≡ i) ⊎ ((j : ℕ) × Reaches uses m j × Uses uses j i)
last_use here = inl refl
last_use {uses} {m} {i} (through {j = x} u r) =
    ⊎_elim (λ e. inr (m, here, subst (Uses uses m) e u)) (λ s. inr (s.0, through u s.1, s.2)) (last_use r)

module _ (uses : List (List ℕ)) (w : AreWithin uses) where
  -- what uses is a definition
  pub user_within : (j i : ℕ) → Uses uses j i → j < length uses
  user_within j i u =
      ⊎_elim (λ l. l)
      (λ h. absurd (no_member i (subst (λ xs. Contains xs i) (get_or-eq_default uses [] h) u)))
      (cases_lt j (length uses))

  pub itself_from : (i j : ℕ) → Uses uses j i → Reaches uses i j → uses_itself uses i ≡ true
  itself_from i j u r =
      any_to (λ k. is_in i (list_at uses k) && reaches uses i k) (places_of uses) j
      (in_range 0 (length uses) j (omega arith) (omega (arith, user_within j i u)))
      (and_both (is_in i (list_at uses j)) (reaches uses i j) (use_is uses i (list_at uses j) u) (complete uses w i j r))

  from_itself : (i : ℕ) → uses_itself uses i ≡ true → (j : ℕ) × Uses uses j i × Reaches uses i j
  from_itself i e =
      let r = any_from (λ k. is_in i (list_at uses k) && reaches uses i k) (places_of uses) e in
      let b = both (is_in i (list_at uses r.0)) (reaches uses i r.0) r.2 in
      (r.0, is_use uses i (list_at uses r.0) b.0, sound uses (length uses) i r.0 b.1)

  -- another one that is together with it
  by_another : (i m : ℕ) → Reaches uses i m → Reaches uses m i → (m ≡ i → ⊥) → uses_itself uses i ≡ true
  by_another i m there back other =
      ⊎_elim (λ e. absurd (other e)) (λ s. itself_from i s.0 s.2 (joined_reaches uses there s.1)) (last_use back)

  pub recursive_is : (g : List ℕ) → IsGroup uses g → (i : ℕ) → Contains g i → is_recursive uses g ≡ true →
      uses_itself uses i ≡ true
  recursive_is [] is i m e = absurd (no_member i m)
  recursive_is (k ∷ []) is i m e =
      ⊎_elim (λ s. subst (λ z. uses_itself uses z ≡ true) s
      (itself_from k k (is_use uses k (list_at uses k) e) here))
      (λ n. absurd (no_member i n)) (member_cases k i [] m)
  recursive_is (k ∷ l ∷ rest) is i m e = at (member_cases k i (l ∷ rest) m)
    where
      g : List ℕ
      g = k ∷ l ∷ rest

      l_in : Contains (k ∷ l ∷ rest) l
      l_in = later_member k l (l ∷ rest) (first_member l rest)

      at : (k ≡ i) ⊎ Contains (l ∷ rest) i → uses_itself uses i ≡ true
      at (inl s) =
          let t = ((is.members l).0 l_in).1 in
          let b : k < l = ascends_head k l (l ∷ rest) is.ascends (first_member l rest) in
          subst (λ z. uses_itself uses z ≡ true) s (by_another k l t.0 t.1 (λ e. omega (arith, b, e)))
      at (inr n) =
          let t = ((is.members i).0 m).1 in
          let b : k < i = ascends_head k i (l ∷ rest) is.ascends n in
          by_another i k t.1 t.0 (λ e. omega (arith, b, e))

  pub is_recursive_from : (g : List ℕ) → IsGroup uses g → (i : ℕ) → Contains g i → uses_itself uses i ≡ true →
      is_recursive uses g ≡ true
  is_recursive_from [] is i m e = absurd (no_member i m)
  is_recursive_from (k ∷ []) is i m e =
      let r = from_itself i e in
      let t = ((is.members i).0 m).1 in
      let j_in : Contains (k ∷ []) r.0 =
      (is.members r.0).1 (user_within r.0 i r.1, (joined_reaches uses t.0 r.2, joined_reaches uses (through r.1 here) t.1)) in
      let i_is : k ≡ i = ⊎_elim (λ s. s) (λ n. absurd (no_member i n)) (member_cases k i [] m) in
      let j_is : k ≡ r.0 = ⊎_elim (λ s. s) (λ n. absurd (no_member r.0 n)) (member_cases k r.0 [] j_in) in
      use_is uses k (list_at uses k)
      (subst (λ z. Uses uses z k) (sym j_is) (subst (λ z. Uses uses r.0 z) (sym i_is) r.1))
  is_recursive_from (k ∷ l ∷ rest) is i m e = refl

-- ---- groups in order

pub member_append : (xs ys : List ℕ) (x : ℕ) → Contains (xs ++ ys) x → Contains xs x ⊎ Contains ys x
member_append [] ys x m = inr m
member_append (y ∷ xs) ys x m =
    ⊎_elim (λ e. inl (subst (Contains (y ∷ xs)) e (first_member y xs)))
    (λ k. ⊎_elim (λ h. inl (later_member y x xs h)) inr (member_append xs ys x k))
    (member_cases y x (xs ++ ys) m)

pub append_member : (xs ys : List ℕ) (x : ℕ) → Contains ys x → Contains (xs ++ ys) x
append_member [] ys x m = m
append_member (y ∷ xs) ys x m = later_member y x (xs ++ ys) (append_member xs ys x m)

pub front_member : (xs ys : List ℕ) (x : ℕ) → Contains xs x → Contains (xs ++ ys) x
front_member [] ys x m = absurd (no_member x m)
front_member (y ∷ xs) ys x m =
    ⊎_elim (λ e. subst (Contains (y ∷ xs ++ ys)) e (first_member y (xs ++ ys)))
    (λ k. later_member y x (xs ++ ys) (front_member xs ys x k)) (member_cases y x xs m)

ascends_once : (xs : List ℕ) → Ascends xs → StandOnce xs
ascends_once [] a = tt
ascends_once (x ∷ xs) a =
    ((λ m. let l : x < x = ascends_head x x xs a m in omega (arith, l)), ascends_once xs (ascends_tail x xs a))

once_append : (xs ys : List ℕ) → StandOnce xs → StandOnce ys → ((x : ℕ) → Contains xs x → Contains ys x → ⊥) →
    StandOnce (xs ++ ys)
once_append [] ys a b apart = b
once_append (x ∷ xs) ys a b apart = (
  (λ m. ⊎_elim a.0 (apart x (first_member x xs)) (member_append xs ys x m)),
  once_append xs ys a.1 b (λ y k. apart y (later_member x y xs k)),
)

module _ {uses : List (List ℕ)} where
  pub group_in : {placed : List ℕ} {gs : List (List ℕ)} → IsOrder uses placed gs → (g : List ℕ) → Contains gs g → IsGroup uses g
  group_in (all_placed f) g c = absurd (no_member g c)
  group_in (next {group = h} {rest = rest} n o) g c =
      ⊎_elim (λ e. subst (IsGroup uses) e n.ready.is_group) (λ k. group_in o g k) (member_cases h g rest c)

  -- each definition is placed or stands in a group
  covers : {placed : List ℕ} {gs : List (List ℕ)} → IsOrder uses placed gs → (i : ℕ) → i < length uses →
      Contains placed i ⊎ ((g : List ℕ) × Contains gs g × Contains g i)
  covers (all_placed f) i l = inl (f i l)
  covers (next {placed = placed} {group = h} {rest = rest} n o) i l =
      ⊎_elim
      (λ p. ⊎_elim inl (λ k. inr (h, first_member h rest, k)) (member_append placed h i p))
      (λ r. inr (r.0, later_member h r.0 rest r.1, r.2)) (covers o i l)

  once : {placed : List ℕ} {gs : List (List ℕ)} → IsOrder uses placed gs →
      StandOnce (joined gs) × ((i : ℕ) → Contains (joined gs) i → Contains placed i → ⊥)
  once (all_placed f) = (tt, λ i m p. no_member i m)
  once (next {placed = placed} {group = h} {rest = rest} n o) =
      let r = once o in (
        once_append h (joined rest) (ascends_once h n.ready.is_group.ascends) r.0
            (λ i m k. r.1 i k (append_member placed h i m)),
        λ i m p.
            ⊎_elim (λ k. n.ready.not_placed i k p) (λ k. r.1 i k (front_member placed h i p))
            (member_append h (joined rest) i m),
      )

-- ---- what the program tells

pub once_told : (uses gs : List (List ℕ)) → IsOrder uses [] gs → StandOnce (joined gs)
once_told uses gs o = (once o).0

marked : (uses : List (List ℕ)) (groups : List Group) → marks_of groups ≡ map (is_recursive uses) (members_of groups) →
    (i : ℕ) → is_marked groups i ≡ list_any (λ g. is_recursive uses g && is_in i g) (members_of groups)
marked uses [] e i = refl
marked uses (g ∷ gs) e i =
    let first : g.is_recursive ≡ is_recursive uses g.members.items = cc in
    let rest : marks_of gs ≡ map (is_recursive uses) (members_of gs) = cc in
    ap (λ b. (b && is_in i g.members.items) || is_marked gs i) first
    ∙ ap (λ b. (is_recursive uses g.members.items && is_in i g.members.items) || b) (marked uses gs rest i)

pub itself_told : (uses : List (List ℕ)) → AreWithin uses → (groups : List Group) →
    marks_of groups ≡ map (is_recursive uses) (members_of groups) → IsOrder uses [] (members_of groups) →
    (i : ℕ) → i < length uses → is_marked groups i ≡ uses_itself uses i
itself_told uses w groups marks o i l = marked uses groups marks i ∙ same_bool _ _ there back
  where
    there : list_any (λ g. is_recursive uses g && is_in i g) (members_of groups) ≡ true → uses_itself uses i ≡ true
    there e =
        let r = any_from (λ g. is_recursive uses g && is_in i g) (members_of groups) e in
        let b = both (is_recursive uses r.0) (is_in i r.0) r.2 in
        recursive_is uses w r.0 (group_in o r.0 r.1) i (is_use uses i r.0 b.1) b.0

    back : uses_itself uses i ≡ true → list_any (λ g. is_recursive uses g && is_in i g) (members_of groups) ≡ true
    back e =
        ⊎_elim (λ p. absurd (no_member i p))
        (λ r. any_to (λ g. is_recursive uses g && is_in i g) (members_of groups) r.0 r.1
        (and_both (is_recursive uses r.0) (is_in i r.0)
        (is_recursive_from uses w r.0 (group_in o r.0 r.1) i r.2 e) (use_is uses i r.0 r.2)))
        (covers o i l)

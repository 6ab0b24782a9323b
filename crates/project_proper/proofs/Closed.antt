-- What is reached has all that it uses: `uses_kept`, `main_kept`.
use Rattle.std.proofs.Common.{◌≡◌, ℕ, zero, suc, ◌+◌, ◌<◌, List, [], ◌∷◌, ◌++◌, Bool, true, false, if◌then◌else◌}
use Rattle.std.proofs.Common.{⊎_elim, Option, Some, None, option_map, map, length, refl, sym, ap}
use Rattle.std.proofs.Common.{◌∙◌, subst, arith}
use Rattle.std.proofs.lemmas.Bool.{false≢true}
use Rattle.std.specs.Prelude.{slice_get}
use Rattle.std.specs.List.{Contains, filter_map, cons_option}
use Rattle.elm_canon.specs.Names.{Name, same_ref}
use Rattle.elm_canon.specs.declared.reference.Ref.{Ref}
use Rattle.elm_canon.specs.declared.reference.Ref.TheVariants.{Local, Top}
use Rattle.elm_canon.specs.Proper.{Scope, among, IsIn}
use Rattle.elm_canon.specs.Declarations.{declared_names}
use Rattle.decl_groups.specs.Groups.{list_at, Uses, here, through}
use Rattle.decl_groups.proofs.Basics.{no_member, first_member, later_member, member_cases}
use Rattle.decl_groups.specs.InOrder.{AreWithin}
use Rattle.decl_groups.proofs.Reaching.{sound, complete, joined_reaches, or_cases, or_first, or_second}
use Rattle.canon_proper.proofs.Apart.{in_either, in_left, in_right}
use Rattle.canon_proper.proofs.Scopes.{one_ref, ref_itself}
use Rattle.link.specs.Names.{TopName, same_top, is_among, top_names, noted, each_once}
use Rattle.link.specs.Made.{refs_used}
use Rattle.link.specs.Reached.{declares, place_of, places_used, reaches_from, is_reached, kept}
use Rattle.link.specs.Programs.{Item, Core, Declared, item_names, item_uses, declarations_in}
use Rattle.project_proper.proofs.Left.{UsesKept}

-- ---- names of modules

same_itself : (z : TopName) → same_top z z ≡ true
same_itself z = ref_itself (Top z.0 z.1)

top_there : (m x n y : Name) → same_ref (Top m x) (Top n y) ≡ true → same_top (n, y) (m, x) ≡ true
top_there m x n y e =
    subst (λ r. same_ref (Top n y) r ≡ true) (sym (one_ref (Top m x) (Top n y) e)) (ref_itself (Top n y))

there_top : (m x n y : Name) → same_top (n, y) (m, x) ≡ true → same_ref (Top m x) (Top n y) ≡ true
there_top m x n y e =
    subst (λ r. same_ref (Top m x) r ≡ true) (sym (one_ref (Top n y) (Top m x) e)) (ref_itself (Top m x))

pub top_in : (m x : Name) (refs : List Ref) → IsIn (Top m x) refs → declares (top_names refs) (m, x) ≡ true
top_in m x [] e = absurd (false≢true e)
top_in m x (Local y ∷ refs) e = top_in m x refs e
top_in m x (Top n y ∷ refs) e =
    ⊎_elim (λ h. or_first (same_top (n, y) (m, x)) (declares (top_names refs) (m, x)) (head h))
    (λ h. or_second (same_top (n, y) (m, x)) (declares (top_names refs) (m, x)) (top_in m x refs h))
    (in_either (Top m x) (Top n y ∷ []) refs e)
  where
    head : IsIn (Top m x) (Top n y ∷ []) → same_top (n, y) (m, x) ≡ true
    head h = by (same_ref (Top m x) (Top n y)) refl h
      where
        by : (b : Bool) → same_ref (Top m x) (Top n y) ≡ b → (if b then true else false) ≡ true → same_top (n, y)
            (m, x) ≡ true
        by true e h = top_there m x n y e
        by false e h = absurd (false≢true h)

pub in_top : (m x : Name) (refs : List Ref) → declares (top_names refs) (m, x) ≡ true → IsIn (Top m x) refs
in_top m x [] e = absurd (false≢true e)
in_top m x (Local y ∷ refs) e = in_top m x refs e
in_top m x (Top n y ∷ refs) e =
    ⊎_elim (λ h. in_left (Top m x) (Top n y ∷ []) refs (ap (λ b. if b then true else false) (there_top m x n y h)))
    (λ h. in_right (Top m x) (Top n y ∷ []) refs (in_top m x refs h))
    (or_cases (same_top (n, y) (m, x)) (declares (top_names refs) (m, x)) e)

-- ---- names, each once

same_back : (a b : TopName) → same_top a b ≡ true → same_top b a ≡ true
same_back a b e =
    subst (λ r. same_ref r (Top a.0 a.1) ≡ true) (one_ref (Top a.0 a.1) (Top b.0 b.1) e) (ref_itself (Top a.0 a.1))

declares_left : (xs ys : List TopName) (z : TopName) → declares xs z ≡ true → declares (xs ++ ys) z ≡ true
declares_left [] ys z e = absurd (false≢true e)
declares_left (x ∷ xs) ys z e =
    ⊎_elim (or_first (same_top x z) (declares (xs ++ ys) z))
    (λ h. or_second (same_top x z) (declares (xs ++ ys) z) (declares_left xs ys z h))
    (or_cases (same_top x z) (declares xs z) e)

declares_last : (xs : List TopName) (x z : TopName) → same_top x z ≡ true → declares (xs ++ x ∷ []) z ≡ true
declares_last [] x z e = or_first (same_top x z) false e
declares_last (y ∷ xs) x z e = or_second (same_top y z) (declares (xs ++ x ∷ []) z) (declares_last xs x z e)

-- what is the same as one that is there is there
among_same : (ys : List TopName) (x z : TopName) → is_among x ys ≡ true → same_top x z ≡ true → declares ys z ≡ true
among_same [] x z e s = absurd (false≢true e)
among_same (y ∷ ys) x z e s =
    ⊎_elim (λ h. or_first (same_top y z) (declares ys z) (joined h))
    (λ h. or_second (same_top y z) (declares ys z) (among_same ys x z h s))
    (or_cases (same_top x y) (is_among x ys) e)
  where
    joined : same_top x y ≡ true → same_top y z ≡ true
    joined h = subst (λ r. same_ref r (Top z.0 z.1) ≡ true) (one_ref (Top x.0 x.1) (Top y.0 y.1) h) s

mutual
  noted_before : (before xs : List TopName) (z : TopName) → declares before z ≡ true
      → declares (noted before xs) z ≡ true
  noted_before before [] z e = e
  noted_before before (x ∷ xs) z e =
      noted_before (if is_among x before then before else before ++ x ∷ []) xs z (by (is_among x before))
    where
      by : (b : Bool) → declares (if b then before else before ++ x ∷ []) z ≡ true
      by true = e
      by false = declares_left before (x ∷ []) z e

  noted_all : (before xs : List TopName) (z : TopName) → declares xs z ≡ true → declares (noted before xs) z ≡ true
  noted_all before [] z e = absurd (false≢true e)
  noted_all before (x ∷ xs) z e =
      ⊎_elim (λ h. noted_before (next (is_among x before)) xs z (by (is_among x before) refl h))
      (noted_all (next (is_among x before)) xs z)
      (or_cases (same_top x z) (declares xs z) e)
    where
      next : Bool → List TopName
      next b = if b then before else before ++ x ∷ []

      by : (b : Bool) → is_among x before ≡ b → same_top x z ≡ true → declares (next b) z ≡ true
      by true there h = among_same before x z there h
      by false there h = declares_last before x z h

once_all : (xs : List TopName) (z : TopName) → declares xs z ≡ true → declares (each_once xs) z ≡ true
once_all xs z e = noted_all [] xs z e

-- ---- places

-- what an item declares
abbrev pub item_refs : Item → List Ref
item_refs (Core p) = p.0 ∷ []
item_refs (Declared ports d) = declared_names d

abbrev pub refs_in : List Item → List Ref
refs_in [] = []
refs_in (i ∷ is) = item_refs i ++ refs_in is

item_declares : (i : Item) (m x : Name) → IsIn (Top m x) (item_refs i) → declares (item_names i) (m, x) ≡ true
item_declares (Core p) m x e = top_in m x (p.0 ∷ []) e
item_declares (Declared ports d) m x e = top_in m x (declared_names d) e

declares_item : (i : Item) (m x : Name) → declares (item_names i) (m, x) ≡ true → IsIn (Top m x) (item_refs i)
declares_item (Core p) m x e = in_top m x (p.0 ∷ []) e
declares_item (Declared ports d) m x e = in_top m x (declared_names d) e

-- the place of a name, with what stands there
pub record Stands (is : List Item) (m x : Name) : Type 0 where
  pub place : ℕ
  pub found : place_of (map item_names is) (m, x) ≡ Some place
  pub item : Item
  pub at : slice_get is place ≡ Some item
  pub name : IsIn (Top m x) (item_refs item)

pub stands : (is : List Item) (m x : Name) → IsIn (Top m x) (refs_in is) → Stands is m x
stands [] m x e = absurd (false≢true e)
stands (i ∷ is) m x e = by (declares (item_names i) (m, x)) refl (stands is m x)
  where
    by : (b : Bool) → declares (item_names i) (m, x) ≡ b → (IsIn (Top m x) (refs_in is) → Stands is m x) →
        Stands (i ∷ is) m x
    by true h rest = record {
      place = 0;
      found = ap (λ b. if b then Some 0 else option_map suc (place_of (map item_names is) (m, x))) h;
      item = i;
      at = refl;
      name = declares_item i m x h;
    }
    by false h rest =
        next (rest (⊎_elim (λ k. absurd (false≢true (sym h ∙ item_declares i m x k))) (λ k. k)
        (in_either (Top m x) (item_refs i) (refs_in is) e)))
      where
        next : Stands is m x → Stands (i ∷ is) m x
        next s = record {
          place = suc s.place;
          found = ap (λ b. if b then Some 0 else option_map suc (place_of (map item_names is) (m, x))) h ∙ ap
              (option_map suc) s.found;
          item = s.item;
          at = s.at;
          name = s.name;
        }

-- ---- uses

found_used : (names : List (List TopName)) (us : List TopName) (z : TopName) (j : ℕ) → place_of names z ≡ Some j
    → declares us z ≡ true →
    Contains (filter_map (place_of names) us) j
found_used names [] z j e h = absurd (false≢true h)
found_used names (u ∷ us) z j e h =
    ⊎_elim (λ s. subst (λ o. Contains (cons_option o (filter_map (place_of names) us)) j)
    (sym (ap (place_of names) (same s) ∙ e)) (first_member j (filter_map (place_of names) us)))
    (λ s. by (place_of names u) (found_used names us z j e s))
    (or_cases (same_top u z) (declares us z) h)
  where
    same : same_top u z ≡ true → u ≡ z
    same s = ap (λ (r : Ref). pair r) (one_ref (Top u.0 u.1) (Top z.0 z.1) s)
      where
        pair : Ref → TopName
        pair (Local y) = u
        pair (Top m y) = (m, y)

    by : (o : Option ℕ) → Contains (filter_map (place_of names) us) j
        → Contains (cons_option o (filter_map (place_of names) us)) j
    by None c = c
    by (Some k) c = later_member k j (filter_map (place_of names) us) c

place_below : (names : List (List TopName)) (z : TopName) (j : ℕ) → place_of names z ≡ Some j → j < length names
place_below [] z j e = absurd cc
place_below (ns ∷ names) z j e = by (declares ns z) (place_of names z) (place_below names z) e
  where
    by : (b : Bool) (o : Option ℕ) → ((k : ℕ) → o ≡ Some k → k < length names)
        → (if b then Some 0 else option_map suc o) ≡ Some j → j < suc (length names)
    by true o f e = let z : 0 ≡ j = cc in omega arith
    by false None f e = absurd cc
    by false (Some k) f e = let z : suc k ≡ j = cc in let h = f k refl in omega arith

used_below : (names : List (List TopName)) (us : List TopName) (j : ℕ) → Contains (filter_map (place_of names) us) j
    → j < length names
used_below names [] j c = absurd (no_member j c)
used_below names (u ∷ us) j c = by (place_of names u) (λ k. place_below names u k) c (used_below names us j)
  where
    by : (o : Option ℕ) → ((k : ℕ) → o ≡ Some k → k < length names) →
        Contains (cons_option o (filter_map (place_of names) us)) j →
        (Contains (filter_map (place_of names) us) j → j < length names) → j < length names
    by None f c rest = rest c
    by (Some k) f c rest =
        ⊎_elim (λ e. f j (ap Some e)) rest (member_cases k j (filter_map (place_of names) us) c)

row_of : (names uses : List (List TopName)) (i : ℕ) (j : ℕ) → Contains (list_at (places_used names uses) i) j
    → j < length names
row_of names [] i j c = absurd (no_member j c)
row_of names (us ∷ uses) zero j c = used_below names us j c
row_of names (us ∷ uses) (suc i) j c = row_of names uses i j c

length_used : (names uses : List (List TopName)) → length (places_used names uses) ≡ length uses
length_used names [] = refl
length_used names (us ∷ uses) = ap suc (length_used names uses)

length_items : {X : Type 0} (f : Item → X) (is : List Item) → length (map f is) ≡ length is
length_items f [] = refl
length_items f (i ∷ is) = ap suc (length_items f is)

row_at : (names : List (List TopName)) (is : List Item) (i : ℕ) (it : Item) → slice_get is i ≡ Some it →
    list_at (places_used names (map item_uses is)) i ≡ filter_map (place_of names) (item_uses it)
row_at names [] i it e = absurd cc
row_at names (j ∷ is) zero it e = let h : j ≡ it = cc in ap (λ k. filter_map (place_of names) (item_uses k)) h
row_at names (j ∷ is) (suc i) it e = row_at names is i it e

-- ---- what is reached

module _ (all : List Item) (start : TopName) where
  abbrev names : List (List TopName)
  names = map item_names all

  abbrev used : List (List ℕ)
  used = places_used names (map item_uses all)

  abbrev pub test : ℕ → Bool
  test = is_reached names (map item_uses all) start

  within : AreWithin used
  within i j u = let l = row_of names (map item_uses all) i j u in
      omega (arith, l, length_items item_names all, length_items item_uses all, length_used names (map item_uses all))

  -- what one that is reached uses is reached
  goes_on : (i j : ℕ) → test i ≡ true → Uses used i j → test j ≡ true
  unfolding is_reached
  goes_on i j e u = by (place_of names start) e
    where
      by : (o : Option ℕ) → reaches_from used o i ≡ true → reaches_from used o j ≡ true
      by None e = absurd (false≢true e)
      by (Some s) e = complete used within s j (joined_reaches used (sound used (length used) s i e) (through u here))

  begins : (s : ℕ) → place_of names start ≡ Some s → test s ≡ true
  unfolding is_reached
  begins s e = ap (λ o. reaches_from used o s) e ∙ complete used within s s here

  -- the names of what stands at a place that is reached are kept
  kept_has : (n : ℕ) (is : List Item) (j : ℕ) (it : Item) → slice_get is j ≡ Some it → test (n + j) ≡ true → (r : Ref)
      → IsIn r (item_refs it) →
      IsIn r (refs_in (kept test n is))
  kept_has n [] j it at t r e = absurd cc
  kept_has n (i ∷ is) zero it at t r e = by (test n) (ap test (omega arith) ∙ t)
    where
      same : i ≡ it
      same = cc

      by : (b : Bool) → b ≡ true → IsIn r (refs_in (if b then i ∷ kept test (suc n) is else kept test (suc n) is))
      by true t =
          in_left r (item_refs i) (refs_in (kept test (suc n) is)) (subst (λ k. IsIn r (item_refs k)) (sym same) e)
      by false t = absurd (false≢true t)
  kept_has n (i ∷ is) (suc j) it at t r e = by (test n) (kept_has (suc n) is j it at (ap test (omega arith) ∙ t) r e)
    where
      by : (b : Bool) → IsIn r (refs_in (kept test (suc n) is)) →
          IsIn r (refs_in (if b then i ∷ kept test (suc n) is else kept test (suc n) is))
      by true rest = in_right r (item_refs i) (refs_in (kept test (suc n) is)) rest
      by false rest = rest

  abbrev pub kept_names : List Ref
  kept_names = refs_in (kept test 0 all)

  -- a name that stands at a place that is reached
  stands_kept : (m x : Name) (s : Stands all m x) → test s.place ≡ true → IsIn (Top m x) kept_names
  stands_kept m x s t = kept_has 0 all s.place s.item s.at (ap test (omega arith) ∙ t) (Top m x) s.name

  pub main_kept : IsIn (Top start.0 start.1) (refs_in all) → IsIn (Top start.0 start.1) kept_names
  main_kept e = let s = stands all start.0 start.1 e in stands_kept start.0 start.1 s (begins s.place s.found)

  one_use : (i : ℕ) (it : Item) → slice_get all i ≡ Some it → test i ≡ true → (m x : Name) → declares (item_uses it)
      (m, x) ≡ true →
      IsIn (Top m x) (refs_in all) → IsIn (Top m x) kept_names
  one_use i it at t m x u e =
      let s = stands all m x e in
      stands_kept m x s (goes_on i s.place t
      (subst (λ row. Contains row s.place) (sym (row_at names all i it at))
      (found_used names (item_uses it) (m, x) s.place s.found u)))

  module _ (whole : Scope) (no_locals : (x : Name) → among (Local x) whole ≡ false)
      (known : (r : Ref) → IsIn r whole → IsIn r (refs_in all)) where
    uses_from : (n : ℕ) (is : List Item) →
        ((j : ℕ) (it : Item) → slice_get is j ≡ Some it → slice_get all (n + j) ≡ Some it) →
        UsesKept whole kept_names (declarations_in (kept test n is))
    uses_from n [] at = tt
    uses_from n (i ∷ is) at =
        by (test n) refl (uses_from (suc n) is (λ j it e. ap (slice_get all) (omega arith) ∙ at (suc j) it e))
      where
        here_is : slice_get all n ≡ Some i
        here_is = ap (slice_get all) (omega arith) ∙ at 0 i refl

        own : test n ≡ true → (it : Item) → i ≡ it →
            UsesKept whole kept_names (declarations_in (kept test (suc n) is)) →
            UsesKept whole kept_names (declarations_in (it ∷ kept test (suc n) is))
        own t (Core p) e rest = rest
        own t (Declared ports d) e rest = (used_kept, rest)
          where
            used_kept : (r : Ref) → IsIn r (refs_used d) → IsIn r whole → IsIn r kept_names
            used_kept (Local x) u w = absurd (false≢true (sym (no_locals x) ∙ w))
            used_kept (Top m x) u w =
                one_use n (Declared ports d) (here_is ∙ ap Some e) t m x
                (once_all (top_names (refs_used d)) (m, x) (top_in m x (refs_used d) u)) (known (Top m x) w)

        by : (b : Bool) → test n ≡ b → UsesKept whole kept_names (declarations_in (kept test (suc n) is)) →
            UsesKept whole kept_names
            (declarations_in (if b then i ∷ kept test (suc n) is else kept test (suc n) is))
        by true t rest = own t i refl rest
        by false t rest = rest

    pub uses_kept : UsesKept whole kept_names (declarations_in (kept test 0 all))
    uses_kept = uses_from 0 all (λ j it e. ap (slice_get all) (omega arith) ∙ e)

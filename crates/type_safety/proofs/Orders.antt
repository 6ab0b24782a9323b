-- The type groups of definitions: each definition stands in one; a definition with an annotation stands alone; and what a
-- definition uses has no later group.
use Rattle.std.proofs.Common.{◌≡◌, ℕ, zero, suc, ◌+◌, ◌<◌, List, [], ◌∷◌, map, length, Bool, true, false, cond, Option, Some, None, filter, ◌⊎◌, inl, inr, refl, sym, ap, ◌∙◌, subst, arith}
use Rattle.std.specs.Prelude.{◌||◌, ◌&&◌, is_none, slice_get}
use Rattle.std.specs.List.{Contains, filter_map, cons_option, enumerate_from, list_any}
use Rattle.elm_canon.specs.Names.{same_ref}
use Rattle.elm_canon.specs.declared.reference.Ref.{Ref}
use Rattle.elm_canon.specs.Tree.{Annotation}
use Rattle.elm_canon.specs.Proper.{among}
use Rattle.decl_groups.specs.Groups.{list_at, Uses, Reaches, here, through, position_of, IsGroup, IsOrder, all_placed, next}
use Rattle.decl_groups.proofs.Basics.{no_member, first_member, later_member, member_cases}
use Rattle.decl_groups.specs.InOrder.{ordered_groups, AreWithin}
use Rattle.decl_groups.proofs.Standing.{member_append, append_member, front_member}
use Rattle.decl_groups.proofs.Ordering.{order_is}
use Rattle.type_items.specs.Definitions.{Definition, stands_before, insert_definition, in_written_order, is_inferred_for}
use Rattle.type_items.specs.Definitions.{used_places, all_uses, type_groups}
use Rattle.typed_values.specs.World.{Among}
use Rattle.typed_values.specs.Simple.{defines}
use Rattle.typed_values.proofs.Names.{yes_or_no, not_both, same_refs}
use Rattle.typed_values.proofs.Keeping.{and_left, and_both}
use Rattle.type_safety.proofs.Stagings.{group_at, adds_as, adds, adds_some, adds_after}

-- ---- in written order

among_inserted : (d e : Definition) (es : List Definition) → (d ≡ e) ⊎ Among d es → Among d (insert_definition e es)
among_inserted d e [] m = m
among_inserted d e (f ∷ es) m = go (stands_before f.place e.place) m (λ k. among_inserted d e es k)
  where
    go : (b : Bool) → (d ≡ e) ⊎ ((d ≡ f) ⊎ Among d es) → ((d ≡ e) ⊎ Among d es → Among d (insert_definition e es))
        → Among d (Rattle.std.specs.Prelude.if◌then◌else◌ b (f ∷ insert_definition e es) (e ∷ f ∷ es))
    go true (inl k) again = inr (again (inl k))
    go true (inr (inl k)) again = inl k
    go true (inr (inr k)) again = inr (again (inr k))
    go false k again = k

inserted_among : (d e : Definition) (es : List Definition) → Among d (insert_definition e es) → (d ≡ e) ⊎ Among d es
inserted_among d e [] m = m
inserted_among d e (f ∷ es) m = go (stands_before f.place e.place) m (λ k. inserted_among d e es k)
  where
    go : (b : Bool) → Among d (Rattle.std.specs.Prelude.if◌then◌else◌ b (f ∷ insert_definition e es) (e ∷ f ∷ es))
        → (Among d (insert_definition e es) → (d ≡ e) ⊎ Among d es) → (d ≡ e) ⊎ ((d ≡ f) ⊎ Among d es)
    go true (inl k) again = inr (inl k)
    go true (inr k) again = elim (again k) [ inl l ↦ inl l | inr l ↦ inr (inr l) ]
    go false k again = k

pub written_among : (d : Definition) (ds : List Definition) → Among d ds → Among d (in_written_order ds)
written_among d [] m = absurd m
written_among d (e ∷ es) (inl k) = among_inserted d e (in_written_order es) (inl k)
written_among d (e ∷ es) (inr k) = among_inserted d e (in_written_order es) (inr (written_among d es k))

pub among_written : (d : Definition) (ds : List Definition) → Among d (in_written_order ds) → Among d ds
among_written d [] m = absurd m
among_written d (e ∷ es) m = elim (inserted_among d e (in_written_order es) m) [ inl k ↦ inl k | inr k ↦ inr (among_written d es k) ]

-- ---- numbers of definitions

number_of : (d : Definition) (ds : List Definition) → Among d ds → (i : ℕ) × (slice_get ds i ≡ Some d) × (i < length ds)
number_of d [] m = absurd m
number_of d (e ∷ es) (inl k) = (0, ap (λ z. Some z) (sym k), omega arith)
number_of d (e ∷ es) (inr k) = (let r = number_of d es k in (suc r.0, r.1, omega (arith, r.2)))

numbered_among : (d : Definition) (ds : List Definition) (i : ℕ) → slice_get ds i ≡ Some d → Among d ds
numbered_among d [] i e = absurd cc
numbered_among d (f ∷ fs) zero e = (let z : Some f ≡ Some d = e in let r : f ≡ d = cc in inl (sym r))
numbered_among d (f ∷ fs) (suc i) e = inr (numbered_among d fs i e)

numbered_below : (d : Definition) (ds : List Definition) (i : ℕ) → slice_get ds i ≡ Some d → i < length ds
numbered_below d [] i e = absurd cc
numbered_below d (f ∷ fs) zero e = omega arith
numbered_below d (f ∷ fs) (suc i) e = omega (arith, numbered_below d fs i e)

-- the definitions of those numbers
abbrev members : List Definition → List ℕ → List Definition
members ds g = filter_map (slice_get ds) g

in_members : (ds : List Definition) (g : List ℕ) (i : ℕ) (d : Definition) → Contains g i → slice_get ds i ≡ Some d → Among d (members ds g)
in_members ds [] i d m e = absurd (no_member i m)
in_members ds (j ∷ g) i d m e = go (slice_get ds j) refl (in_members ds g i d) (member_cases j i g m)
  where
    go : (o : Option Definition) → slice_get ds j ≡ o → (Contains g i → slice_get ds i ≡ Some d → Among d (members ds g)) → (j ≡ i) ⊎ Contains g i
        → Among d (cons_option o (members ds g))
    go None is again (inl k) = absurd (let z : None ≡ Some d = sym is ∙ (ap (slice_get ds) k ∙ e) in cc)
    go None is again (inr k) = again k e
    go (Some f) is again (inl k) = (let z : Some f ≡ Some d = sym is ∙ (ap (slice_get ds) k ∙ e) in let r : f ≡ d = cc in inl (sym r))
    go (Some f) is again (inr k) = inr (again k e)

members_in : (ds : List Definition) (g : List ℕ) (d : Definition) → Among d (members ds g) → (i : ℕ) × Contains g i × (slice_get ds i ≡ Some d)
members_in ds [] d m = absurd m
members_in ds (j ∷ g) d m = go (slice_get ds j) refl m (members_in ds g d)
  where
    go : (o : Option Definition) → slice_get ds j ≡ o → Among d (cons_option o (members ds g)) → (Among d (members ds g) → (i : ℕ) × Contains g i × (slice_get ds i ≡ Some d))
        → (i : ℕ) × Contains (j ∷ g) i × (slice_get ds i ≡ Some d)
    go None is k again = (let r = again k in (r.0, later_member j r.0 g r.1, r.2))
    go (Some f) is (inl k) again = (j, first_member j g, is ∙ ap (λ z. Some z) (sym k))
    go (Some f) is (inr k) again = (let r = again k in (r.0, later_member j r.0 g r.1, r.2))

abbrev numbers_at : List (List ℕ) → ℕ → List ℕ
numbers_at [] k = []
numbers_at (g ∷ gs) zero = g
numbers_at (g ∷ gs) (suc k) = numbers_at gs k

group_members : (ds : List Definition) (gs : List (List ℕ)) (k : ℕ) → group_at (map (λ g. filter_map (slice_get ds) g) gs) k ≡ members ds (numbers_at gs k)
group_members ds [] k = refl
group_members ds (g ∷ gs) zero = refl
group_members ds (g ∷ gs) (suc k) = group_members ds gs k

-- ---- orders

module _ {uses : List (List ℕ)} where
  order_apart : {placed : List ℕ} {gs : List (List ℕ)} → IsOrder uses placed gs → (k j : ℕ) → Contains (numbers_at gs k) j → Contains placed j → ⊥
  order_apart (all_placed f) k j m p = no_member j m
  order_apart (next n o) zero j m p = n.ready.not_placed j m p
  order_apart (next {placed = placed} {group = h} n o) (suc k) j m p = order_apart o k j m (front_member placed h j p)

  -- what is used stands in no later group
  order_uses : {placed : List ℕ} {gs : List (List ℕ)} → IsOrder uses placed gs → (k i j m : ℕ) → Contains (numbers_at gs k) i → Uses uses i j → k < m → Contains (numbers_at gs m) j → ⊥
  order_uses (all_placed f) k i j m a u l b = no_member i a
  order_uses (next n o) zero i j zero a u l b = omega (arith, l)
  order_uses (next {placed = placed} {group = h} n o) zero i j (suc m) a u l b =
      order_apart o m j b (elim (n.ready.used i j a u) [ inl p ↦ front_member placed h j p | inr g ↦ append_member placed h j g ])
  order_uses (next n o) (suc k) i j zero a u l b = omega (arith, l)
  order_uses (next n o) (suc k) i j (suc m) a u l b = order_uses o k i j m a u (omega (arith, l)) b

  order_covers : {placed : List ℕ} {gs : List (List ℕ)} → IsOrder uses placed gs → (i : ℕ) → i < length uses → Contains placed i ⊎ ((k : ℕ) × Contains (numbers_at gs k) i)
  order_covers (all_placed f) i l = inl (f i l)
  order_covers (next {placed = placed} {group = h} n o) i l = elim (order_covers o i l) [
    | inl p ↦ elim (member_append placed h i p) [ inl q ↦ inl q | inr q ↦ inr (0, q) ]
    | inr r ↦ inr (suc r.0, r.1)
  ]

  order_group : {placed : List ℕ} {gs : List (List ℕ)} → IsOrder uses placed gs → (k i : ℕ) → Contains (numbers_at gs k) i → IsGroup uses (numbers_at gs k)
  order_group (all_placed f) k i m = absurd (no_member i m)
  order_group (next n o) zero i m = n.ready.is_group
  order_group (next n o) (suc k) i m = order_group o k i m

  -- what is reached is used, or is where it began
  last_use : {j i : ℕ} → Reaches uses j i → (j ≡ i) ⊎ ((x : ℕ) × Uses uses x i)
  last_use here = inl refl
  last_use {j} {i} (through {j = k} u r) = elim (last_use r) [ inl e ↦ inr (j, subst (Uses uses j) e u) | inr z ↦ inr z ]

-- ---- uses

listed_at : (f : Definition → List ℕ) (ds : List Definition) (i : ℕ) (d : Definition) → slice_get ds i ≡ Some d → list_at (map f ds) i ≡ f d
listed_at f [] i d e = absurd cc
listed_at f (g ∷ gs) zero d e = (let z : Some g ≡ Some d = e in let r : g ≡ d = cc in ap f r)
listed_at f (g ∷ gs) (suc i) d e = listed_at f gs i d e

listed_none : (f : Definition → List ℕ) (ds : List Definition) (i : ℕ) → slice_get ds i ≡ None → list_at (map f ds) i ≡ []
listed_none f [] i e = refl
listed_none f (g ∷ gs) zero e = absurd (let z : Some g ≡ None = e in cc)
listed_none f (g ∷ gs) (suc i) e = listed_none f gs i e

passing : (t : Definition → Bool) (ds : List Definition) (n i : ℕ) (d : Definition) → slice_get ds i ≡ Some d → t d ≡ true
    → Contains (map (λ e. e.0) (filter (λ e. t e.1) (enumerate_from n ds))) (n + i)
passing t [] n i d e holds = absurd cc
passing t (f ∷ fs) n zero d e holds =
    let z : Some f ≡ Some d = e in
    let r : f ≡ d = cc in
    let own : t f ≡ true = ap t r ∙ holds in
    let same : n + 0 ≡ n = omega arith in
    subst (λ b. Contains (map (λ e. e.0) (cond b ((n, f) ∷ filter (λ e. t e.1) (enumerate_from (n + 1) fs)) (filter (λ e. t e.1) (enumerate_from (n + 1) fs)))) (n + 0)) (sym own)
    (subst (Contains (n ∷ map (λ e. e.0) (filter (λ e. t e.1) (enumerate_from (n + 1) fs)))) (sym same) (first_member n (map (λ e. e.0) (filter (λ e. t e.1) (enumerate_from (n + 1) fs)))))
passing t (f ∷ fs) n (suc i) d e holds =
    let same : (n + 1) + i ≡ n + suc i = omega arith in
    go (t f) (subst (Contains (map (λ e. e.0) (filter (λ e. t e.1) (enumerate_from (n + 1) fs)))) same (passing t fs (n + 1) i d e holds))
  where
    go : (b : Bool) → Contains (map (λ e. e.0) (filter (λ e. t e.1) (enumerate_from (n + 1) fs))) (n + suc i)
        → Contains (map (λ e. e.0) (cond b ((n, f) ∷ filter (λ e. t e.1) (enumerate_from (n + 1) fs)) (filter (λ e. t e.1) (enumerate_from (n + 1) fs)))) (n + suc i)
    go true k = later_member n (n + suc i) (map (λ e. e.0) (filter (λ e. t e.1) (enumerate_from (n + 1) fs))) k
    go false k = k

passed : (t : Definition → Bool) (ds : List Definition) (n m : ℕ) → Contains (map (λ e. e.0) (filter (λ e. t e.1) (enumerate_from n ds))) m
    → (i : ℕ) × (m ≡ n + i) × (d : Definition) × (slice_get ds i ≡ Some d) × (t d ≡ true)
passed t [] n m c = absurd (no_member m c)
passed t (f ∷ fs) n m c = go (t f) refl c (passed t fs (n + 1) m)
  where
    rest : List ℕ
    rest = map (λ e. e.0) (filter (λ e. t e.1) (enumerate_from (n + 1) fs))

    later : (i : ℕ) × (m ≡ (n + 1) + i) × (d : Definition) × (slice_get fs i ≡ Some d) × (t d ≡ true)
        → (i : ℕ) × (m ≡ n + i) × (d : Definition) × (slice_get (f ∷ fs) i ≡ Some d) × (t d ≡ true)
    later r = (suc r.0, omega (arith, r.1), r.2, r.3, r.4)

    go : (b : Bool) → t f ≡ b → Contains (map (λ e. e.0) (cond b ((n, f) ∷ filter (λ e. t e.1) (enumerate_from (n + 1) fs)) (filter (λ e. t e.1) (enumerate_from (n + 1) fs)))) m
        → (Contains rest m → (i : ℕ) × (m ≡ (n + 1) + i) × (d : Definition) × (slice_get fs i ≡ Some d) × (t d ≡ true))
        → (i : ℕ) × (m ≡ n + i) × (d : Definition) × (slice_get (f ∷ fs) i ≡ Some d) × (t d ≡ true)
    go true is k again = elim (member_cases n m rest k) [
      | inl e ↦ (0, omega (arith, e), f, refl, is)
      | inr l ↦ later (again l)
    ]
    go false is k again = later (again k)

any_used : (us : List Ref) (y : Ref) (xs : List Ref) → among y xs ≡ true → among y us ≡ true → list_any (λ x. among x us) xs ≡ true
any_used us y [] e f = not_both false e refl
any_used us y (x ∷ xs) e f = go (same_ref y x) refl e (any_used us y xs)
  where
    go : (b : Bool) → same_ref y x ≡ b → Rattle.std.specs.Prelude.if◌then◌else◌ b true (among y xs) ≡ true → (among y xs ≡ true → among y us ≡ true → list_any (λ x. among x us) xs ≡ true)
        → (among x us || list_any (λ x. among x us) xs) ≡ true
    go true is k again = ap (λ b. b || list_any (λ x. among x us) xs) (ap (λ z. among z us) (sym (same_refs y x is)) ∙ f)
    go false is k again = second (among x us) (again k f)
      where
        second : (a : Bool) → list_any (λ x. among x us) xs ≡ true → (a || list_any (λ x. among x us) xs) ≡ true
        second true h = refl
        second false h = h

-- ---- the type groups

module _ (ds : List Definition) where
  abbrev uses_of : List (List ℕ)
  uses_of = all_uses ds

  use_is : (i j : ℕ) (d e : Definition) (y : Ref) → slice_get ds i ≡ Some d → slice_get ds j ≡ Some e → e.annotation ≡ None → among y e.names ≡ true → among y d.uses ≡ true
      → Uses uses_of i j
  use_is i j d e y at_d at_e plain own used =
      let zero_first : 0 + j ≡ j = omega arith in
      subst (λ us. Contains us j) (sym (listed_at (λ z. used_places ds z.uses) ds i d at_d))
      (subst (Contains (used_places ds d.uses)) zero_first (passing (is_inferred_for d.uses) ds 0 j e at_e
      (and_both (is_none e.annotation) (list_any (λ x. among x d.uses) e.names) (ap (λ o. is_none o) plain) (any_used d.uses y e.names own used))))

  is_use : (i j : ℕ) → Uses uses_of i j → (e : Definition) × (slice_get ds j ≡ Some e) × (is_none e.annotation ≡ true)
  is_use i j u = go (slice_get ds i) refl
    where
      go : (o : Option Definition) → slice_get ds i ≡ o → (e : Definition) × (slice_get ds j ≡ Some e) × (is_none e.annotation ≡ true)
      go None is = absurd (no_member j (subst (λ us. Contains us j) (listed_none (λ z. used_places ds z.uses) ds i is) u))
      go (Some d) is =
          let r = passed (is_inferred_for d.uses) ds 0 j (subst (λ us. Contains us j) (listed_at (λ z. used_places ds z.uses) ds i d is) u) in
          let same : r.0 ≡ j = omega (arith, r.1) in
          (r.2, ap (slice_get ds) (sym same) ∙ r.3, and_left (is_none r.2.annotation) (list_any (λ x. among x d.uses) r.2.names) r.4)

  map_long : (f : Definition → List ℕ) (es : List Definition) → length (map f es) ≡ length es
  map_long f [] = refl
  map_long f (e ∷ es) = ap (λ n. suc n) (map_long f es)

  within : AreWithin uses_of
  within i j u =
      let r = is_use i j u in
      subst (λ n. j < n) (sym (map_long (λ z. used_places ds z.uses) ds)) (numbered_below r.0 ds j r.1)

  ordered : IsOrder uses_of [] (ordered_groups uses_of)
  ordered = order_is uses_of within

  abbrev pub Gs : List (List Definition)
  Gs = type_groups ds

  -- the number of a definition in its group
  in_group : (k : ℕ) (d : Definition) → Among d (group_at Gs k) → (i : ℕ) × Contains (numbers_at (ordered_groups uses_of) k) i × (slice_get ds i ≡ Some d)
  in_group k d m = members_in ds (numbers_at (ordered_groups uses_of) k) d (subst (Among d) (group_members ds (ordered_groups uses_of) k) m)

  pub group_among : (k : ℕ) (d : Definition) → Among d (group_at Gs k) → Among d ds
  group_among k d m = (let r = in_group k d m in numbered_among d ds r.0 r.2)

  pub group_covers : (d : Definition) → Among d ds → (k : ℕ) × Among d (group_at Gs k)
  group_covers d m =
      let n = number_of d ds m in
      elim (order_covers ordered n.0 (subst (λ l. n.0 < l) (sym (map_long (λ z. used_places ds z.uses) ds)) n.2)) [
        | inl p ↦ absurd (no_member n.0 p)
        | inr r ↦ (r.0, subst (Among d) (sym (group_members ds (ordered_groups uses_of) r.0)) (in_members ds (numbers_at (ordered_groups uses_of) r.0) n.0 d r.1 n.1))
      ]

  not_used : {X : Type 0} (x i : ℕ) (d : Definition) (note : Annotation) → slice_get ds i ≡ Some d → d.annotation ≡ Some note → Uses uses_of x i → X
  not_used x i d note at_d is u =
      let r = is_use x i u in
      let z : Some r.0 ≡ Some d = sym r.1 ∙ at_d in
      let same : r.0 ≡ d = cc in
      not_both false (sym (ap (λ o. is_none o) (ap (λ e. e.annotation) same ∙ is)) ∙ r.2) refl

  -- a definition with an annotation stands alone
  pub group_alone : (k : ℕ) (d : Definition) (note : Annotation) → Among d (group_at Gs k) → d.annotation ≡ Some note → (e : Definition) → Among e (group_at Gs k) → e ≡ d
  group_alone k d note m is e n =
      let a = in_group k d m in
      let b = in_group k e n in
      let g = order_group ordered k a.0 a.1 in
      let pos = position_of (numbers_at (ordered_groups uses_of) k) in
      let first : pos ≡ a.0 = elim (last_use ((g.members a.0).0 a.1).1.0) [ inl s ↦ s | inr u ↦ not_used u.0 a.0 d note a.2 is u.1 ] in
      let second : b.0 ≡ a.0 = elim (last_use (subst (Reaches uses_of b.0) first ((g.members b.0).0 b.1).1.1)) [ inl s ↦ s | inr u ↦ not_used u.0 a.0 d note a.2 is u.1 ] in
      let z : Some e ≡ Some d = sym b.2 ∙ (ap (slice_get ds) second ∙ a.2) in
      cc

  defined_by : (es : List Definition) (y : Ref) → defines es y ≡ true → (e : Definition) × Among e es × (among y e.names ≡ true)
  defined_by [] y t = not_both false t refl
  defined_by (e ∷ es) y t = elim (yes_or_no (among y e.names)) [
    | inl own ↦ (e, inl refl, own)
    | inr other ↦ (let r = defined_by es y (sym (ap (λ b. b || defines es y) other) ∙ t) in (r.0, inr r.1, r.2))
  ]

  -- who gives a name its entry is a definition without an annotation
  adder_in : (G : List Definition) (y : Ref) → ((d : Definition) (note : Annotation) → Among d G → d.annotation ≡ Some note → (e : Definition) → Among e G → e ≡ d) → adds G y ≡ true
      → (e : Definition) × Among e G × (among y e.names ≡ true) × (e.annotation ≡ None)
  adder_in [] y alone t = not_both false t refl
  adder_in (d ∷ rest) y alone t = go d.annotation refl t
    where
      plain : (e : Definition) → Among e (d ∷ rest) → d.annotation ≡ None → (o : Option Annotation) → e.annotation ≡ o → e.annotation ≡ None
      plain e m none None is = is
      plain e m none (Some note) is = absurd (let s : d ≡ e = alone e note m is d (inl refl) in let z : None ≡ Some note = sym none ∙ (ap (λ x. x.annotation) s ∙ is) in cc)

      go : (o : Option Annotation) → d.annotation ≡ o → adds_as o (d ∷ rest) y ≡ true → (e : Definition) × Among e (d ∷ rest) × (among y e.names ≡ true) × (e.annotation ≡ None)
      go None is u = (let r = defined_by (d ∷ rest) y u in (r.0, r.1, r.2, plain r.0 r.1 is r.0.annotation refl))
      go (Some note) is u = not_both false u refl

  pub group_adder : (k : ℕ) (y : Ref) → adds (group_at Gs k) y ≡ true → (e : Definition) × Among e (group_at Gs k) × (among y e.names ≡ true) × (e.annotation ≡ None)
  group_adder k y t = adder_in (group_at Gs k) y (λ d note m is e n. group_alone k d note m is e n) t

  some_at : (Hs : List (List Definition)) (y : Ref) → adds_some Hs y ≡ true → (m : ℕ) × (adds (group_at Hs m) y ≡ true)
  some_at [] y t = not_both false t refl
  some_at (H ∷ Hs) y t = elim (yes_or_no (adds H y)) [
    | inl own ↦ (0, own)
    | inr other ↦ (let r = some_at Hs y (sym (ap (λ b. b || adds_some Hs y) other) ∙ t) in (suc r.0, r.1))
  ]

  after_at : (Hs : List (List Definition)) (k : ℕ) (y : Ref) → adds_after Hs k y ≡ true → (m : ℕ) × (k < m) × (adds (group_at Hs m) y ≡ true)
  after_at [] k y t = not_both false t refl
  after_at (H ∷ Hs) zero y t = (let r = some_at Hs y t in (suc r.0, omega arith, r.1))
  after_at (H ∷ Hs) (suc k) y t = (let r = after_at Hs k y t in (suc r.0, omega (arith, r.1), r.2))

  -- what a definition uses gets its entry by its group or before
  pub group_uses : (k : ℕ) (d : Definition) (y : Ref) → Among d (group_at Gs k) → among y d.uses ≡ true → adds_after Gs k y ≡ false
  group_uses k d y m used = elim (yes_or_no (adds_after Gs k y)) [
    | inl t ↦ (let r = after_at Gs k y t in
        let e = group_adder r.0 y r.2 in
        let a = in_group k d m in
        let b = in_group r.0 e.0 e.1 in
        absurd (order_uses ordered k a.0 b.0 r.0 a.1 (use_is a.0 b.0 d e.0 y a.2 b.2 e.3 e.2 used) r.1 b.1))
    | inr f ↦ f
  ]

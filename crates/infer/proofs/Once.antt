-- Names that stand once, however the definitions stand.
use Rattle.std.proofs.Common.{◌≡◌, ℕ, zero, suc, List, [], ◌∷◌, ◌++◌, ◌⊎◌, inl, inr, ⊎_elim, Bool, true, false, cond}
use Rattle.std.proofs.Common.{Option, Some, None, refl, sym, ap, ◌∙◌, subst, map, length, arith, rules}
use Rattle.std.specs.Prelude.{flat_map, slice_get}
use Rattle.std.specs.List.{Contains, filter_map}
use Rattle.std.proofs.lemmas.List.Elements.{Contains-append_left, Contains-append_right, Contains-append_cases}
use Rattle.std.proofs.lemmas.List.Elements.{filter_map-append}
use Rattle.std.proofs.lemmas.Grind.{flat_map-append}
use Rattle.std.proofs.lemmas.List.{length-map}
use Rattle.elm_canon.specs.declared.reference.Ref.{Ref}
use Rattle.decl_groups.specs.Groups.{list_at}
use Rattle.decl_groups.proofs.Basics.{no_member, first_member, later_member, member_cases}
use Rattle.decl_groups.specs.InOrder.{ordered_groups, AreWithin}
use Rattle.decl_groups.specs.View.{StandOnce, joined}
use Rattle.decl_groups.proofs.Reaching.{use_is}
use Rattle.decl_groups.proofs.Standing.{once_told}
use Rattle.decl_groups.proofs.Ordering.{order_is}
use Rattle.type_items.specs.Definitions.{Definition, stands_before, insert_definition, in_written_order, used_places}
use Rattle.type_items.specs.Definitions.{all_uses, type_groups}
use Rattle.infer_order.proofs.Rows.{places_below, rows_below}
use Rattle.infer.specs.Names.{EachOnce, names_of}

-- ---- two lists

module _ {X : Type 0} where
  pub once_both : (xs ys : List X) → EachOnce xs → EachOnce ys → ((x : X) → Contains xs x → Contains ys x → ⊥)
      → EachOnce (xs ++ ys)
  once_both [] ys a b h = b
  once_both (x ∷ xs) ys a b h = (
    λ c. ⊎_elim a.0 (h x (first_member x xs)) (Contains-append_cases xs ys x c),
    once_both xs ys a.1 b (λ y m n. h y (later_member x y xs m) n),
  )

  pub once_first : (xs ys : List X) → EachOnce (xs ++ ys) → EachOnce xs
  once_first [] ys h = tt
  once_first (x ∷ xs) ys h = (λ c. h.0 (Contains-append_left xs ys x c), once_first xs ys h.1)

  pub once_second : (xs ys : List X) → EachOnce (xs ++ ys) → EachOnce ys
  once_second [] ys h = h
  once_second (x ∷ xs) ys h = once_second xs ys h.1

  pub once_apart : (xs ys : List X) → EachOnce (xs ++ ys) → (x : X) → Contains xs x → Contains ys x → ⊥
  once_apart [] ys h x m n = no_member x m
  once_apart (y ∷ xs) ys h x m n =
      ⊎_elim (λ e. h.0 (subst (Contains (xs ++ ys)) (sym e) (Contains-append_right xs ys x n)))
      (λ k. once_apart xs ys h.1 x k n) (member_cases y x xs m)

-- ---- definitions in written order

inserted_name : (d : Definition) (es : List Definition) (x : Ref) → Contains (names_of (insert_definition d es)) x
    → Contains d.names x ⊎ Contains (names_of es) x
inserted_name d [] x c = Contains-append_cases d.names [] x c
inserted_name d (e ∷ es) x c = by (stands_before e.place d.place) c (λ k. inserted_name d es x k)
  where
    by : (b : Bool) → Contains (names_of (cond b (e ∷ insert_definition d es) (d ∷ e ∷ es))) x
        → (Contains (names_of (insert_definition d es)) x → Contains d.names x ⊎ Contains (names_of es) x)
        → Contains d.names x ⊎ Contains (names_of (e ∷ es)) x
    by true c again =
        ⊎_elim (λ m. inr (Contains-append_left e.names (names_of es) x m))
        (λ m. ⊎_elim inl (λ n. inr (Contains-append_right e.names (names_of es) x n)) (again m))
        (Contains-append_cases e.names (names_of (insert_definition d es)) x c)
    by false c again = Contains-append_cases d.names (names_of (e ∷ es)) x c

inserted_once : (d : Definition) (es : List Definition) → EachOnce (d.names ++ names_of es)
    → EachOnce (names_of (insert_definition d es))
inserted_once d [] h = h
inserted_once d (e ∷ es) h = by (stands_before e.place d.place) (λ k. inserted_once d es k)
  where
    rest : EachOnce (names_of (e ∷ es))
    rest = once_second d.names (names_of (e ∷ es)) h

    without : EachOnce (d.names ++ names_of es)
    without =
        once_both d.names (names_of es) (once_first d.names (names_of (e ∷ es)) h)
        (once_second e.names (names_of es) rest)
        (λ x m n. once_apart d.names (names_of (e ∷ es)) h x m (Contains-append_right e.names (names_of es) x n))

    by : (b : Bool) → (EachOnce (d.names ++ names_of es) → EachOnce (names_of (insert_definition d es)))
        → EachOnce (names_of (cond b (e ∷ insert_definition d es) (d ∷ e ∷ es)))
    by true again =
        once_both e.names (names_of (insert_definition d es)) (once_first e.names (names_of es) rest) (again without)
        (λ x m n. ⊎_elim
        (λ k. once_apart d.names (names_of (e ∷ es)) h x k (Contains-append_left e.names (names_of es) x m))
        (λ k. once_apart e.names (names_of es) rest x m k) (inserted_name d es x n))
    by false again = h

sorted_name : (ds : List Definition) (x : Ref) → Contains (names_of (in_written_order ds)) x → Contains (names_of ds) x
sorted_name [] x c = c
sorted_name (d ∷ ds) x c =
    ⊎_elim (λ m. Contains-append_left d.names (names_of ds) x m)
    (λ m. Contains-append_right d.names (names_of ds) x (sorted_name ds x m))
    (inserted_name d (in_written_order ds) x c)

pub sorted_once : (ds : List Definition) → EachOnce (names_of ds) → EachOnce (names_of (in_written_order ds))
sorted_once [] h = tt
sorted_once (d ∷ ds) h =
    inserted_once d (in_written_order ds)
    (once_both d.names (names_of (in_written_order ds)) (once_first d.names (names_of ds) h)
    (sorted_once ds (once_second d.names (names_of ds) h))
    (λ x m n. once_apart d.names (names_of ds) h x m (sorted_name ds x n)))

-- ---- by their places

at_name : (ds : List Definition) (i : ℕ) (d : Definition) (x : Ref) → slice_get ds i ≡ Some d → Contains d.names x
    → Contains (names_of ds) x
at_name [] i d x e m = absurd cc
at_name (c ∷ ds) zero d x e m =
    let same : c ≡ d = cc in
    Contains-append_left c.names (names_of ds) x (subst (λ (y : Definition). Contains y.names x) (sym same) m)
at_name (c ∷ ds) (suc i) d x e m = Contains-append_right c.names (names_of ds) x (at_name ds i d x e m)

one_place : (ds : List Definition) → EachOnce (names_of ds) → (i j : ℕ) (d e : Definition) (x : Ref)
    → slice_get ds i ≡ Some d → slice_get ds j ≡ Some e → Contains d.names x → Contains e.names x → i ≡ j
one_place [] h i j d e x p q m n = absurd cc
one_place (c ∷ ds) h zero zero d e x p q m n = refl
one_place (c ∷ ds) h zero (suc j) d e x p q m n =
    let same : c ≡ d = cc in
    absurd (once_apart c.names (names_of ds) h x (subst (λ (y : Definition). Contains y.names x) (sym same) m)
    (at_name ds j e x q n))
one_place (c ∷ ds) h (suc i) zero d e x p q m n =
    let same : c ≡ e = cc in
    absurd (once_apart c.names (names_of ds) h x (subst (λ (y : Definition). Contains y.names x) (sym same) n)
    (at_name ds i d x p m))
one_place (c ∷ ds) h (suc i) (suc j) d e x p q m n =
    ap suc (one_place ds (once_second c.names (names_of ds) h) i j d e x p q m n)

place_once : (ds : List Definition) → EachOnce (names_of ds) → (i : ℕ) (d : Definition) → slice_get ds i ≡ Some d
    → EachOnce d.names
place_once [] h i d e = absurd cc
place_once (c ∷ ds) h zero d e =
    let same : c ≡ d = cc in
    subst (λ (y : Definition). EachOnce y.names) same (once_first c.names (names_of ds) h)
place_once (c ∷ ds) h (suc i) d e = place_once ds (once_second c.names (names_of ds) h) i d e

-- ---- some of them, each at most once

-- a name of one of these definitions
record IsOf (ds : List Definition) (places : List ℕ) (x : Ref) : Type 0 where
  pub place : ℕ
  pub definition : Definition
  pub there : Contains places place
  pub at : slice_get ds place ≡ Some definition
  pub name : Contains definition.names x

module _ (ds : List Definition) where
  abbrev picked : List ℕ → List Definition
  picked places = filter_map (slice_get ds) places

  -- the first of them, and the others
  abbrev before : Option Definition → List Definition → List Definition
  before None rest = rest
  before (Some d) rest = d ∷ rest

  picked_more : (i : ℕ) (places : List ℕ) → picked (i ∷ places) ≡ before (slice_get ds i) (picked places)
  picked_more i places = by (slice_get ds i) refl
    where
      by : (o : Option Definition) → slice_get ds i ≡ o → picked (i ∷ places) ≡ before o (picked places)
      by None e = search (rules, e)
      by (Some d) e = search (rules, e)

  picked_name : (places : List ℕ) (x : Ref) → Contains (names_of (picked places)) x → IsOf ds places x
  picked_name [] x c = absurd (no_member x c)
  picked_name (i ∷ places) x c =
      by (slice_get ds i) refl (subst (λ l. Contains (names_of l) x) (picked_more i places) c)
      (λ k. picked_name places x k)
    where
      later : IsOf ds places x → IsOf ds (i ∷ places) x
      later h = record {
        place = h.place;
        definition = h.definition;
        there = later_member i h.place places h.there;
        at = h.at;
        name = h.name;
      }

      by : (o : Option Definition) → slice_get ds i ≡ o → Contains (names_of (before o (picked places))) x
          → (Contains (names_of (picked places)) x → IsOf ds places x) → IsOf ds (i ∷ places) x
      by None e c again = later (again c)
      by (Some d) e c again =
          ⊎_elim
          (λ m. record { place = i; definition = d; there = first_member i places; at = e; name = m })
          (λ m. later (again m)) (Contains-append_cases d.names (names_of (picked places)) x c)

  pub picked_once : EachOnce (names_of ds) → (places : List ℕ) → StandOnce places
      → EachOnce (names_of (picked places))
  picked_once h [] s = tt
  picked_once h (i ∷ places) s =
      subst (λ l. EachOnce (names_of l)) (sym (picked_more i places))
      (by (slice_get ds i) refl (picked_once h places s.1))
    where
      by : (o : Option Definition) → slice_get ds i ≡ o → EachOnce (names_of (picked places))
          → EachOnce (names_of (before o (picked places)))
      by None e rest = rest
      by (Some d) e rest =
          once_both d.names (names_of (picked places)) (place_once ds h i d e) rest
          (λ x m n. (
          let f = picked_name places x n in
          s.0 (subst (Contains places) (sym (one_place ds h i f.place d f.definition x e f.at m f.name)) f.there)))

  grouped : (groups : List (List ℕ)) → flat_map names_of (map picked groups) ≡ names_of (picked (joined groups))
  grouped [] = refl
  grouped (g ∷ groups) =
      ap (λ l. names_of (picked g) ++ l) (grouped groups)
      ∙ (sym (flat_map-append (λ (d : Definition). d.names) (picked g) (picked (joined groups)))
      ∙ ap names_of (sym (filter_map-append (slice_get ds) g (joined groups))))

  -- in groups in which each stands once
  pub grouped_once : EachOnce (names_of ds) → (groups : List (List ℕ)) → StandOnce (joined groups)
      → EachOnce (flat_map names_of (map picked groups))
  grouped_once h groups s = subst EachOnce (sym (grouped groups)) (picked_once h (joined groups) s)

-- ---- type groups have each definition once

uses_within : (ds : List Definition) → AreWithin (all_uses ds)
uses_within ds i j u =
    let l = rows_below (λ (d : Definition). used_places ds d.uses) (length ds) (λ d k e. places_below ds d.uses k e)
    ds i j (use_is [] j (list_at (all_uses ds) i) u) in
    omega (arith, l, length-map ds (λ (d : Definition). used_places ds d.uses))

-- so the names of all type groups stand once
pub groups_once : (ds : List Definition) → EachOnce (names_of ds)
    → EachOnce (flat_map names_of (type_groups (in_written_order ds)))
groups_once ds h =
    let sorted = in_written_order ds in
    grouped_once sorted (sorted_once ds h) (ordered_groups (all_uses sorted))
    (once_told (all_uses sorted) (ordered_groups (all_uses sorted)) (order_is (all_uses sorted) (uses_within sorted)))

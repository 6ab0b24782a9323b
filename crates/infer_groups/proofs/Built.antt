-- The constants of a definition as they are made.
use Rattle.std.proofs.Common.{◌≡◌, ℕ, zero, suc, ◌+◌, List, [], ◌∷◌, ◌++◌, length, map, take, true, false}
use Rattle.std.proofs.Common.{refl, sym, ap, ◌∙◌, subst, arith}
use Rattle.std.specs.List.{AllByRecursion, Contains}
use Rattle.elm_canon.specs.Tree.{Annotation}
use Rattle.elm_type.specs.Types.{Name, Rigid, Kind}
use Rattle.type_items.specs.Items.{Place, child}
use Rattle.type_items.specs.Annotations.{kind_of, constant}
use Rattle.type_store.specs.Store.{Store}
use Rattle.type_store.specs.Solutions.{constants_of}
use Rattle.type_walks.specs.Regions.{only}
use Rattle.type_walks.proofs.Regions.{only_itself}
use Rattle.type_schemes.specs.Constants.{rigids, Opened, Distinct}
use Rattle.type_schemes.specs.Calls.{owns, AreNew, Opens}
use Rattle.type_constructs.specs.TypeDefinitionsAnnotated.{owned}
use Rattle.infer_steps.specs.Codes.{Code, State, with_constant}
use Rattle.infer_steps.specs.Ready.{IsReady}
use Rattle.infer_groups.specs.Defined.{IsClear}
use Rattle.infer_groups.specs.Annotated.{with_owned, inside_of, ConstantsOpen}
use Rattle.infer_groups.specs.Given.{constants_at, AreApart, AreOwnOf, with_slots}

-- ---- one more

pub constants_more : (p : Place) (xs : List Name) (ks : List Kind) (x : Name) (k : Kind) → length ks ≡ length xs
    → constants_at p (xs ++ x ∷ []) (ks ++ k ∷ []) ≡ constants_at p xs ks ++ record
    { place = p; name = x; class = k.class; lacks = k.lacks } ∷ []
constants_more p [] [] x k h = refl
constants_more p [] (l ∷ ls) x k h = absurd (omega arith)
constants_more p (y ∷ ys) [] x k h = absurd (omega arith)
constants_more p (y ∷ ys) (l ∷ ls) x k h =
    ap (λ r. record { place = p; name = y; class = l.class; lacks = l.lacks } ∷ r)
    (constants_more p ys ls x k (omega arith))

pub slots_more : (xs : List Name) (vs : List ℕ) (x : Name) (v : ℕ) (code : Code) → length vs ≡ length xs
    → with_slots (xs ++ x ∷ []) (vs ++ v ∷ []) code ≡ with_slots xs vs (with_constant x v code)
slots_more [] [] x v code h = refl
slots_more [] (w ∷ ws) x v code h = absurd (omega arith)
slots_more (y ∷ ys) [] x v code h = absurd (omega arith)
slots_more (y ∷ ys) (w ∷ ws) x v code h = ap (with_constant y w) (slots_more ys ws x v code (omega arith))

pub slots_none : (xs : List Name) (vs : List ℕ) (code : Code) → with_slots (take 0 xs) (take 0 vs) code ≡ code
slots_none [] vs code = refl
slots_none (x ∷ xs) vs code = refl

-- ---- they are new, and different ones

pub constants_here : (p : Place) (xs : List Name) (ks : List Kind)
    → AllByRecursion (λ (r : Rigid). only p r.place ≡ true) (constants_at p xs ks)
constants_here p [] ks = tt
constants_here p (x ∷ xs) [] = tt
constants_here p (x ∷ xs) (k ∷ ks) = (only_itself p, constants_here p xs ks)

pub constants_new : (p : Place) (s : Store) → ((r : Rigid) → Contains (constants_of s) r → only p r.place ≡ false)
    → (xs : List Name) (ks : List Kind)
    → AreNew s (constants_at p xs ks)
constants_new p s clear [] ks = tt
constants_new p s clear (x ∷ xs) [] = tt
constants_new p s clear (x ∷ xs) (k ∷ ks) = (
  λ h. (
      let off = clear (record { place = p; name = x; class = k.class; lacks = k.lacks }) h in
      let on = only_itself p in
      cc),
  constants_new p s clear xs ks,
)

named_in : (p : Place) (xs : List Name) (ks : List Kind) (r : Rigid) → Contains (constants_at p xs ks) r
    → Contains xs r.name
named_in p [] ks r (n, l, e) = absurd (omega arith)
named_in p (x ∷ xs) [] r (n, l, e) = absurd (omega arith)
named_in p (x ∷ xs) (k ∷ ks) r (zero, l, e) =
    let same : record { place = p; name = x; class = k.class; lacks = k.lacks } ≡ r = e in
    (zero, omega arith, ap (λ (t : Rigid). t.name) same)
named_in p (x ∷ xs) (k ∷ ks) r (suc n, l, e) =
    let h = named_in p xs ks r (n, omega arith, e) in
    (suc h.0, omega (arith, h.1), h.2)

pub constants_distinct : (p : Place) (xs : List Name) (ks : List Kind) → AreApart xs → Distinct (constants_at p xs ks)
constants_distinct p [] ks h = tt
constants_distinct p (x ∷ xs) [] h = tt
constants_distinct p (x ∷ xs) (k ∷ ks) h = (
  λ c. h.0 (named_in p xs ks (record { place = p; name = x; class = k.class; lacks = k.lacks }) c),
  constants_distinct p xs ks h.1,
)

-- ---- those of an annotation

owns_owned : (p : Place) (t : Annotation) (xs : List Name) (vs : List ℕ)
    → owns (constants_at p xs (map (kind_of t) xs)) vs ≡ owned p t xs vs
owns_owned p t [] vs = refl
owns_owned p t (x ∷ xs) [] = refl
owns_owned p t (x ∷ xs) (v ∷ vs) = ap (λ l. record { rigid = constant p t x; slot = v } ∷ l) (owns_owned p t xs vs)

rigids_owned : (p : Place) (t : Annotation) (xs : List Name) (vs : List ℕ) → length vs ≡ length xs
    → rigids (owned p t xs vs) ≡ constants_at p xs (map (kind_of t) xs)
rigids_owned p t [] vs h = refl
rigids_owned p t (x ∷ xs) [] h = absurd (omega arith)
rigids_owned p t (x ∷ xs) (v ∷ vs) h = ap (λ l. constant p t x ∷ l) (rigids_owned p t xs vs (omega arith))

owned_slots : (p : Place) (t : Annotation) (xs : List Name) (vs : List ℕ) (code : Code)
    → with_slots xs vs code ≡ with_owned (owned p t xs vs) code
owned_slots p t [] vs code = refl
owned_slots p t (x ∷ xs) [] code = refl
owned_slots p t (x ∷ xs) (v ∷ vs) code = ap (with_constant x v) (owned_slots p t xs vs code)

pub constants_length : (p : Place) (xs : List Name) (ks : List Kind) → length ks ≡ length xs
    → length (constants_at p xs ks) ≡ length xs
constants_length p [] ks h = refl
constants_length p (x ∷ xs) [] h = absurd (omega arith)
constants_length p (x ∷ xs) (k ∷ ks) h = ap suc (constants_length p xs ks (omega arith))

constants_count : (p : Place) (t : Annotation) (xs : List Name)
    → length (constants_at p xs (map (kind_of t) xs)) ≡ length xs
constants_count p t [] = refl
constants_count p t (x ∷ xs) = ap suc (constants_count p t xs)

module _ (code : Code) (annotation : Annotation) (i : ℕ) (xs : List Name) (ks : List Kind)
    (own : AreOwnOf code annotation xs ks) (old : State)
    (vs : List ℕ) where
  abbrev p : Place
  p = child old.place i

  pub in_scope : with_slots xs vs code ≡ inside_of code annotation p vs
  in_scope = owned_slots p annotation xs vs code ∙ ap (λ l. with_owned (owned p annotation l vs) code) own.names

  pub constants_open : (mid : State) → IsReady code old.depth old.store → IsClear old → AreApart xs
      → (depth : ℕ) → depth ≡ old.depth + 1 → Opens depth (constants_at p xs ks) old.store vs mid.store
      → mid.depth ≡ old.depth + 1 → mid.place ≡ p → ConstantsOpen code annotation i vs old mid
  constants_open mid ready clear apart depth deeper opens is_depth is_place = record {
    before = ready;
    clear = clear;
    count = count ∙ ap length own.names;
    depth = is_depth;
    place = is_place;
    whole = opens.whole;
    distinct =
        subst (λ l. Distinct (rigids (owned p annotation l vs))) own.names
        (subst Distinct (sym (rigids_owned p annotation xs vs count))
        (constants_distinct p xs (map (kind_of annotation) xs) apart));
    opens =
        subst (λ l. Opened old.depth p old.store (owned p annotation l vs) mid.store) own.names
        (subst (λ l. Opened old.depth p old.store l mid.store) (owns_owned p annotation xs vs)
        (subst (λ l. Opened old.depth p old.store (owns (constants_at p xs l) vs) mid.store) own.kinds
        (opens.opened old.depth p deeper (constants_here p xs ks))));
  }
    where
      count : length vs ≡ length xs
      count = opens.count ∙ ap (λ l. length (constants_at p xs l)) own.kinds ∙ constants_count p annotation xs

-- How often a name stands in a list; what stands in it once is found.
use Rattle.std.proofs.Common.{◌≡◌, ℕ, ◌+◌, ◌≤◌, List, [], ◌∷◌, ◌++◌, map, Bool, true, false, Some}
use Rattle.std.proofs.Common.{refl, sym, ap, ◌∙◌, subst, inl, inr, arith, if◌then◌else◌}
use Rattle.std.specs.Map.{lookup}
use Rattle.std.specs.Str.{bytes_eq}
use Rattle.std.proofs.lemmas.Bool.{false≢true}
use Rattle.std.proofs.lemmas.List.{map-append}
use Rattle.elm_canon.specs.Names.{Name, same_ref}
use Rattle.elm_canon.specs.declared.reference.Ref.TheVariants.{Top}
use Rattle.canon_env.proofs.Adding.{one_name}
use Rattle.canon_proper.proofs.Scopes.{name_itself, in_first, in_later}
use Rattle.elm_canon.specs.Proper.{Scope, among, IsIn, AreFresh}
use Rattle.module_proper.specs.Modules.{tops}
use Rattle.module_proper.proofs.Numbers.{same_top}
use Rattle.typed_values.specs.World.{Among}

abbrev pub one_if : Bool → ℕ
one_if true = 1
one_if false = 0

abbrev pub times : Name → List Name → ℕ
times x [] = 0
times x (y ∷ ys) = one_if (bytes_eq x y) + times x ys

pub times_more : (x : Name) (ys zs : List Name) → times x (ys ++ zs) ≡ times x ys + times x zs
times_more x [] zs = omega arith
times_more x (y ∷ ys) zs = let h = times_more x ys zs in omega (arith, h)

-- ---- new names

once_found : (home x : Name) (ys : List Name) (before : Scope) → AreFresh (tops home ys) before →
    IsIn (Top home x) before → times x ys ≡ 0
once_found home x [] before f i = refl
once_found home x (y ∷ ys) before f i =
    by (bytes_eq x y) refl (once_found home x ys (Top home y ∷ before) f.1 (in_later (Top home x) (Top home y) before i))
  where
    by : (b : Bool) → bytes_eq x y ≡ b → times x ys ≡ 0 → one_if b + times x ys ≡ 0
    by true e h =
        absurd (false≢true (sym f.0 ∙ subst (λ z. among (Top home z) before ≡ true) (one_name x y e) i))
    by false e h = omega (arith, h)

-- a name stands once at most among new ones
pub fresh_times : (home x : Name) (ys : List Name) (before : Scope) → AreFresh (tops home ys) before → times x ys ≤ 1
fresh_times home x [] before f = omega arith
fresh_times home x (y ∷ ys) before f = by (bytes_eq x y) refl (fresh_times home x ys (Top home y ∷ before) f.1)
  where
    by : (b : Bool) → bytes_eq x y ≡ b → times x ys ≤ 1 → one_if b + times x ys ≤ 1
    by true e h =
        let none = once_found home x ys (Top home y ∷ before) f.1
        (subst (λ z. IsIn (Top home x) (Top home z ∷ before)) (one_name x y e) (in_first (Top home x) before)) in
        omega (arith, none)
    by false e h = omega (arith, h)

-- a name that is none of them stands there never
pub times_none : (home x : Name) (ys : List Name) → among (Top home x) (tops home ys) ≡ false → times x ys ≡ 0
times_none home x [] e = refl
times_none home x (y ∷ ys) e = by (bytes_eq x y) refl (λ f. times_none home x ys f)
  where
    other : (b : Bool) → (if b then true else among (Top home x) (tops home ys)) ≡ false →
        among (Top home x) (tops home ys) ≡ false
    other true h = absurd cc
    other false h = h

    by : (b : Bool) → bytes_eq x y ≡ b → (among (Top home x) (tops home ys) ≡ false → times x ys ≡ 0) →
        one_if b + times x ys ≡ 0
    by true s rest =
        absurd (false≢true (sym e
        ∙ subst (λ z. among (Top home x) (tops home (z ∷ ys)) ≡ true) (one_name x y s)
        (in_first (Top home x) (tops home ys))))
    by false s rest = let h = rest (other (same_ref (Top home x) (Top home y)) e) in omega (arith, h)

-- a name that is one of them stands there
pub times_some : (home x : Name) (ys : List Name) → IsIn (Top home x) (tops home ys) → 1 ≤ times x ys
times_some home x [] i = absurd (false≢true i)
times_some home x (y ∷ ys) i = by (bytes_eq x y) refl (times_some home x ys)
  where
    other : (b : Bool) → b ≡ false → (if b then true else among (Top home x) (tops home ys)) ≡ true →
        among (Top home x) (tops home ys) ≡ true
    other true e h = absurd cc
    other false e h = h

    by : (b : Bool) → bytes_eq x y ≡ b → (IsIn (Top home x) (tops home ys) → 1 ≤ times x ys) → 1 ≤ one_if b + times x ys
    by true s rest = omega arith
    by false s rest =
        let h = rest (other (same_ref (Top home x) (Top home y)) (same_top home x y ∙ s) i) in omega (arith, h)

-- ---- what stands once is found

module _ {A : Type 0} where
  abbrev pub names : List (Name × A) → List Name
  names ds = map (λ d. d.0) ds

  pub names_more : (ds es : List (Name × A)) → names (ds ++ es) ≡ names ds ++ names es
  names_more ds es = map-append (λ (d : Name × A). d.0) ds es

  there : (ds : List (Name × A)) (d : Name × A) → Among d ds → 1 ≤ times d.0 (names ds)
  there [] d a = absurd a
  there (e ∷ ds) d (inl s) =
      let h : bytes_eq d.0 e.0 ≡ true = subst (λ (z : Name × A). bytes_eq d.0 z.0 ≡ true) s (name_itself d.0) in
      let k : one_if (bytes_eq d.0 e.0) ≡ 1 = ap one_if h in
      omega (arith, k)
  there (e ∷ ds) d (inr a) = let h = there ds d a in omega (arith, h)

  -- and what is found stands there
  pub found_there : (ds : List (Name × A)) (x : Name) (a : A) → lookup (bytes_eq x) ds ≡ Some a → 1 ≤ times x (names ds)
  found_there [] x a e = absurd cc
  found_there (d ∷ ds) x a e = by (bytes_eq x d.0) e (found_there ds x a)
    where
      by : (b : Bool) → (if b then Some d.1 else lookup (bytes_eq x) ds) ≡ Some a →
          (lookup (bytes_eq x) ds ≡ Some a → 1 ≤ times x (names ds)) → 1 ≤ one_if b + times x (names ds)
      by true h rest = omega arith
      by false h rest = let k = rest h in omega (arith, k)

  pub found : (ds : List (Name × A)) (d : Name × A) → Among d ds → times d.0 (names ds) ≤ 1 →
      lookup (bytes_eq d.0) ds ≡ Some d.1
  found [] d a l = absurd a
  found (e ∷ ds) d (inl s) l =
      ap (λ b. if b then Some e.1 else lookup (bytes_eq d.0) ds)
      (subst (λ (z : Name × A). bytes_eq d.0 z.0 ≡ true) s (name_itself d.0))
      ∙ ap (λ (z : Name × A). Some z.1) (sym s)
  found (e ∷ ds) d (inr a) l = by (bytes_eq d.0 e.0) l (there ds d a) (λ h. found ds d a h)
    where
      by : (b : Bool) → one_if b + times d.0 (names ds) ≤ 1 → 1 ≤ times d.0 (names ds) →
          (times d.0 (names ds) ≤ 1 → lookup (bytes_eq d.0) ds ≡ Some d.1) →
          (if b then Some e.1 else lookup (bytes_eq d.0) ds) ≡ Some d.1
      by true h k rest = absurd (omega (arith, h, k))
      by false h k rest = rest (omega (arith, h))

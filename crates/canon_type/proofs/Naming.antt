-- The places of names, one name after the other.
use Rattle.std.proofs.Common.{◌≡◌, ℕ, ◌+◌, ◌<◌, suc, List, [], ◌∷◌, ◌++◌, Bool, true, false, if◌then◌else◌, Option, Some, None}
use Rattle.std.proofs.Common.{length, map, take, get_or, refl, sym, ap, ◌∙◌, append-nil, arith}
use Rattle.std.specs.Prelude.{filter_map, option_map, is_some}
use Rattle.std.specs.List.{cons_option}
use Rattle.std.proofs.lemmas.Bool.{false≢true}
use Rattle.std.proofs.lemmas.List.Elements.{filter_map-append}
use Rattle.elm_canon.specs.Names.{Name, same_name}
use Rattle.canon_env.proofs.Filtering.{map_next}
use Rattle.canon_env.proofs.Adding.{one_name}
use Rattle.canon_type.specs.Recursion.{place_among}

module _ {X Y Z : Type 0} (f : Y → Option Z) (g : X → Y) (xs : List X) (i : ℕ) (x : X) (lt : i < length xs)
    (is : x ≡ get_or xs i x) where
  next : filter_map f (map g (take i xs)) ++ cons_option (f (g x)) [] ≡ filter_map f (map g (take (i + 1) xs))
  next = sym (ap (filter_map f) (map_next g xs i x lt is) ∙ filter_map-append f (map g (take i xs)) (g x ∷ []))

  -- one that counts
  pub some_next : (z : Z) → Some z ≡ f (g x) →
      filter_map f (map g (take i xs)) ++ z ∷ [] ≡ filter_map f (map g (take (i + 1) xs))
  some_next z e = ap (λ o. filter_map f (map g (take i xs)) ++ cons_option o []) e ∙ next

  -- one that does not
  pub none_next : None ≡ f (g x) → filter_map f (map g (take i xs)) ≡ filter_map f (map g (take (i + 1) xs))
  none_next e =
      sym (append-nil (filter_map f (map g (take i xs))))
      ∙ ap (λ o. filter_map f (map g (take i xs)) ++ cons_option o []) e ∙ next

-- ---- the first place of a name

place_other : (x y : Name) (names : List Name) → same_name y x ≡ false →
    place_among x (names ++ y ∷ []) ≡ place_among x names
place_other x y [] e = ap (λ b. if b then Some 0 else None) e
place_other x y (a ∷ names) e = ap (λ o. if same_name a x then Some 0 else option_map suc o) (place_other x y names e)

told : (o : Option ℕ) (b : Bool) → is_some (option_map suc o) ≡ b → is_some o ≡ b
told None b e = e
told (Some n) b e = e

-- a name that has a place keeps it
pub place_kept : (x y : Name) (names : List Name) → is_some (place_among y names) ≡ true →
    place_among x (names ++ y ∷ []) ≡ place_among x names
place_kept x y [] e = absurd (false≢true e)
place_kept x y (a ∷ names) e = by (λ s. place_kept x y names s) (same_name a y) refl e (same_name a x) refl
  where
    by : (is_some (place_among y names) ≡ true → place_among x (names ++ y ∷ []) ≡ place_among x names) → (b : Bool) → same_name a y ≡ b → is_some (if b then Some 0 else option_map suc (place_among y names)) ≡ true →
        (d : Bool) → same_name a x ≡ d →
        (if d then Some 0 else option_map suc (place_among x (names ++ y ∷ [])))
        ≡ (if d then Some 0 else option_map suc (place_among x names))
    by more b is some true at = refl
    by more true is some false at =
        ap (option_map suc) (place_other x y names (ap (λ z. same_name z x) (sym (one_name a y is)) ∙ at))
    by more false is some false at = ap (option_map suc) (more (told (place_among y names) true some))

-- one that has none stands after the others
pub place_new : (x y : Name) (names : List Name) → is_some (place_among y names) ≡ false →
    place_among x (names ++ y ∷ []) ≡ (if same_name y x then Some (length names) else place_among x names)
place_new x y [] e = refl
place_new x y (a ∷ names) e =
    by (λ s. place_new x y names s) (same_name a y) refl e (same_name a x) refl (same_name y x) refl
  where
    by : (is_some (place_among y names) ≡ false →
        place_among x (names ++ y ∷ []) ≡ (if same_name y x then Some (length names) else place_among x names)) → (b : Bool) → same_name a y ≡ b → is_some (if b then Some 0 else option_map suc (place_among y names)) ≡ false →
        (d : Bool) → same_name a x ≡ d → (f : Bool) → same_name y x ≡ f →
        (if d then Some 0 else option_map suc (place_among x (names ++ y ∷ [])))
        ≡ (if f then Some (suc (length names)) else (if d then Some 0 else option_map suc (place_among x names)))
    by more true is some d at f there = absurd (false≢true (sym some))
    by more false is some true at true there =
        absurd (false≢true (sym is ∙ ap (λ z. same_name a z) (one_name y x there) ∙ at))
    by more false is some true at false there = refl
    by more false is some false at f there =
        ap (option_map suc) (more (told (place_among y names) false some)
        ∙ ap (λ b. if b then Some (length names) else place_among x names) there)
        ∙ out f
      where
        out : (f : Bool) → option_map suc (if f then Some (length names) else place_among x names)
            ≡ (if f then Some (suc (length names)) else option_map suc (place_among x names))
        out true = refl
        out false = refl

pub within : (x : Name) (names : List Name) (p : ℕ) → place_among x names ≡ Some p → p < length names
within x [] p e = cc
within x (a ∷ names) p e = by (λ q h. within x names q h) (same_name a x) (place_among x names) refl e
  where
    by : ((q : ℕ) → place_among x names ≡ Some q → q < length names) → (b : Bool) (o : Option ℕ) → place_among x names ≡ o → (if b then Some 0 else option_map suc o) ≡ Some p →
        p < suc (length names)
    by more true o is h = let z : 0 ≡ p = cc in omega (arith, z)
    by more false None is h = cc
    by more false (Some q) is h = let z : suc q ≡ p = cc in let l = more q is in omega (arith, z, l)

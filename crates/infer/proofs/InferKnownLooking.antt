-- The first entry of a name.
use Rattle.std.proofs.Common.{◌≡◌, List, [], ◌∷◌, ◌++◌, Bool, true, false, cond, Option, Some, None, map, refl, sym, ap}
use Rattle.std.proofs.Common.{◌∙◌}
use Rattle.std.specs.Prelude.{option_map}
use Rattle.std.specs.List.{AllByRecursion}
use Rattle.std.specs.Map.{lookup}
use Rattle.std.specs.Option.{option_or}
use Rattle.std.specs.Str.{bytes_eq}
use Rattle.std.proofs.Common.{subst}
use Rattle.std.proofs.lemmas.Bool.{false≢true}
use Rattle.std.proofs.lemmas.Map.Entries.{lookup_head, lookup_tail}
use Rattle.std.proofs.lemmas.Slice.Eq.{bytes_eq-Decides}
use Rattle.elm_type.specs.Types.{Name}

-- whether x is y is whether y is x
pub same_back : (x y : Name) → bytes_eq x y ≡ bytes_eq y x
same_back x y = by (bytes_eq x y) (bytes_eq y x) refl refl
  where
    by : (b d : Bool) → bytes_eq x y ≡ b → bytes_eq y x ≡ d → bytes_eq x y ≡ bytes_eq y x
    by true true e f = e ∙ sym f
    by false false e f = e ∙ sym f
    by true false e f =
        absurd (false≢true (sym f ∙ (bytes_eq-Decides y x).1 (sym ((bytes_eq-Decides x y).0 e))))
    by false true e f =
        absurd (false≢true (sym e ∙ (bytes_eq-Decides x y).1 (sym ((bytes_eq-Decides y x).0 f))))

module _ {K X : Type 0} (test : K → Bool) where
  -- one entry is put before those that follow
  pub lookup_one : (e : K × X) (found : Option X)
      → option_or (lookup test (e ∷ [])) found ≡ cond (test e.0) (Some e.1) found
  lookup_one e found = by (test e.0) refl
    where
      by : (b : Bool) → test e.0 ≡ b → option_or (lookup test (e ∷ [])) found ≡ cond (test e.0) (Some e.1) found
      by true h =
          ap (λ o. option_or o found) (lookup_head test e [] h) ∙ sym (ap (λ b. cond b (Some e.1) found) h)
      by false h =
          ap (λ o. option_or o found) (lookup_tail test e [] h) ∙ sym (ap (λ b. cond b (Some e.1) found) h)

  -- the first of some, or the first of the others
  pub lookup_on : (es fs : List (K × X)) (found : Option X)
      → option_or (lookup test (es ++ fs)) found ≡ option_or (lookup test es) (option_or (lookup test fs) found)
  lookup_on [] fs found = refl
  lookup_on (e ∷ es) fs found = by (test e.0) refl (lookup_on es fs found)
    where
      by : (b : Bool) → test e.0 ≡ b
          → option_or (lookup test (es ++ fs)) found ≡ option_or (lookup test es) (option_or (lookup test fs) found)
          → option_or (lookup test (e ∷ (es ++ fs))) found
          ≡ option_or (lookup test (e ∷ es)) (option_or (lookup test fs) found)
      by true h again =
          ap (λ o. option_or o found) (lookup_head test e (es ++ fs) h)
          ∙ sym (ap (λ o. option_or o (option_or (lookup test fs) found)) (lookup_head test e es h))
      by false h again =
          ap (λ o. option_or o found) (lookup_tail test e (es ++ fs) h)
          ∙ (again
          ∙ sym (ap (λ o. option_or o (option_or (lookup test fs) found)) (lookup_tail test e es h)))

  pub lookup_none : (es : List (K × X)) → option_or (lookup test es) None ≡ lookup test es
  lookup_none es = by (lookup test es)
    where
      by : (o : Option X) → option_or o None ≡ o
      by None = refl
      by (Some x) = refl

  -- of entries that are changed
  pub lookup_mapped : {Y : Type 0} (f : X → Y) (es : List (K × X))
      → lookup test (map (λ (e : K × X). (e.0, f e.1)) es) ≡ option_map f (lookup test es)
  lookup_mapped f [] = refl
  lookup_mapped f (e ∷ es) = by (test e.0) refl (lookup_mapped f es)
    where
      by : (b : Bool) → test e.0 ≡ b
          → lookup test (map (λ (e : K × X). (e.0, f e.1)) es) ≡ option_map f (lookup test es)
          → lookup test (map (λ (e : K × X). (e.0, f e.1)) (e ∷ es)) ≡ option_map f (lookup test (e ∷ es))
      by true h again =
          lookup_head test (e.0, f e.1) (map (λ (e : K × X). (e.0, f e.1)) es) h
          ∙ sym (ap (option_map f) (lookup_head test e es h))
      by false h again =
          lookup_tail test (e.0, f e.1) (map (λ (e : K × X). (e.0, f e.1)) es) h
          ∙ (again ∙ sym (ap (option_map f) (lookup_tail test e es h)))

  -- what holds of each holds of the one that is found
  pub of_found : (P : X → Type 0) (es : List (K × X)) (v : X) → AllByRecursion (λ (e : K × X). P e.1) es
      → lookup test es ≡ Some v → P v
  of_found P [] v h e = absurd cc
  of_found P (t ∷ es) v h e = by (test t.0) refl (λ k. of_found P es v h.1 k)
    where
      by : (b : Bool) → test t.0 ≡ b → (lookup test es ≡ Some v → P v) → P v
      by true s again =
          let is : Some t.1 ≡ Some v = sym (lookup_head test t es s) ∙ e in
          let same : t.1 ≡ v = cc in subst P same h.0
      by false s again = again (sym (lookup_tail test t es s) ∙ e)

-- The variables of an annotation are different ones.
use Rattle.std.proofs.Common.{◌≡◌, zero, suc, List, [], ◌∷◌, filter, Bool, true, false, refl, subst, arith}
use Rattle.std.specs.Prelude.{◌||◌, is_none, if◌then◌else◌}
use Rattle.std.specs.List.{Contains}
use Rattle.std.specs.Str.{bytes_eq}
use Rattle.std.proofs.lemmas.Slice.Eq.{bytes_eq-Decides}
use Rattle.elm_canon.specs.Tree.{Annotation}
use Rattle.elm_type.specs.Types.{Name}
use Rattle.elm_type.specs.Ground.{contains}
use Rattle.type_items.specs.Annotations.{once, written, variables_of}
use Rattle.infer_steps.specs.Codes.{Code}
use Rattle.infer_groups.specs.Annotated.{own_names}
use Rattle.infer_groups.specs.Given.{AreApart}

or_second : (a b : Bool) → (a || b) ≡ false → b ≡ false
or_second true b h = absurd cc
or_second false b h = h

not_seen_case : (a : Name) (as_ seen : List Name) (x : Name) (b : Bool) → contains a seen ≡ b
    → ((more : List Name) → Contains (once as_ more) x → contains x more ≡ false)
    → Contains (if b then once as_ seen else a ∷ once as_ (a ∷ seen)) x → contains x seen ≡ false
not_seen_case a as_ seen x true e again h = again seen h
not_seen_case a as_ seen x false e again (zero, l, is) =
    let same : a ≡ x = is in subst (λ y. contains y seen ≡ false) same e
not_seen_case a as_ seen x false e again (suc k, l, is) =
    or_second (bytes_eq x a) (contains x seen) (again (a ∷ seen) (k, omega arith, is))

not_seen : (xs seen : List Name) (x : Name) → Contains (once xs seen) x → contains x seen ≡ false
not_seen [] seen x (k, l, e) = absurd (omega arith)
not_seen (a ∷ as_) seen x h = not_seen_case a as_ seen x (contains a seen) refl (λ more g. not_seen as_ more x g) h

once_case : (a : Name) (as_ seen : List Name) (b : Bool) → ((more : List Name) → AreApart (once as_ more))
    → AreApart (if b then once as_ seen else a ∷ once as_ (a ∷ seen))
once_case a as_ seen true again = again seen
once_case a as_ seen false again = (
  λ h. (
      let out : (bytes_eq a a || contains a seen) ≡ false = not_seen as_ (a ∷ seen) a h in
      let is : bytes_eq a a ≡ true = (bytes_eq-Decides a a).1 refl in
      cc),
  again (a ∷ seen),
)

once_apart : (xs seen : List Name) → AreApart (once xs seen)
once_apart [] seen = tt
once_apart (a ∷ as_) seen = once_case a as_ seen (contains a seen) (λ more. once_apart as_ more)

kept_case : (f : Name → Bool) (y : Name) (ys : List Name) (x : Name) (b : Bool)
    → (Contains (filter f ys) x → Contains ys x) → Contains (if b then y ∷ filter f ys else filter f ys) x
    → Contains (y ∷ ys) x
kept_case f y ys x true again (zero, l, e) = (zero, omega arith, e)
kept_case f y ys x true again (suc k, l, e) =
    let h = again (k, omega arith, e) in (suc h.0, omega (arith, h.1), h.2)
kept_case f y ys x false again g = let h = again g in (suc h.0, omega (arith, h.1), h.2)

kept_in : (f : Name → Bool) (xs : List Name) (x : Name) → Contains (filter f xs) x → Contains xs x
kept_in f [] x (k, l, e) = absurd (omega arith)
kept_in f (y ∷ ys) x h = kept_case f y ys x (f y) (λ g. kept_in f ys x g) h

filter_case : (f : Name → Bool) (y : Name) (ys : List Name) → AreApart (y ∷ ys) → (b : Bool) → AreApart (filter f ys)
    → AreApart (if b then y ∷ filter f ys else filter f ys)
filter_case f y ys h true again = (λ c. h.0 (kept_in f ys y c), again)
filter_case f y ys h false again = again

filter_apart : (f : Name → Bool) (xs : List Name) → AreApart xs → AreApart (filter f xs)
filter_apart f [] h = tt
filter_apart f (y ∷ ys) h = filter_case f y ys h (f y) (filter_apart f ys h.1)

-- so are those that no annotation around has
pub own_apart : (code : Code) (t : Annotation) → AreApart (own_names code t)
own_apart code t = filter_apart (λ x. is_none (code.constants x)) (variables_of t) (once_apart (written t) [])

-- Names of fields, each once, of which none is among others.
use Rattle.std.proofs.Common.{◌≡◌, List, [], ◌∷◌, ◌++◌, Bool, true, false, refl, sym, ap, ◌∙◌}
use Rattle.std.specs.Prelude.{◌&&◌, ◌||◌, not, filter, if◌then◌else◌}
use Rattle.std.specs.List.{list_any}
use Rattle.std.proofs.lemmas.Bool.{false≢true}
use Rattle.std.proofs.lemmas.Cmp.{nat_list_eq_equiv}
use Rattle.elm_canon.specs.Names.{Name, same_name}
use Rattle.canon_env.specs.Exposing.{is_among}
use Rattle.elm_canon.specs.Spelled.{is_word, are_fields}

-- none of the second is among the first
abbrev pub Apart : List Name → List Name → Type 0
Apart xs [] = Unit {0}
Apart xs (y ∷ ys) = (is_among y xs ≡ false) × Apart xs ys

pub none_among : (xs ys : List Name) → filter (λ y. is_among y xs) ys ≡ [] → Apart xs ys
none_among xs [] e = tt
none_among xs (y ∷ ys) e = by (is_among y xs) refl (λ h. none_among xs ys h) e
  where
    by : (b : Bool) → is_among y xs ≡ b → (filter (λ z. is_among z xs) ys ≡ [] → Apart xs ys) →
        (if b then y ∷ filter (λ z. is_among z xs) ys else filter (λ z. is_among z xs) ys) ≡ [] → Apart xs (y ∷ ys)
    by true is more h = absurd (cc)
    by false is more h = (is, more h)

or_false : (a b : Bool) → (a || b) ≡ false → (a ≡ false) × (b ≡ false)
or_false true b e = absurd (false≢true (sym e))
or_false false b e = (refl, e)

-- the first name stands in none of the others
not_first : (x : Name) (xs ys : List Name) → Apart (x ∷ xs) ys → list_any (same_name x) ys ≡ false
not_first x xs [] a = refl
not_first x xs (y ∷ ys) a =
    ap (λ b. b || list_any (same_name x) ys)
    (nat_list_eq_equiv.symm x y ∙ (or_false (same_name y x) (is_among y xs) a.0).0)
    ∙ not_first x xs ys a.1

others : (x : Name) (xs ys : List Name) → Apart (x ∷ xs) ys → Apart xs ys
others x xs [] a = tt
others x xs (y ∷ ys) a = ((or_false (same_name y x) (is_among y xs) a.0).1, others x xs ys a.1)

any_join : (p : Name → Bool) (xs ys : List Name) → list_any p (xs ++ ys) ≡ (list_any p xs || list_any p ys)
any_join p [] ys = refl
any_join p (x ∷ xs) ys = by (p x) (any_join p xs ys)
  where
    by : (b : Bool) → list_any p (xs ++ ys) ≡ (list_any p xs || list_any p ys) →
        (b || list_any p (xs ++ ys)) ≡ ((b || list_any p xs) || list_any p ys)
    by true e = refl
    by false e = e

both : (a b : Bool) → (a && b) ≡ true → (a ≡ true) × (b ≡ true)
both true b e = (refl, e)
both false b e = absurd (false≢true e)

not_so : (a : Bool) → not a ≡ true → a ≡ false
not_so true e = absurd (false≢true e)
not_so false e = refl

-- such names are together names of fields, each once
pub joined_once : (xs ys : List Name) → are_fields xs ≡ true → are_fields ys ≡ true → Apart xs ys →
    are_fields (xs ++ ys) ≡ true
joined_once [] ys f g a = g
joined_once (x ∷ xs) ys f g a =
    let word = both (is_word x) (not (list_any (same_name x) xs) && are_fields xs) f in
    let rest = both (not (list_any (same_name x) xs)) (are_fields xs) word.1 in
    let apart : list_any (same_name x) (xs ++ ys) ≡ false =
    any_join (same_name x) xs ys
    ∙ ap (λ b. b || list_any (same_name x) ys) (not_so (list_any (same_name x) xs) rest.0)
    ∙ not_first x xs ys a in
    ap (λ b. b && (not (list_any (same_name x) (xs ++ ys)) && are_fields (xs ++ ys))) word.0
    ∙ ap (λ b. not b && are_fields (xs ++ ys)) apart
    ∙ joined_once xs ys rest.1 g (others x xs ys a)

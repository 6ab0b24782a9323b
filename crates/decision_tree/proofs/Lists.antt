-- Lists that grow, and elements as they are seen.
use Rattle.std.proofs.Common.{◌≡◌, ℕ, zero, suc, ◌+◌, ◌<◌, ◌≤◌, List, [], ◌∷◌, ◌++◌, length, map, drop, take, get_or}
use Rattle.std.proofs.Common.{refl, sym, ap, ◌∙◌, arith, drop-cons, append_assoc}
use Rattle.std.proofs.lemmas.List.{map-append}

pub map_then : {A B : Type 0} (f : A → B) (out : List A) (x : A) (zs : List B)
    → map f (out ++ x ∷ []) ++ zs ≡ map f out ++ (f x ∷ zs)
map_then f [] x zs = refl
map_then f (y ∷ out) x zs = ap (λ us. f y ∷ us) (map_then f out x zs)

-- one more is made of those that are left
pub grown : {A B : Type 0} (f : A → B) (out new : List A) (x : A) (y : B) (rest zs all : List B) → new ≡ out ++ x ∷ []
    → f x ≡ y → rest ≡ y ∷ zs → map f out ++ rest ≡ all → map f new ++ zs ≡ all
grown f out new x y rest zs all is at split so =
    ap (λ us. map f us ++ zs) is
    ∙ (map_then f out x zs
    ∙ (ap (λ z. map f out ++ (z ∷ zs)) at
    ∙ (ap (λ us. map f out ++ us) (sym split) ∙ so)))

pub map_at : {A B : Type 0} (f : A → B) (xs : List A) (i : ℕ) (x : A) (d : B) → i < length xs → get_or xs i x ≡ x
    → get_or (map f xs) i d ≡ f x
map_at f [] i x d h at = absurd (omega (arith, h))
map_at f (y ∷ xs) zero x d h at = ap f at
map_at f (y ∷ xs) (suc i) x d h at = map_at f xs i x d (omega (arith, h)) at

pub drop_at : {A : Type 0} (xs : List A) (i : ℕ) (x : A) → i < length xs → get_or xs i x ≡ x
    → drop i xs ≡ x ∷ drop (i + 1) xs
drop_at xs i x h at =
    let next : suc i ≡ i + 1 = omega arith in
    drop-cons xs i x h ∙ (ap (λ z. z ∷ drop (suc i) xs) at ∙ ap (λ n. x ∷ drop n xs) next)

pub at_self : {A : Type 0} (xs : List A) (i : ℕ) (d : A) → i < length xs → get_or xs i (get_or xs i d) ≡ get_or xs i d
at_self [] i d h = absurd (omega (arith, h))
at_self (x ∷ xs) zero d h = refl
at_self (x ∷ xs) (suc i) d h = at_self xs i d (omega (arith, h))

-- the elements from one on
pub map_from : {A B : Type 0} (f : A → B) (xs : List A) (i : ℕ) (d : B) → i < length xs
    → map f (drop i xs) ≡ get_or (map f xs) i d ∷ map f (drop (i + 1) xs)
map_from f xs i d h = from_suc f xs i d h ∙ ap (λ n. get_or (map f xs) i d ∷ map f (drop n xs)) (next i)
  where
    next : (i : ℕ) → suc i ≡ i + 1
    next i = omega arith

    from_suc : {A B : Type 0} (f : A → B) (xs : List A) (i : ℕ) (d : B) → i < length xs
        → map f (drop i xs) ≡ get_or (map f xs) i d ∷ map f (drop (suc i) xs)
    from_suc f [] i d h = absurd (omega (arith, h))
    from_suc f (x ∷ xs) zero d h = refl
    from_suc f (x ∷ xs) (suc i) d h = from_suc f xs i d (omega (arith, h))

-- no element is so far on
pub past_all : {A B : Type 0} (f : A → B) (xs : List A) (i : ℕ) (d : B) → length xs ≤ i → get_or (map f xs) i d ≡ d
past_all f [] i d h = refl
past_all f (x ∷ xs) zero d h = absurd (omega (arith, h))
past_all f (x ∷ xs) (suc i) d h = past_all f xs i d (omega (arith, h))

take_more : {A B : Type 0} (f : A → B) (xs : List A) (i : ℕ) (d : B) → i < length xs
    → map f (take (i + 1) xs) ≡ map f (take i xs) ++ (get_or (map f xs) i d ∷ [])
take_more f xs i d h = ap (λ n. map f (take n xs)) (next i) ∙ more_suc f xs i d h
  where
    next : (i : ℕ) → i + 1 ≡ suc i
    next i = omega arith

    more_suc : {A B : Type 0} (f : A → B) (xs : List A) (i : ℕ) (d : B) → i < length xs
        → map f (take (suc i) xs) ≡ map f (take i xs) ++ (get_or (map f xs) i d ∷ [])
    more_suc f [] i d h = absurd (omega (arith, h))
    more_suc f (x ∷ xs) zero d h = refl
    more_suc f (x ∷ xs) (suc i) d h = ap (λ zs. f x ∷ zs) (more_suc f xs i d (omega (arith, h)))

-- one more of some elements is added after others
pub one_more : {A B C : Type 0} (f : A → C) (g : B → C) (out new old : List A) (xs : List B) (i : ℕ) (y : A) (d : C)
    → i < length xs → new ≡ out ++ (y ∷ []) → f y ≡ get_or (map g xs) i d
    → map f out ≡ map f old ++ map g (take i xs)
    → map f new ≡ map f old ++ map g (take (i + 1) xs)
one_more f g out new old xs i y d h is at so =
    ap (map f) is ∙ map-append f out (y ∷ [])
    ∙ ap (λ zs. zs ++ (f y ∷ [])) so
    ∙ append_assoc (map f old) (map g (take i xs)) (f y ∷ [])
    ∙ ap (λ z. map f old ++ (map g (take i xs) ++ (z ∷ []))) at
    ∙ ap (λ zs. map f old ++ zs) (sym (take_more g xs i d h))

pub none_from : {A : Type 0} (xs : List A) (i : ℕ) → length xs ≤ i → drop i xs ≡ []
none_from [] zero h = refl
none_from [] (suc i) h = refl
none_from (x ∷ xs) zero h = absurd (omega (arith, h))
none_from (x ∷ xs) (suc i) h = none_from xs i (omega (arith, h))

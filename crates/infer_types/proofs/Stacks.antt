-- The end of a stack, the last one first.
use Rattle.std.proofs.Common.{◌≡◌, ℕ, zero, suc, ◌+◌, ◌-◌, ◌<◌, ◌≤◌, List, [], ◌∷◌, ◌++◌, length, map, take, drop, refl}
use Rattle.std.proofs.Common.{sym, ap, ◌∙◌, arith}
use Rattle.std.specs.Prelude.{reverse}
use Rattle.std.proofs.lemmas.List.{reverse-append, length-reverse, take-append-drop}
use Rattle.std.proofs.Common.{length-drop, inl, inr}
use Rattle.std.proofs.lemmas.Bool.{cases_lt}

take_all : {X : Type 0} (n : ℕ) (xs ys : List X) → length xs ≡ n → take n (xs ++ ys) ≡ xs
take_all zero [] [] e = refl
take_all zero [] (y ∷ ys) e = refl
take_all zero (x ∷ xs) ys e = absurd (omega (arith, e))
take_all (suc n) [] ys e = absurd (omega (arith, e))
take_all (suc n) (x ∷ xs) ys e = ap (λ zs. x ∷ zs) (take_all n xs ys (omega (arith, e)))

drop_all : {X : Type 0} (n : ℕ) (xs ys : List X) → length xs ≡ n → drop n (xs ++ ys) ≡ ys
drop_all zero [] ys e = refl
drop_all zero (x ∷ xs) ys e = absurd (omega (arith, e))
drop_all (suc n) [] ys e = absurd (omega (arith, e))
drop_all (suc n) (x ∷ xs) ys e = drop_all n xs ys (omega (arith, e))

-- more are taken than there are
take_past : {X : Type 0} (n : ℕ) (xs : List X) → length xs ≤ n → take n xs ≡ xs
take_past zero [] h = refl
take_past zero (x ∷ xs) h = absurd (omega (arith, h))
take_past (suc n) [] h = refl
take_past (suc n) (x ∷ xs) h = ap (λ zs. x ∷ zs) (take_past n xs (omega (arith, h)))

drop_past : {X : Type 0} (n : ℕ) (xs : List X) → length xs ≤ n → drop n xs ≡ []
drop_past zero [] h = refl
drop_past zero (x ∷ xs) h = absurd (omega (arith, h))
drop_past (suc n) [] h = refl
drop_past (suc n) (x ∷ xs) h = drop_past n xs (omega (arith, h))

parted : {X : Type 0} (i : ℕ) (xs : List X) → reverse xs ≡ reverse (drop i xs) ++ reverse (take i xs)
parted i xs = ap reverse (sym (take-append-drop i xs)) ∙ reverse-append (take i xs) (drop i xs)

pub turned : {X : Type 0} (n : ℕ) (xs : List X) → reverse (drop (length xs - n) xs) ≡ take n (reverse xs)
turned n xs = elim (cases_lt n (length xs + 1)) [
  | inl l ↦
      (let e : length (reverse (drop (length xs - n) xs)) ≡ n = length-reverse (drop (length xs - n) xs) ∙
      (length-drop (length xs - n) xs ∙ omega arith) in
      sym (ap (take n) (parted (length xs - n) xs) ∙ take_all n (reverse (drop (length xs - n) xs))
      (reverse (take (length xs - n) xs)) e))
  | inr h ↦
      (let none : length xs - n ≡ 0 = omega (arith, h) in
      ap (λ k. reverse (drop k xs)) none ∙ sym (take_past n (reverse xs) (omega (arith, h, length-reverse xs))))
]

pub turned_left : {X : Type 0} (n : ℕ) (xs : List X) → reverse (take (length xs - n) xs) ≡ drop n (reverse xs)
turned_left n xs = elim (cases_lt n (length xs + 1)) [
  | inl l ↦
      (let e : length (reverse (drop (length xs - n) xs)) ≡ n = length-reverse (drop (length xs - n) xs) ∙
      (length-drop (length xs - n) xs ∙ omega arith) in
      sym (ap (drop n) (parted (length xs - n) xs) ∙ drop_all n (reverse (drop (length xs - n) xs))
      (reverse (take (length xs - n) xs)) e))
  | inr h ↦
      (let none : length xs - n ≡ 0 = omega (arith, h) in
      ap (λ k. reverse (take k xs)) none ∙ sym (drop_past n (reverse xs) (omega (arith, h, length-reverse xs))))
]

pub map_take : {X Y : Type 0} (f : X → Y) (n : ℕ) (xs : List X) → map f (take n xs) ≡ take n (map f xs)
map_take f zero xs = refl
map_take f (suc n) [] = refl
map_take f (suc n) (x ∷ xs) = ap (λ ys. f x ∷ ys) (map_take f n xs)

pub map_drop : {X Y : Type 0} (f : X → Y) (n : ℕ) (xs : List X) → map f (drop n xs) ≡ drop n (map f xs)
map_drop f zero xs = refl
map_drop f (suc n) [] = refl
map_drop f (suc n) (x ∷ xs) = map_drop f n xs

pub pushed : {X Y : Type 0} (f : X → Y) (xs : List X) (x : X)
    → map f (reverse (xs ++ x ∷ [])) ≡ f x ∷ map f (reverse xs)
pushed f xs x = ap (map f) (reverse-append xs (x ∷ []))

pub nothing_left : {X : Type 0} (xs : List X) → length xs < 1 → xs ≡ []
nothing_left [] h = refl
nothing_left (x ∷ xs) h = absurd (omega arith)

-- Lists side by side.
use Rattle.std.proofs.Common.{◌≡◌, ℕ, zero, suc, ◌<◌, List, [], ◌∷◌, ◌++◌, length, map, get_or, Some, refl, sym}
use Rattle.std.proofs.Common.{ap, subst, arith}
use Rattle.std.specs.Prelude.{slice_get}
use Rattle.std.specs.List.{AllZip}

pub zip_push : {X Y : Type 0} (R : X → Y → Type 0) (xs : List X) (ys : List Y) (x : X) (y : Y) → AllZip R xs ys → R x y
    → AllZip R (xs ++ x ∷ []) (ys ++ y ∷ [])
zip_push R [] [] x y h r = (r, tt)
zip_push R [] (w ∷ ws) x y h r = absurd h
zip_push R (v ∷ vs) [] x y h r = absurd h
zip_push R (v ∷ vs) (w ∷ ws) x y h r = (h.0, zip_push R vs ws x y h.1 r)

pub record Last {X Y : Type 0} (R : X → Y → Type 0) (xs : List X) (x : X) (ys : List Y) : Type 0 where
  pub front : List Y
  pub last : Y
  pub is : ys ≡ front ++ last ∷ []
  pub fronts : AllZip R xs front
  pub lasts : R x last

pub zip_last : {X Y : Type 0} (R : X → Y → Type 0) (xs : List X) (x : X) (ys : List Y) → AllZip R (xs ++ x ∷ []) ys
    → Last R xs x ys
zip_last R [] x [] h = absurd h
zip_last R [] x (y ∷ []) h = record { front = []; last = y; is = refl; fronts = tt; lasts = h.0 }
zip_last R [] x (y ∷ z ∷ zs) h = absurd h.1
zip_last R (v ∷ vs) x [] h = absurd h
zip_last R (v ∷ vs) x (y ∷ ys) h =
    let l = zip_last R vs x ys h.1 in
    record { front = y ∷ l.front; last = l.last; is = ap (λ t. y ∷ t) l.is; fronts = (h.0, l.fronts); lasts = l.lasts }

pub zip_length : {X Y : Type 0} (R : X → Y → Type 0) (xs : List X) (ys : List Y) → AllZip R xs ys
    → length xs ≡ length ys
zip_length R [] [] h = refl
zip_length R [] (y ∷ ys) h = absurd h
zip_length R (x ∷ xs) [] h = absurd h
zip_length R (x ∷ xs) (y ∷ ys) h = ap suc (zip_length R xs ys h.1)

-- equal images are side by side
pub zip_images : {X Y Z : Type 0} (f : X → Z) (g : Y → Z) (xs : List X) (ys : List Y) → map f xs ≡ map g ys
    → AllZip (λ x y. f x ≡ g y) xs ys
zip_images f g [] [] e = tt
zip_images f g [] (y ∷ ys) e = absurd cc
zip_images f g (x ∷ xs) [] e = absurd cc
zip_images f g (x ∷ xs) (y ∷ ys) e =
    let first : f x ≡ g y = cc in
    let rest : map f xs ≡ map g ys = cc in
    (first, zip_images f g xs ys rest)

-- the element at a place has one beside it
pub record Beside {X Y : Type 0} (R : X → Y → Type 0) (x : X) (ys : List Y) (i : ℕ) : Type 0 where
  pub other : Y
  pub is : slice_get ys i ≡ Some other
  pub related : R x other

pub zip_beside : {X Y : Type 0} (R : X → Y → Type 0) (xs : List X) (ys : List Y) (i : ℕ) (x : X) → AllZip R xs ys
    → i < length xs → x ≡ get_or xs i x
    → Beside R x ys i
zip_beside R [] ys i x h l e = absurd (omega arith)
zip_beside R (w ∷ ws) [] i x h l e = absurd h
zip_beside R (w ∷ ws) (y ∷ ys) zero x h l e = record { other = y; is = refl; related = subst (λ z. R z y) (sym e) h.0 }
zip_beside R (w ∷ ws) (y ∷ ys) (suc i) x h l e =
    let b = zip_beside R ws ys i x h.1 (omega arith) e in
    record { other = b.other; is = b.is; related = b.related }

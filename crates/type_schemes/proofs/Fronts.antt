-- What a name begins with.
use Rattle.std.proofs.Common.{◌≡◌, ℕ, suc, ◌+◌, ◌<◌, List, [], ◌∷◌, length, drop, take, get_or, Bool, true, false}
use Rattle.std.proofs.Common.{nat_eq, refl, sym, ap, ◌∙◌, arith, add-one, drop-cons}
use Rattle.std.specs.Prelude.{◌&&◌}
use Rattle.std.specs.List.{starts_with}
use Rattle.std.specs.Cmp.Lexicographic.{pointwise}
use Rattle.std.proofs.lemmas.Bool.{eqb-true, eq-eqb}

-- a name that is shorter does not begin so
pub short : (xs ys : List ℕ) → length xs < length ys → starts_with nat_eq xs ys ≡ false
short xs [] l = absurd (omega arith)
short [] (y ∷ ys) l = refl
short (x ∷ xs) (y ∷ ys) l = go (nat_eq y x) (short xs ys (omega arith))
  where
    go : (b : Bool) → pointwise nat_eq ys (take (length ys) xs) ≡ false
        → (b && pointwise nat_eq ys (take (length ys) xs)) ≡ false
    go true again = again
    go false again = refl

from : (xs : List ℕ) (i x : ℕ) → i < length xs → x ≡ get_or xs i x → drop i xs ≡ x ∷ drop (i + 1) xs
from xs i x l e =
    drop-cons xs i x l ∙ (ap (λ y. y ∷ drop (suc i) xs) (sym e) ∙ ap (λ j. x ∷ drop j xs) (sym (add-one i)))

module _ (xs ys : List ℕ) (i x y : ℕ) (lx : i < length xs) (ly : i < length ys) (ex : x ≡ get_or xs i x)
    (ey : y ≡ get_or ys i y) where
  both : starts_with nat_eq (drop i xs) (drop i ys) ≡ starts_with nat_eq (x ∷ drop (i + 1) xs) (y ∷ drop (i + 1) ys)
  both = ap (λ zs. starts_with nat_eq zs (drop i ys)) (from xs i x lx ex) ∙ ap
      (starts_with nat_eq (x ∷ drop (i + 1) xs)) (from ys i y ly ey)

  -- one unit more
  pub goes_on : x ≡ y → starts_with nat_eq (drop (i + 1) xs) (drop (i + 1) ys) ≡ starts_with nat_eq (drop i xs)
      (drop i ys)
  goes_on e = sym (both ∙ ap (λ b. b && starts_with nat_eq (drop (i + 1) xs) (drop (i + 1) ys)) (eq-eqb y x (sym e)))

  -- or not
  pub ends : (x ≡ y → ⊥) → starts_with nat_eq (drop i xs) (drop i ys) ≡ false
  ends n = both ∙ ap (λ b. b && starts_with nat_eq (drop (i + 1) xs) (drop (i + 1) ys)) (other (nat_eq y x) refl)
    where
      other : (b : Bool) → nat_eq y x ≡ b → b ≡ false
      other true e = absurd (n (sym (eqb-true y x e)))
      other false e = refl

past : (ys : List ℕ) (i : ℕ) → length ys ≡ i → drop i ys ≡ []
past [] i e = ap (λ j. drop j []) (sym e)
past (y ∷ ys) i e = ap (λ j. drop j (y ∷ ys)) (sym e) ∙ past ys (length ys) refl

pub all_there : (xs ys : List ℕ) (i : ℕ) → length ys ≡ i → starts_with nat_eq (drop i xs) (drop i ys) ≡ true
all_there xs ys i e = ap (starts_with nat_eq (drop i xs)) (past ys i e)

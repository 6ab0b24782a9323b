-- Lists, by their places.
use Rattle.std.proofs.Common.{◌≡◌, ℕ, zero, suc, ◌+◌, List, [], ◌∷◌, ◌++◌, map, length, drop, Some}
use Rattle.std.proofs.Common.{refl, ap, ◌∙◌, subst, arith, ⊎_elim}
use Rattle.std.specs.Prelude.{slice_get}
use Rattle.std.specs.List.{Contains, enumerate_from}
use Rattle.decl_groups.proofs.Basics.{no_member, first_member, later_member, member_cases}

pub cut : {X : Type 0} (xs : List X) (k : ℕ) (x : X) → slice_get xs k ≡ Some x → drop k xs ≡ x ∷ drop (k + 1) xs
cut [] k x e = absurd cc
cut (y ∷ ys) zero x e = let same : y ≡ x = cc in ap (λ z. z ∷ ys) same
cut (y ∷ ys) (suc k) x e =
    cut ys k x e ∙ (let n : suc (k + 1) ≡ suc k + 1 = omega arith in ap (λ m. x ∷ drop m (y ∷ ys)) n)

pub enumerated : {X : Type 0} (n : ℕ) (xs : List X) (x : X)
    → enumerate_from n (xs ++ x ∷ []) ≡ enumerate_from n xs ++ (n + length xs, x) ∷ []
enumerated n [] x = (let e : n ≡ n + 0 = omega arith in ap (λ m. (m, x) ∷ []) e)
enumerated n (y ∷ ys) x =
    ap (λ l. (n, y) ∷ l) (enumerated (n + 1) ys x)
    ∙ (let e : n + 1 + length ys ≡ n + suc (length ys) = omega arith in
    ap (λ m. (n, y) ∷ (enumerate_from (n + 1) ys ++ (m, x) ∷ [])) e)

pub mapped : {X Y : Type 0} (f : X → Y) (xs : List X) (x : X) → Contains xs x → Contains (map f xs) (f x)
mapped f [] x c = absurd (no_member x c)
mapped f (y ∷ ys) x c =
    ⊎_elim (λ e. subst (λ z. Contains (f y ∷ map f ys) (f z)) e (first_member (f y) (map f ys)))
    (λ k. later_member (f y) (f x) (map f ys) (mapped f ys x k)) (member_cases y x ys c)

pub map_append : {X Y : Type 0} (f : X → Y) (xs ys : List X) → map f (xs ++ ys) ≡ map f xs ++ map f ys
map_append f [] ys = refl
map_append f (x ∷ xs) ys = ap (λ l. f x ∷ l) (map_append f xs ys)

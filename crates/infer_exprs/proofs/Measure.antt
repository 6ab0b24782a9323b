-- The largest size among groups that are referred to.
use Rattle.std.proofs.Common.{◌≡◌, ℕ, zero, suc, ◌<◌, ◌≤◌, List, [], ◌∷◌, length, map, get_or, sym, subst, arith}
use Rattle.std.specs.Borrow.{Bor}
use denote.Param.Weighed.{most}

pub at_most_ref : {X : Type 0} (f : X → ℕ) (xs : List (Bor X)) (i : ℕ) (x : Bor X) → i < length xs → x ≡ get_or xs i x
    → f x.now ≤ most f (map (λ (y : Bor X). y.now) xs)
at_most_ref f [] i x l e = absurd (omega (arith, l))
at_most_ref {X} f (y ∷ ys) zero x l e =
    subst (λ (z : Bor X). f z.now ≤ most f (map (λ (y : Bor X). y.now) (y ∷ ys))) (sym e) (omega arith)
at_most_ref f (y ∷ ys) (suc i) x l e = let h = at_most_ref f ys i x (omega (arith, l)) e in omega (arith, h)

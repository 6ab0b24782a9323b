-- What the code reads of lists.
use Rattle.std.proofs.Common.{◌≡◌, ℕ, zero, suc, ◌<◌, List, [], ◌∷◌, length, map, get_or, refl, sym, ap, ◌∙◌, subst, arith}
use Rattle.std.specs.List.{All, AllByRecursion}
use Rattle.std.proofs.lemmas.List.Elements.{recursion_from_All}
use Rattle.type_walks.specs.Frozen.{cell_at}
use Rattle.type_schemes.specs.declared.frozen.FrozenCell as stored
use Rattle.type_schemes.specs.View.{cell_view}

module _ {X Y : Type 0} (view : X → Y) (P : Y → Type 0) where
  viewed_by : (xs : List X) (i : ℕ) (d : X) → i < length xs → AllByRecursion P (map view xs) → P (view (get_or xs i d))
  viewed_by [] i d l h = absurd (omega arith)
  viewed_by (x ∷ xs) zero d l h = h.0
  viewed_by (x ∷ xs) (suc i) d l h = viewed_by xs i d (omega arith) h.1

  pub viewed_or : (xs : List X) (i : ℕ) (d : X) → i < length xs → All P (map view xs) → P (view (get_or xs i d))
  viewed_or xs i d l h = viewed_by xs i d l (recursion_from_All P (map view xs) h)

  pub viewed_at : (xs : List X) (i : ℕ) (d : X) → i < length xs → d ≡ get_or xs i d → All P (map view xs) → P (view d)
  viewed_at xs i d l e h = subst (λ x. P (view x)) (sym e) (viewed_by xs i d l (recursion_from_All P (map view xs) h))

-- the cell that the code reads
pub cell_read : (cells : List stored.FrozenCell) (i : ℕ) (d : stored.FrozenCell) → i < length cells → d ≡ get_or cells i d → cell_at (map cell_view cells) i ≡ cell_view d
cell_read cells i d l e = go cells i l ∙ ap cell_view (sym e)
  where
    go : (ks : List stored.FrozenCell) (j : ℕ) → j < length ks → cell_at (map cell_view ks) j ≡ cell_view (get_or ks j d)
    go [] j k = absurd (omega arith)
    go (x ∷ ks) zero k = refl
    go (x ∷ ks) (suc j) k = go ks j (omega arith)

-- Lists that grow at their end.
use Rattle.std.proofs.Common.{◌≡◌, ℕ, zero, suc, ◌<◌, List, [], ◌∷◌, ◌++◌, length, map, reverse, refl, sym, ap, ◌∙◌, arith}
use Rattle.std.proofs.lemmas.List.{length_push, map_push, reverse-append, reverse-reverse}
use Rattle.type_walks.specs.Frozen.{FrozenCell, cell_at}

at_before : (cs : List FrozenCell) (c : FrozenCell) (i : ℕ) → i < length cs → cell_at (cs ++ c ∷ []) i ≡ cell_at cs i
at_before [] c i l = absurd (omega arith)
at_before (k ∷ cs) c zero l = refl
at_before (k ∷ cs) c (suc i) l = at_before cs c i (omega arith)

at_last : (cs : List FrozenCell) (c : FrozenCell) → cell_at (cs ++ c ∷ []) (length cs) ≡ c
at_last [] c = refl
at_last (k ∷ cs) c = at_last cs c

module _ (f : ℕ → FrozenCell) where
  -- what is made of variables of which the last stands first
  abbrev pub cells_of : List ℕ → List FrozenCell
  cells_of [] = []
  cells_of (v ∷ older) = cells_of older ++ f v ∷ []

  pub cells_length : (older : List ℕ) → length (cells_of older) ≡ length older
  cells_length [] = refl
  cells_length (v ∷ older) = let e = cells_length older in omega (arith, e, length_push (cells_of older) (f v))

  pub cell_before : (v : ℕ) (older : List ℕ) (i : ℕ) → i < length older → cell_at (cells_of (v ∷ older)) i ≡ cell_at (cells_of older) i
  cell_before v older i l = at_before (cells_of older) (f v) i (omega (arith, l, cells_length older))

  pub cell_last : (v : ℕ) (older : List ℕ) → cell_at (cells_of (v ∷ older)) (length older) ≡ f v
  cell_last v older = ap (cell_at (cells_of (v ∷ older))) (sym (cells_length older)) ∙ at_last (cells_of older) (f v)

  cells_reversed : (older : List ℕ) → map f (reverse older) ≡ cells_of older
  cells_reversed [] = refl
  cells_reversed (v ∷ older) = ap (map f) (reverse_cons v older) ∙ (map_push f (reverse older) v ∙ ap (λ cs. cs ++ f v ∷ []) (cells_reversed older))
    where
      reverse_cons : (v : ℕ) (older : List ℕ) → reverse (v ∷ older) ≡ reverse older ++ v ∷ []
      reverse_cons v older = reverse-append (v ∷ []) older

  pub cells_all : (vs : List ℕ) → map f vs ≡ cells_of (reverse vs)
  cells_all vs = ap (map f) (sym (reverse-reverse vs)) ∙ cells_reversed (reverse vs)

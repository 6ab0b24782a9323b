-- The variables of an order.
use Rattle.std.proofs.Common.{◌≡◌, ℕ, ◌<◌, List, [], ◌∷◌, ◌++◌, length, get_or, false, ⊎_elim, ap, ◌∙◌, subst}
use Rattle.std.specs.List.{AllByRecursion}
use Rattle.std.proofs.lemmas.List.Elements.{recursion_from_All}
use Rattle.type_store.specs.Store.{Slot, Store, slot_at}
use Rattle.type_store.specs.declared.slot.Slot as stored
use Rattle.type_store.specs.declared.slot.Cell as cells
use Rattle.type_store.specs.View.{cell_view, store_view}
use Rattle.type_schemes.proofs.Entering.{slot_is}
use Rattle.type_store.specs.Shape.{IsStore, parts_of}
use Rattle.type_store.specs.Steps.{is_bound}
use Rattle.type_schemes.specs.Ends.{end_of}
use Rattle.type_schemes.specs.Order.{IsListed, PartsFirst}
use Rattle.type_schemes.proofs.Types.{listed_cases, parts_listed}
use Rattle.type_schemes.specs.Rows.{CanRead}

module _ (s : Store) where
  pub listed_inside : (older : List ℕ) (v : ℕ) → PartsFirst 0 s older → IsListed older v → v < length s
  listed_inside [] v first h = absurd (let e = h.1 in cc)
  listed_inside (u ∷ older) v first h =
      ⊎_elim (λ e. subst (λ x. x < length s) e first.0.inside) (λ k. listed_inside older v first.1 k)
      (listed_cases u older v h)

  pub listed_free : (older : List ℕ) (v : ℕ) → PartsFirst 0 s older → IsListed older v
      → is_bound (slot_at s v).cell ≡ false
  listed_free [] v first h = absurd (let e = h.1 in cc)
  listed_free (u ∷ older) v first h =
      ⊎_elim (λ e. subst (λ x. is_bound (slot_at s x).cell ≡ false) e first.0.end) (λ k. listed_free older v first.1 k)
      (listed_cases u older v h)

  both : (older ws : List ℕ) → AllByRecursion (λ w. w < length s) ws
      → AllByRecursion (λ w. IsListed older (end_of s w)) ws
      → AllByRecursion (CanRead s older) ws
  both older [] i l = tt
  both older (w ∷ ws) i l = (record { inside = i.0; listed = l.0 }, both older ws i.1 l.1)

  -- the types of the parts of a variable can be read
  pub parts_known : IsStore s → (older : List ℕ) (v : ℕ) → PartsFirst 0 s older → IsListed older v
      → AllByRecursion (CanRead s older) (parts_of (slot_at s v).cell)
  parts_known whole older v first h =
      both older (parts_of (slot_at s v).cell)
      (recursion_from_All (λ w. w < length s) (parts_of (slot_at s v).cell)
      (whole.each v (listed_inside older v first h)).inside)
      (parts_listed s older v first h)

pub known_first : (s : Store) (older xs ys : List ℕ) → AllByRecursion (CanRead s older) (xs ++ ys)
    → AllByRecursion (CanRead s older) xs
known_first s older [] ys h = tt
known_first s older (x ∷ xs) ys h = (h.0, known_first s older xs ys h.1)

-- the cell that the code reads
pub cell_read : (slots : List stored.Slot) (s : Store) (i : ℕ) (d : stored.Slot) (k : cells.Cell) → store_view slots ≡ s
    → i < length s → d ≡ get_or slots i d
    → d.cell ≡ k → (slot_at s i).cell ≡ cell_view k
cell_read slots s i d k e l h c = ap (λ (x : Slot). x.cell) (slot_is slots s i d e l h) ∙ ap cell_view c

-- Variables of which something is known as they are made, as the program keeps the slots.
use Rattle.std.proofs.Common.{◌≡◌, ℕ, ◌<◌, List, [], ◌∷◌, ◌++◌, length, Option, refl, sym, ap, ◌∙◌, subst}
use Rattle.std.specs.List.{All}
use Rattle.elm_type.specs.declared.head.Head.{Head}
use Rattle.type_store.specs.Store.{FieldSlot, Built, Row, field_names}
use Rattle.type_store.specs.Shape.{IsCell, IsStore, parts_of}
use Rattle.type_store.specs.Solutions.{Becomes, Clash}
use Rattle.type_store.specs.Steps.{put, rest_asks}
use Rattle.type_store.specs.Levels.{IsLowered, IsLevelled}
use Rattle.type_store.specs.Adding.{IsReady, Settled}
use Rattle.type_store.specs.Reaching.{GoesOnAt}
use Rattle.type_store.specs.declared.slot.Slot as kept
use Rattle.type_store.specs.declared.ask.Ask as stored
use Rattle.type_store.specs.View.{store_view, work_view}
use Rattle.type_store.proofs.Undoing.{length_view}
use Rattle.type_store.proofs.Joins.{cell_moved}
use Rattle.type_store.proofs.Making.{made_whole}
use Rattle.type_store.proofs.Rowing.{row_ready, row_becomes, row_clashes, row_goes}

pub did_built : (items new : List kept.Slot) (h : Head) (ws : List ℕ) (d : ℕ) → IsStore (store_view items) → All (λ w. w < length items) ws
    → IsLowered (store_view items ++ put (Built h ws) d ∷ []) (store_view new) → IsLevelled (store_view new) → IsStore (store_view new)
did_built items new h ws d whole inside low level =
    made_whole (store_view items) (Built h ws) d whole (subst (λ n. All (λ w. w < n) ws) (sym (length_view items)) inside) (λ r e. absurd (cc)) (store_view new) tt (refl, tt) low level

pub row_cell : (n : ℕ) (fs : List FieldSlot) (end : Option ℕ) → IsCell 0 (Row fs end) → IsCell n (Row fs end)
row_cell n fs end = cell_moved 0 n (Row fs end) refl

module _ (items new : List kept.Slot) (fs : List FieldSlot) (end : Option ℕ) (d : ℕ) (before work : List stored.Ask) (whole : IsStore (store_view items))
    (inside : All (λ w. w < length items) (parts_of (Row fs end))) (cell : IsCell 0 (Row fs end)) (low : IsLowered (store_view items ++ put (Row fs end) d ∷ []) (store_view new))
    (is : work_view work ≡ work_view before ++ rest_asks end (field_names fs)) (none : before ≡ []) where
  asks_are : work_view work ≡ rest_asks end (field_names fs)
  asks_are = is ∙ ap (λ as_. work_view as_ ++ rest_asks end (field_names fs)) none

  inside_view : All (λ w. w < length (store_view items)) (parts_of (Row fs end))
  inside_view = subst (λ n. All (λ w. w < n) (parts_of (Row fs end))) (sym (length_view items)) inside

  cell_view_at : IsCell (length (store_view items)) (Row fs end)
  cell_view_at = row_cell (length (store_view items)) fs end cell

  pub did_row_ready : IsLevelled (store_view new) → IsReady (store_view new) (work_view work)
  did_row_ready level = subst (IsReady (store_view new)) (sym asks_are) (row_ready (store_view items) fs end d whole inside_view cell_view_at (store_view new) low level)

  pub did_row_becomes : (last : List kept.Slot) → Settled (store_view new) (work_view work) (store_view last) → Becomes (store_view items ++ put (Row fs end) d ∷ []) [] (store_view last) []
  did_row_becomes last r =
      row_becomes (store_view items) fs end d whole inside_view cell_view_at (store_view new) low (store_view last) (subst (λ as_. Settled (store_view new) as_ (store_view last)) asks_are r)

  pub did_row_clash : Clash (store_view new) (work_view work) → Clash (store_view items) (rest_asks end (field_names fs))
  did_row_clash c = row_clashes (store_view items) fs end d whole inside_view cell_view_at (store_view new) low (subst (Clash (store_view new)) asks_are c)

  pub did_row_goes : (last : List kept.Slot) → Settled (store_view new) (work_view work) (store_view last) → GoesOnAt d (store_view items) (store_view last)
  did_row_goes last r =
      row_goes (store_view items) fs end d whole inside_view cell_view_at (store_view new) low (store_view last) (subst (λ as_. Settled (store_view new) as_ (store_view last)) asks_are r)

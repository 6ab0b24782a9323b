-- What is not on the trail is as it was.
use Rattle.std.proofs.Common.{◌≡◌, ℕ, ◌-◌, ◌<◌, ◌≤◌, List, [], ◌∷◌, length, set, take, ⊎_elim, refl, sym, ap, ◌∙◌, arith}
use Rattle.std.specs.List.{Contains}
use Rattle.std.proofs.lemmas.Bool.{cases_lt}
use Rattle.std.proofs.lemmas.Option.{unwrap_or-slice_get}
use Rattle.std.proofs.lemmas.List.{get_or-take, set_past}
use Rattle.std.proofs.lemmas.List.Elements.{Contains-append_right}
use Rattle.elm_type.specs.Types.{Kind}
use Rattle.type_store.specs.Store.{Slot, Store, slot_at, open_slot}
use Rattle.type_store.specs.Steps.{Noted, Was, OfClass, OneMore, undone, written, with_kind}
use Rattle.type_store.proofs.Turns.{Which, Yes, Not, which, slot_same, slot_other}
use Rattle.type_store.proofs.Parts.{slot_past}

-- a kind that is written keeps the cells
cell_kept : (s : Store) (v : ℕ) (k : Kind) (w : ℕ) → (slot_at (set s v (with_kind (slot_at s v) k)) w).cell ≡ (slot_at s w).cell
cell_kept s v k w = go (which w v)
  where
    go : Which w v → (slot_at (set s v (with_kind (slot_at s v) k)) w).cell ≡ (slot_at s w).cell
    go (Yes e) = ⊎_elim
        (λ l. ap (λ u. (slot_at (set s v (with_kind (slot_at s v) k)) u).cell) e ∙
        (ap (λ (x : Slot). x.cell) (slot_same s v (with_kind (slot_at s v) k) l) ∙ sym (ap (λ u. (slot_at s u).cell) e)))
        (λ h. ap (λ t. (slot_at t w).cell) (set_past s v (with_kind (slot_at s v) k) h)) (cases_lt v (length s))
    go (Not n) = ap (λ (x : Slot). x.cell) (slot_other s v w (with_kind (slot_at s v) k) n)

pub undone_other : (s : Store) (trail : List Noted) (v : ℕ) → (Contains (written trail) v → ⊥) → (slot_at (undone s trail) v).cell ≡ (slot_at s v).cell
undone_other s [] v n = refl
undone_other s (Was u x ∷ cs) v n =
    ap (λ (y : Slot). y.cell) (slot_other (undone s cs) u v x (λ e. n (0, omega arith, sym e))) ∙
    undone_other s cs v (λ q. n (Contains-append_right (u ∷ []) (written cs) v q))
undone_other s (OfClass u c ∷ cs) v n =
    cell_kept (undone s cs) u (record { class = c; lacks = (slot_at (undone s cs) u).kind.lacks }) v ∙ undone_other s cs v n
undone_other s (OneMore u ∷ cs) v n =
    cell_kept (undone s cs) u (record { class = (slot_at (undone s cs) u).kind.class; lacks = take (length (slot_at (undone s cs) u).kind.lacks - 1) (slot_at (undone s cs) u).kind.lacks }) v
    ∙ undone_other s cs v n

slot_taken : (n : ℕ) (s : Store) (v : ℕ) → v < n → slot_at (take n s) v ≡ slot_at s v
slot_taken n s v l = unwrap_or-slice_get (take n s) v open_slot ∙ (get_or-take n s v open_slot l ∙ sym (unwrap_or-slice_get s v open_slot))

-- what was not changed has its cell
pub same_cells : (old new : Store) (trail : List Noted) (changed : List ℕ) → take (length old) (undone new trail) ≡ old → length old ≤ length new
    → ((v : ℕ) → v < length new → Contains (written trail) v → Contains changed v) → ((v : ℕ) → length old ≤ v → v < length new → Contains changed v)
    → (v : ℕ) → (Contains changed v → ⊥) → (slot_at new v).cell ≡ (slot_at old v).cell
same_cells old new trail changed back grows noted made v n = ⊎_elim old_cell new_cell (cases_lt v (length old))
  where
    old_cell : v < length old → (slot_at new v).cell ≡ (slot_at old v).cell
    old_cell l =
        sym (undone_other new trail v (λ q. n (noted v (omega (arith, l, grows)) q))) ∙
        (sym (ap (λ (x : Slot). x.cell) (slot_taken (length old) (undone new trail) v l)) ∙ ap (λ s. (slot_at s v).cell) back)

    new_cell : length old ≤ v → (slot_at new v).cell ≡ (slot_at old v).cell
    new_cell h = ⊎_elim
        (λ l. absurd (n (made v h l)))
        (λ k. ap (λ (x : Slot). x.cell) (slot_past new v k) ∙ sym (ap (λ (x : Slot). x.cell) (slot_past old v h))) (cases_lt v (length new))

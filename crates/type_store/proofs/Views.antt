-- What the program reads of slots.
use Rattle.std.proofs.Common.{◌≡◌, ℕ, zero, suc, ◌-◌, ◌<◌, ◌≤◌, List, [], ◌∷◌, ◌++◌, length, get_or, map, slice_get, Option, Some, refl, sym, ap, ◌∙◌, arith}
use Rattle.std.proofs.Common.{set}
use Rattle.std.proofs.lemmas.List.{map-set}
use Rattle.type_store.specs.Store as plain
use Rattle.type_store.specs.Store.{end_slots, slot_at, open_slot}
use Rattle.type_store.specs.Levels.{with_depth}
use Rattle.type_store.specs.View.{field_view, slot_view, store_view}
use Rattle.type_store.specs.declared.slot.FieldSlot.{FieldSlot}
use Rattle.type_store.specs.declared.slot.Slot.{Slot}

pub row_part : (fields : List FieldSlot) (end : Option ℕ) (d : FieldSlot) (place : ℕ) → place < length fields
    → slice_get (map (λ f. f.1) (map field_view fields) ++ end_slots end) place ≡ Some (get_or fields place d).slot
row_part [] end d place l = absurd (omega (arith, l))
row_part (f ∷ fields) end d zero l = refl
row_part (f ∷ fields) end d (suc place) l = row_part fields end d place (omega (arith, l))

pub end_part : (fields : List FieldSlot) (end : Option ℕ) (place : ℕ) → length fields ≤ place
    → slice_get (map (λ f. f.1) (map field_view fields) ++ end_slots end) place ≡ slice_get (end_slots end) (place - length fields)
end_part [] end place l = ap (slice_get (end_slots end)) (omega arith)
end_part (f ∷ fields) end zero l = absurd (omega (arith, l))
end_part (f ∷ fields) end (suc place) l =
    end_part fields end place (omega (arith, l)) ∙ ap (slice_get (end_slots end)) (omega arith)

-- the slot of a number
pub slot_read : (slots : List Slot) (v : ℕ) (d : Slot) → v < length slots → slot_at (store_view slots) v ≡ slot_view (get_or slots v d)
slot_read [] v d l = absurd (omega (arith, l))
slot_read (x ∷ slots) zero d l = refl
slot_read (x ∷ slots) (suc v) d l = slot_read slots v d (omega (arith, l))

-- a depth that is written
pub depth_written : (slots : List Slot) (v : ℕ) (r : Slot) (d : ℕ) → v < length slots
    → store_view (set slots v (record { cell = (get_or slots v r).cell; class = (get_or slots v r).class; lacks = (get_or slots v r).lacks; depth = d }))
    ≡ with_depth (store_view slots) v d
depth_written slots v r d l =
    map-set slot_view slots v (record { cell = (get_or slots v r).cell; class = (get_or slots v r).class; lacks = (get_or slots v r).lacks; depth = d })
    ∙ ap (λ (x : plain.Slot). set (store_view slots) v (record { cell = x.cell; kind = x.kind; depth = d })) (sym (slot_read slots v r l))

-- The fields of two rows are asked to be the same, in turn.
use Rattle.std.proofs.Common.{◌≡◌, ℕ, ◌+◌, ◌<◌, List, [], ◌∷◌, ◌++◌, length, get_or, map, take, sym, ap, ◌∙◌, arith}
use Rattle.std.proofs.lemmas.List.{get_or-map, length-map}
use Rattle.type_store.specs.Store.{FieldSlot, field_slots}
use Rattle.type_store.specs.Solutions.{Ask, Same}
use Rattle.type_store.specs.Steps.{sames}
use Rattle.type_store.specs.declared.slot.FieldSlot as stored_field
use Rattle.type_store.specs.View.{field_view}
use Rattle.type_store.proofs.Undoing.{sames_push}

pub field_slot_at : (fields : List stored_field.FieldSlot) (i : ℕ) (d : stored_field.FieldSlot) → i < length fields → get_or (field_slots (map field_view fields)) i 0 ≡ (get_or fields i d).slot
field_slot_at fields i d l =
    get_or-map (λ (f : FieldSlot). f.1) (map field_view fields) i (field_view d) 0 (omega (arith, l, length-map fields field_view))
    ∙ ap (λ (f : FieldSlot). f.1) (get_or-map field_view fields i d (field_view d) l)

pub field_slots_length : (fields : List stored_field.FieldSlot) → length (field_slots (map field_view fields)) ≡ length fields
field_slots_length fields = length-map (map field_view fields) (λ (f : FieldSlot). f.1) ∙ length-map fields field_view

-- the fields at one place more are to be the same
pub fields_push : (before now after : List Ask) (first second : List stored_field.FieldSlot) (i : ℕ) (f g : stored_field.FieldSlot) → i < length first → length first ≡ length second
    → now ≡ before ++ sames (take i (field_slots (map field_view first))) (take i (field_slots (map field_view second)))
    → after ≡ now ++ Same (get_or first i f).slot (get_or second i g).slot ∷ []
    → after ≡ before ++ sames (take (i + 1) (field_slots (map field_view first))) (take (i + 1) (field_slots (map field_view second)))
fields_push before now after first second i f g l e a b =
    sames_push before now after (field_slots (map field_view first)) (field_slots (map field_view second)) i 0
    (omega (arith, l, field_slots_length first)) (omega (arith, e, field_slots_length first, field_slots_length second)) a
    (b ∙ (ap (λ v. now ++ Same v (get_or second i g).slot ∷ []) (sym (field_slot_at first i f l))
    ∙ ap (λ v. now ++ Same (get_or (field_slots (map field_view first)) i 0) v ∷ []) (sym (field_slot_at second i g (omega (arith, l, e))))))

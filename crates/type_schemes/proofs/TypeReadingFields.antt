-- The variables of fields.
use Rattle.std.proofs.Common.{◌≡◌, ℕ, zero, suc, ◌<◌, List, [], ◌∷◌, length, map, get_or, sym, subst, arith}
use Rattle.std.specs.List.{All, AllByRecursion}
use Rattle.std.proofs.lemmas.List.Elements.{recursion_from_All}
use Rattle.type_store.specs.declared.slot.FieldSlot as stored_field
use Rattle.type_store.specs.View as stored
use Rattle.type_store.specs.Store.{field_slots}

module _ (P : ℕ → Type 0) where
  field_by : (fs : List stored_field.FieldSlot) (i : ℕ) (d : stored_field.FieldSlot) → i < length fs
      → AllByRecursion P (field_slots (map stored.field_view fs)) → P (get_or fs i d).slot
  field_by [] i d l h = absurd (omega arith)
  field_by (f ∷ fs) zero d l h = h.0
  field_by (f ∷ fs) (suc i) d l h = field_by fs i d (omega arith) h.1

  pub field_at : (fs : List stored_field.FieldSlot) (i : ℕ) (d : stored_field.FieldSlot) → i < length fs → d ≡ get_or fs i d
      → All P (field_slots (map stored.field_view fs)) → P d.slot
  field_at fs i d l e h =
      subst (λ (f : stored_field.FieldSlot). P f.slot) (sym e) (field_by fs i d l (recursion_from_All P (field_slots (map stored.field_view fs)) h))

-- Slots that the code reads.
use Rattle.std.proofs.Common.{◌≡◌, ℕ, zero, suc, ◌+◌, ◌<◌, List, [], ◌∷◌, ◌++◌, length, map, get_or, reverse, Option, None, refl, sym, ap, ◌∙◌, subst, arith}
use Rattle.std.specs.List.{All, AllByRecursion}
use Rattle.std.proofs.lemmas.List.{reverse-reverse}
use Rattle.std.proofs.lemmas.List.Elements.{recursion_from_All, All-from_recursion}
use Rattle.type_store.specs.declared.slot.FieldSlot as stored_field
use Rattle.type_store.specs.View as stored
use Rattle.type_store.specs.Store.{Slot, Store, slot_at, field_slots}
use Rattle.type_store.specs.Shape.{IsStore, parts_of}
use Rattle.std.specs.Prelude.{◌⊎◌}
use Rattle.std.proofs.Common.{inl, inr}
use Rattle.elm_type.specs.Types.{Rigid}
use Rattle.type_store.specs.declared.slot.Cell as cells
use Rattle.type_store.specs.declared.slot.Cell.TheVariants as forms
use Rattle.type_walks.specs.Frozen.{Open}
use Rattle.type_schemes.specs.Cells.{cell_of}
use Rattle.type_schemes.specs.Order.{number_in, IsReady, PartsFirst}
use Rattle.type_schemes.specs.Cells.{CanName, NamesAll}
use Rattle.type_schemes.proofs.Ordering.{number_stays}

pub map_twice : {X Y Z : Type 0} (f : Y → Z) (g : X → Y) (xs : List X) → map (λ x. f (g x)) xs ≡ map f (map g xs)
map_twice f g [] = refl
map_twice f g (x ∷ xs) = ap (λ ys. f (g x) ∷ ys) (map_twice f g xs)

module _ (P : ℕ → Type 0) where
  field_by : (fs : List stored_field.FieldSlot) (i : ℕ) (d : stored_field.FieldSlot) → i < length fs
      → AllByRecursion P (field_slots (map stored.field_view fs)) → P (get_or fs i d).slot
  field_by [] i d l h = absurd (omega arith)
  field_by (f ∷ fs) zero d l h = h.0
  field_by (f ∷ fs) (suc i) d l h = field_by fs i d (omega arith) h.1

  -- the variable of a field
  pub field_at : (fs : List stored_field.FieldSlot) (i : ℕ) (d : stored_field.FieldSlot) → i < length fs → d ≡ get_or fs i d
      → All P (field_slots (map stored.field_view fs)) → P d.slot
  field_at fs i d l e h =
      subst (λ (f : stored_field.FieldSlot). P f.slot) (sym e) (field_by fs i d l (recursion_from_All P (field_slots (map stored.field_view fs)) h))

-- ---- all that stands in order can be named

more_ready : (floor : ℕ) (s : Store) (v : ℕ) (older : List ℕ) → number_in older v ≡ None → (w : ℕ) → IsReady floor s older w → IsReady floor s (v ∷ older) w
more_ready floor s v older n w r d = let x = r d in (x.0, number_stays v older _ x.0 n x.1)

module _ (d : ℕ) (s : Store) (whole : IsStore s) where
  can_names : (full older : List ℕ) → ((w : ℕ) → IsReady (d + 1) s older w → IsReady (d + 1) s full w) → (ws : List ℕ)
      → AllByRecursion (λ w. w < length s) ws → AllByRecursion (IsReady (d + 1) s older) ws → AllByRecursion (CanName d s full) ws
  can_names full older up [] i r = tt
  can_names full older up (w ∷ ws) i r = (record { inside = i.0; ready = up w r.0 }, can_names full older up ws i.1 r.1)

  names_all : (full older : List ℕ) → ((w : ℕ) → IsReady (d + 1) s older w → IsReady (d + 1) s full w) → PartsFirst (d + 1) s older
      → AllByRecursion (NamesAll d s full) older
  names_all full [] up first = tt
  names_all full (v ∷ older) up first = (
    record {
      inside = first.0.inside;
      parts =
          All-from_recursion (CanName d s full) (parts_of (slot_at s v).cell)
          (can_names full older (λ w r. up w (more_ready (d + 1) s v older first.0.new w r)) (parts_of (slot_at s v).cell)
          (recursion_from_All (λ w. w < length s) (parts_of (slot_at s v).cell) (whole.each v first.0.inside).inside) first.0.parts);
    },
    names_all full older (λ w r. up w (more_ready (d + 1) s v older first.0.new w r)) first.1,
  )

  all_append : {X : Type 0} (P : X → Type 0) (xs ys : List X) → AllByRecursion P xs → AllByRecursion P ys → AllByRecursion P (xs ++ ys)
  all_append P [] ys h k = k
  all_append P (x ∷ xs) ys h k = (h.0, all_append P xs ys h.1 k)

  all_reverse : {X : Type 0} (P : X → Type 0) (xs : List X) → AllByRecursion P xs → AllByRecursion P (reverse xs)
  all_reverse P [] h = tt
  all_reverse P (x ∷ xs) h =
      subst (AllByRecursion P) (sym (Rattle.std.proofs.lemmas.List.reverse-append (x ∷ []) xs)) (all_append P (reverse xs) (x ∷ []) (all_reverse P xs h.1) (h.0, tt))

  pub each_names : (vs : List ℕ) → PartsFirst (d + 1) s (reverse vs) → All (NamesAll d s (reverse vs)) vs
  each_names vs first =
      All-from_recursion (NamesAll d s (reverse vs)) vs
      (subst (AllByRecursion (NamesAll d s (reverse vs))) (reverse-reverse vs)
      (all_reverse (NamesAll d s (reverse vs)) (reverse vs) (names_all (reverse vs) (reverse vs) (λ w r. r) first)))

-- a cell of one of the forms that name no parts, or one other
pub open_cell : (k : cells.Cell)
    → (k ≡ forms.Open) ⊎ (((x : ℕ) × (k ≡ forms.Bound x)) ⊎ ((x : Rigid) × (k ≡ forms.Constant x)))
    → (d : ℕ) (s : Store) (N : ℕ → Option ℕ) (slot : Slot) → slot.cell ≡ stored.cell_view k → cell_of d s N slot slot.cell ≡ Open slot.kind
open_cell k h d s N slot e = elim h [
  | inl a ↦ ap (cell_of d s N slot) (e ∙ ap stored.cell_view a)
  | inr r ↦ elim r [
    | inl p ↦ ap (cell_of d s N slot) (e ∙ ap stored.cell_view p.1)
    | inr t ↦ ap (cell_of d s N slot) (e ∙ ap stored.cell_view t.1)
  ]
]

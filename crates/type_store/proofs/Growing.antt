-- What was written is undone, where slots were made too.
use Rattle.std.proofs.Common.{◌≡◌, ℕ, ◌≤◌, List, [], ◌∷◌, ◌++◌, length, take, drop, sym, ap, ◌∙◌, arith}
use Rattle.std.proofs.lemmas.List.{take_all, take-take, map_push}
use Rattle.std.proofs.Math.Seq.{take-append_seam}
use Rattle.elm_type.specs.declared.class.Class.TheVariants.{Any}
use Rattle.elm_type.specs.declared.class.Class.{Class}
use Rattle.elm_type.specs.Types.{Name}
use Rattle.type_store.specs.Store.{Cell, Slot, Store, Open}
use Rattle.type_store.specs.Steps.{Noted, put, undone}
use Rattle.type_store.specs.declared.slot.Slot as stored
use Rattle.type_store.specs.declared.slot.Cell.TheVariants as forms
use Rattle.type_store.specs.View.{cell_view, slot_view, store_view}
use Rattle.type_store.proofs.Undoing.{length_view, take_undone, undone_length}

pub undone_same : (slots : List stored.Slot) (cs : List Noted) → take (length slots) (undone (store_view slots) cs) ≡ undone (store_view slots) cs
undone_same slots cs = take_all (length slots) (undone (store_view slots) cs) (omega (arith, undone_length (store_view slots) cs, length_view slots))

-- nothing was made: what was written is undone
pub undone_written : (old new : List stored.Slot) (cs ds : List Noted) → undone (store_view new) ds ≡ undone (store_view old) cs
    → take (length old) (undone (store_view new) ds) ≡ undone (store_view old) cs
undone_written old new cs ds e = ap (take (length old)) e ∙ undone_same old cs

-- slots were made
pub undone_grown : (old new : List stored.Slot) (cs : List Noted) → take (length old) (store_view new) ≡ store_view old
    → take (length old) (undone (store_view new) cs) ≡ undone (store_view old) cs
undone_grown old new cs k = take_undone (length old) (store_view new) cs ∙ ap (λ t. undone t cs) k

-- slots were made, and then written
pub undone_later : (old new last : List stored.Slot) (cs ds : List Noted) → take (length old) (store_view new) ≡ store_view old → undone (store_view last) ds ≡ undone (store_view new) cs
    → take (length old) (undone (store_view last) ds) ≡ undone (store_view old) cs
undone_later old new last cs ds k e = ap (take (length old)) e ∙ undone_grown old new cs k

-- one step after others
pub undone_on : (n m : ℕ) (old mid new : Store) (cs ds es : List Noted) → n ≤ m → take m (undone new es) ≡ undone mid ds → take n (undone mid ds) ≡ undone old cs → take n (undone new es) ≡ undone old cs
undone_on n m old mid new cs ds es l e h = sym (take-take n m (undone new es) l) ∙ (ap (take n) e ∙ h)

-- after a slot was written, steps in which slots were made
pub undone_after : (old mid new : List stored.Slot) (cs ds es : List Noted) → length mid ≡ length old → undone (store_view mid) ds ≡ undone (store_view old) cs
    → take (length mid) (undone (store_view new) es) ≡ undone (store_view mid) ds → take (length old) (undone (store_view new) es) ≡ undone (store_view old) cs
undone_after old mid new cs ds es l e h = ap (λ n. take n (undone (store_view new) es)) (sym l) ∙ (h ∙ e)

-- ---- a slot is made

abbrev slot_of : Cell → Class → List Name → ℕ → Slot
slot_of c k xs d = record { cell = c; kind = record { class = k; lacks = xs }; depth = d }

pub made_slot : (old new : List stored.Slot) (x : stored.Slot) (d : ℕ) → new ≡ old ++ x ∷ [] → x.cell ≡ forms.Open → x.class ≡ Any → x.lacks.items ≡ [] → x.depth ≡ d
    → store_view new ≡ store_view old ++ put Open d ∷ []
made_slot old new x d e c k m f = ap store_view e ∙ (map_push slot_view old x ∙ ap (λ y. store_view old ++ y ∷ []) view)
  where
    view : slot_view x ≡ put Open d
    view =
        ap (λ y. slot_of (cell_view y) x.class x.lacks.items x.depth) c ∙
        (ap (λ y. slot_of Open y x.lacks.items x.depth) k ∙ (ap (λ y. slot_of Open Any y x.depth) m ∙ ap (λ y. slot_of Open Any [] y) f))

pub kept_more : (old new : List stored.Slot) (s : List Slot) → store_view new ≡ store_view old ++ s → take (length old) (store_view new) ≡ store_view old
kept_more old new s e = ap (λ n. take n (store_view new)) (sym (length_view old)) ∙ (ap (take (length (store_view old))) e ∙ take-append_seam (store_view old) s)

pub kept_all : (old : List stored.Slot) → take (length old) (store_view old) ≡ store_view old
kept_all old = take_all (length old) (store_view old) (omega (arith, length_view old))

-- ---- what a call wrote to the slots of a vector

pub back : (items new : List stored.Slot) (n : ℕ) → n ≡ length items → length new ≡ length items → take n (new ++ drop (length new) items) ≡ new
back items new n e f = ap (λ k. take k (new ++ drop (length new) items)) (e ∙ sym f) ∙ take-append_seam new (drop (length new) items)

-- what a call wrote through the slots of a vector is undone
pub undone_through : (items mid new : List stored.Slot) (n : ℕ) (cs ds : List Noted) → n ≡ length items → length new ≡ length items → mid ≡ items → undone (store_view new) ds ≡ undone (store_view mid) cs
    → take (length items) (undone (store_view (take n (new ++ drop (length new) items))) ds) ≡ undone (store_view items) cs
undone_through items mid new n cs ds e f g h =
    ap (λ xs. take (length items) (undone (store_view xs) ds)) (back items new n e f) ∙
    undone_written items new cs ds (h ∙ ap (λ xs. undone (store_view xs) cs) g)

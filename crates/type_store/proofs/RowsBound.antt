-- Two rows of which one was bound to the other, as the program does it.
use Rattle.std.proofs.Common.{◌≡◌, ℕ, ◌<◌, List, [], ◌∷◌, ◌++◌, length, map, set, Option, sym, ap, subst, arith, All}
use Rattle.std.proofs.lemmas.List.{length-set}
use Rattle.std.proofs.lemmas.List.Elements.{All-weaker}
use Rattle.type_store.specs.Store.{FieldSlot, Bound, Row, Store, slot_at, field_names, field_slots, end_slots}
use Rattle.type_store.specs.Solutions.{Ask, Same, Clash}
use Rattle.type_store.specs.Shape.{Ascending, IsCell}
use Rattle.type_store.specs.Steps.{IsGraph, Stepped, kind_asks, sames, put, GathersAll, GathersTwice, Split}
use Rattle.type_store.specs.Ends.{Ended, NoEnds, IsRest}
use Rattle.type_store.specs.declared.slot.Slot as stored
use Rattle.type_store.specs.declared.slot.FieldSlot as stored_field
use Rattle.type_store.specs.declared.gather.Gathered.{Gathered}
use Rattle.type_store.specs.View.{GatheredIs, field_view, store_view}
use Rattle.type_store.proofs.Turns.{all_left, all_right}
use Rattle.type_store.proofs.Undoing.{length_view}
use Rattle.type_store.proofs.Joins.{graph_bound}
use Rattle.type_store.proofs.Gathering.{row_rises}
use Rattle.type_store.proofs.RowJoins.{row_there, left_rest, right_rest, first_twice, second_twice, rows_never, did_rows}

-- the second row was bound to the first
pub record BoundRows (old new : List stored.Slot) (a b : ℕ) (fa fb : List FieldSlot) (ea eb : Option ℕ) : Type 0 where
  pub low : a < b
  pub inside : b < length old
  pub graph : IsGraph (store_view old)
  pub first : (slot_at (store_view old) a).cell ≡ Row fa ea
  pub second : (slot_at (store_view old) b).cell ≡ Row fb eb
  pub bound : store_view new ≡ set (store_view old) b (put (Bound a) (slot_at (store_view old) b).depth)

pub bound_rows : (old new xs ys : List stored.Slot) (a b : ℕ) (fa fb : List FieldSlot) (ea eb : Option ℕ) → a < b → b < length old → IsGraph (store_view old)
    → xs ≡ old → (slot_at (store_view xs) a).cell ≡ Row fa ea → ys ≡ old → (slot_at (store_view ys) b).cell ≡ Row fb eb
    → store_view new ≡ set (store_view old) b (put (Bound a) (slot_at (store_view old) b).depth) → BoundRows old new a b fa fb ea eb
bound_rows old new xs ys a b fa fb ea eb low l g dx rx dy ry q = record {
  low = low;
  inside = l;
  graph = g;
  first = subst (λ (zs : List stored.Slot). (slot_at (store_view zs) a).cell ≡ Row fa ea) dx rx;
  second = subst (λ (zs : List stored.Slot). (slot_at (store_view zs) b).cell ≡ Row fb eb) dy ry;
  bound = q;
}

-- what was gathered, of the same slots and fields
pub gathered_as : (xs ys : List stored.Slot) (fs gs : List stored_field.FieldSlot) (end : Option ℕ) (o p : Option Gathered) → xs ≡ ys → fs ≡ gs → o ≡ p
    → GatheredIs (store_view xs) (map field_view fs) end o → GatheredIs (store_view ys) (map field_view gs) end p
gathered_as xs ys fs gs end o p d e f h =
    subst (λ (zs : List stored.Slot). GatheredIs (store_view zs) (map field_view gs) end p) d
    (subst (λ (hs : List stored_field.FieldSlot). GatheredIs (store_view xs) (map field_view hs) end p) e
    (subst (λ (q : Option Gathered). GatheredIs (store_view xs) (map field_view fs) end q) f h))

pub split_as : (as_ bs A B : List stored_field.FieldSlot) (ca cb L R : List FieldSlot) → as_ ≡ A → bs ≡ B → Split (map field_view as_) (map field_view bs) ca cb L R → Split (map field_view A) (map field_view B) ca cb L R
split_as as_ bs A B ca cb L R d e h =
    subst (λ (xs : List stored_field.FieldSlot). Split (map field_view xs) (map field_view B) ca cb L R) d
    (subst (λ (ys : List stored_field.FieldSlot). Split (map field_view as_) (map field_view ys) ca cb L R) e h)

module _ (old new : List stored.Slot) (a b : ℕ) (fa fb : List FieldSlot) (ea eb : Option ℕ) (r : BoundRows old new a b fa fb ea eb) where
  abbrev s : Store
  s = store_view old

  abbrev t : Store
  t = store_view new

  abbrev d : ℕ
  d = (slot_at (store_view old) b).depth

  there : b < length s
  there = omega (arith, length_view old, r.inside)

  pub same_length : length new ≡ length old
  same_length = omega (arith, length_view new, length_view old, ap (λ (u : Store). length u) r.bound, length-set s b (put (Bound a) d))

  pub graph_there : IsGraph t
  graph_there = subst IsGraph (sym r.bound) (graph_bound s a b d r.low there r.graph)

  pub graph_at : (xs : List stored.Slot) → xs ≡ new → IsGraph (store_view xs)
  graph_at xs e = subst (λ (ys : List stored.Slot). IsGraph (store_view ys)) (sym e) graph_there

  fields_there : (v : ℕ) (fs : List FieldSlot) (end : Option ℕ) → (slot_at s v).cell ≡ Row fs end → All (λ w. w < length t) (field_slots fs)
  fields_there v fs end e = All-weaker (λ w. w < length s) (λ w. w < length t) (λ w i. omega (arith, i, same_length, length_view new, length_view old)) (field_slots fs)
      (all_left (λ w. w < length s) (field_slots fs) (end_slots end) (row_there s v fs end r.graph e))

  ends_there : (v : ℕ) (fs : List FieldSlot) (end : Option ℕ) (xs : List stored.Slot) → (slot_at s v).cell ≡ Row fs end → xs ≡ new → All (λ w. w < length xs) (end_slots end)
  ends_there v fs end xs e f = All-weaker (λ w. w < length s) (λ w. w < length xs)
      (λ w i. omega (arith, i, same_length, length_view old, ap (λ (ys : List stored.Slot). length ys) f)) (end_slots end)
      (all_right (λ w. w < length s) (field_slots fs) (end_slots end) (row_there s v fs end r.graph e))

  pub first_end : (xs : List stored.Slot) → xs ≡ new → All (λ w. w < length xs) (end_slots ea)
  first_end xs e = ends_there a fa ea xs r.first e

  pub second_end : (xs : List stored.Slot) → xs ≡ new → All (λ w. w < length xs) (end_slots eb)
  second_end xs e = ends_there b fb eb xs r.second e

  pub second_rises : Ascending (field_names fb)
  second_rises = row_rises b fb eb (subst (IsCell b) r.second (r.graph.cells b there))

  pub first_clash : GathersTwice t fa ea → Clash s (Same a b ∷ [])
  first_clash h = first_twice s a b d fa fb ea eb r.low there r.first r.second (subst (λ u. GathersTwice u fa ea) r.bound h)

  pub second_clash : GathersTwice t fb eb → Clash s (Same a b ∷ [])
  second_clash h = second_twice s a b d fb eb r.low there r.second (subst (λ u. GathersTwice u fb eb) r.bound h)

  module _ (A B ca cb L R : List FieldSlot) (e f : Option ℕ) (ga : GathersAll t fa ea A e) (gb : GathersAll t fb eb B f) (h : Split A B ca cb L R) where
    pub left_there : IsRest t L e
    left_there = left_rest t fa A B ca cb L R ea e graph_there (fields_there a fa ea r.first) ga h

    pub right_there : IsRest t R f
    right_there = right_rest t fb A B ca cb L R eb f graph_there (fields_there b fb eb r.second) gb h

    pub rows_done : (last : Store) (before one two after : List Ask) → one ≡ before ++ kind_asks b (slot_at s b).kind → two ≡ one ++ sames (field_slots ca) (field_slots cb)
        → Ended t two L R e f last after → Stepped s before (Same a b ∷ []) last after
    rows_done last before one two after p q x =
        did_rows s t last a b fa fb A B ca cb L R ea eb e f before one two after r.low there r.graph r.first r.second r.bound ga gb h p q x

    pub rows_clash : NoEnds t L R e f → Clash s (Same a b ∷ [])
    rows_clash n = rows_never s a b r.low there r.graph fa fb A B ca cb L R ea eb e f r.first r.second
        (subst (λ u. GathersAll u fa ea A e) r.bound ga) (subst (λ u. GathersAll u fb eb B f) r.bound gb) h (subst (λ u. NoEnds u L R e f) r.bound n)

-- What is frozen of variables in order.
use Rattle.std.proofs.Common.{◌≡◌, ℕ, ◌+◌, ◌<◌, ◌≤◌, List, [], ◌∷◌, ◌++◌, length, map, Bool, true, false, cond, Option, Some, None, ⊎_elim, refl, sym, ap, ◌∙◌, subst, arith}
use Rattle.std.specs.Prelude.{nat_le}
use Rattle.std.specs.List.{AllByRecursion, AllZip}
use Rattle.std.proofs.lemmas.Bool.{cases_lt}
use Rattle.std.proofs.lemmas.Bool.Decides.{nat_tests}
use Rattle.std.proofs.lemmas.List.Elements.{recursion_from_All}
use Rattle.type_store.specs.Store as store
use Rattle.type_store.specs.Store.{FieldSlot, Slot, Store, slot_at, field_slots, field_names, end_slots}
use Rattle.type_store.specs.Shape.{IsCell, IsStore, parts_of, Ascending}
use Rattle.type_store.specs.Steps.{is_bound}
use Rattle.type_walks.specs.Frozen.{Outer, FieldPart, FrozenCell, cell_at, PartAt, PartIs, FieldIs, EndIs, CellIs, IsBefore, EndBefore, CellBefore, part_names}
use Rattle.type_schemes.specs.Ends.{end_of}
use Rattle.type_schemes.specs.Order.{number_in, IsReady, MayFollow, PartsFirst}
use Rattle.type_schemes.specs.Cells.{numbered, part_in, field_in, end_in, cell_of, cell_in}
use Rattle.type_schemes.specs.Formed.{AreFields, IsRecord}
use Rattle.type_schemes.specs.Freezing.{ConstantsAround, IsFrozen}
use Rattle.type_schemes.proofs.Ordering.{number_below, number_stays, place_in, place_last, place_before, number_placed, place_numbered, listed_follow, end_same, end_inside}
use Rattle.type_schemes.proofs.Listing.{cells_of, cells_length, cell_before, cell_last}

module _ (d : ℕ) (s : Store) (whole : IsStore s) (around : ConstantsAround d s) (N : ℕ → Option ℕ) where
  -- ---- the part of a variable that may be named, where these are listed before

  module _ (older : List ℕ) (keeps : (u i : ℕ) → number_in older u ≡ Some i → N u ≡ Some i) where
    low : (u : ℕ) → nat_le (slot_at s u).depth d ≡ true → (slot_at s u).depth ≤ d
    low u e = grind (arith, nat_tests)

    high : (u : ℕ) → nat_le (slot_at s u).depth d ≡ false → d + 1 ≤ (slot_at s u).depth
    high u e = grind (arith, nat_tests)

    pub part_is : (w : ℕ) → w < length s → IsReady (d + 1) s older w → PartIs d s N w (part_in d s N w)
    unfolding part_in
    part_is w l ready = record { end = end_of s w; same = end_same s w; is = go (nat_le (slot_at s (end_of s w)).depth d) refl }
      where
        go : (b : Bool) → nat_le (slot_at s (end_of s w)).depth d ≡ b → PartAt d s N (end_of s w) (cond b (Outer (end_of s w)) (numbered (N (end_of s w))))
        go true e = (refl, record { inside = end_inside s whole w l; depth = low (end_of s w) e })
        go false e =
            let r = ready (high (end_of s w) e) in
            let n : N (end_of s w) ≡ Some r.0 = keeps (end_of s w) r.0 r.1 in
            subst (λ o. PartAt d s N (end_of s w) (numbered o)) (sym n) n

    pub part_before : (w : ℕ) → IsReady (d + 1) s older w → IsBefore (length older) (part_in d s N w)
    unfolding part_in
    part_before w ready = go (nat_le (slot_at s (end_of s w)).depth d) refl
      where
        go : (b : Bool) → nat_le (slot_at s (end_of s w)).depth d ≡ b → IsBefore (length older) (cond b (Outer (end_of s w)) (numbered (N (end_of s w))))
        go true e = tt
        go false e =
            let r = ready (high (end_of s w) e) in
            let n : N (end_of s w) ≡ Some r.0 = keeps (end_of s w) r.0 r.1 in
            subst (λ o. IsBefore (length older) (numbered o)) (sym n) (number_below older (end_of s w) r.0 r.1)

    parts_are : (ws : List ℕ) → AllByRecursion (λ w. w < length s) ws → AllByRecursion (IsReady (d + 1) s older) ws
        → AllZip (PartIs d s N) ws (map (part_in d s N) ws)
    parts_are [] i r = tt
    parts_are (w ∷ ws) i r = (part_is w i.0 r.0, parts_are ws i.1 r.1)

    parts_before : (ws : List ℕ) → AllByRecursion (IsReady (d + 1) s older) ws → AllByRecursion (IsBefore (length older)) (map (part_in d s N) ws)
    parts_before [] r = tt
    parts_before (w ∷ ws) r = (part_before w r.0, parts_before ws r.1)

    fields_are : (fs : List FieldSlot) (end : List ℕ) → AllByRecursion (λ w. w < length s) (field_slots fs ++ end) → AllByRecursion (IsReady (d + 1) s older) (field_slots fs ++ end)
        → AllZip (FieldIs d s N) fs (map (field_in d s N) fs)
    fields_are [] end i r = tt
    fields_are (f ∷ fs) end i r = ((refl, part_is f.1 i.0 r.0), fields_are fs end i.1 r.1)

    fields_before : (fs : List FieldSlot) (end : List ℕ) → AllByRecursion (IsReady (d + 1) s older) (field_slots fs ++ end)
        → AllByRecursion (λ (f : FieldPart). IsBefore (length older) f.1) (map (field_in d s N) fs)
    fields_before [] end r = tt
    fields_before (f ∷ fs) end r = (part_before f.1 r.0, fields_before fs end r.1)

    end_is : (fs : List FieldSlot) (end : Option ℕ) → AllByRecursion (λ w. w < length s) (field_slots fs ++ end_slots end)
        → AllByRecursion (IsReady (d + 1) s older) (field_slots fs ++ end_slots end) → EndIs d s N end (end_in d s N end)
    end_is [] None i r = tt
    end_is [] (Some w) i r = part_is w i.0 r.0
    end_is (f ∷ fs) end i r = end_is fs end i.1 r.1

    end_before : (fs : List FieldSlot) (end : Option ℕ) → AllByRecursion (IsReady (d + 1) s older) (field_slots fs ++ end_slots end)
        → EndBefore (length older) (end_in d s N end)
    end_before [] None r = tt
    end_before [] (Some w) r = part_before w r.0
    end_before (f ∷ fs) end r = end_before fs end r.1

    -- ---- the cell of a variable that may follow

    cell_is : (slot : Slot) (c : store.Cell) → slot.cell ≡ c → is_bound c ≡ false → ((r : _) → c ≡ store.Constant r → ⊥)
        → AllByRecursion (λ w. w < length s) (parts_of c) → AllByRecursion (IsReady (d + 1) s older) (parts_of c) → CellIs d s N slot (cell_of d s N slot c)
    cell_is slot store.Open e b n i r = (e, refl)
    cell_is slot (store.Bound w) e b n i r = absurd (cc)
    cell_is slot (store.Built h ws) e b n i r = record { parts = ws; is = e; each = parts_are ws i r }
    cell_is slot (store.Row fs end) e b n i r =
        record { fields = fs; rest = end; is = e; each = fields_are fs (end_slots end) i r; last = end_is fs end i r }
    cell_is slot (store.Constant c) e b n i r = absurd (n c refl)

    cell_starts : (slot : Slot) (c : store.Cell) → AllByRecursion (IsReady (d + 1) s older) (parts_of c) → CellBefore (length older) (cell_of d s N slot c)
    cell_starts slot store.Open r = tt
    cell_starts slot (store.Bound w) r = tt
    cell_starts slot (store.Built h ws) r = parts_before ws r
    cell_starts slot (store.Row fs end) r = (fields_before fs (end_slots end) r, end_before fs end r)
    cell_starts slot (store.Constant c) r = tt

    pub may_freeze : (v : ℕ) → MayFollow (d + 1) s older v → CellIs d s N (slot_at s v) (cell_in d s N v) × CellBefore (length older) (cell_in d s N v)
    may_freeze v m = (
      cell_is (slot_at s v) (slot_at s v).cell refl m.end
          (λ r e. let x = around.each v r e in let y = m.deep in omega (arith, x, y))
          (recursion_from_All (λ w. w < length s) (parts_of (slot_at s v).cell) (whole.each v m.inside).inside) m.parts,
      cell_starts (slot_at s v) (slot_at s v).cell m.parts,
    )

  names_same : (fs : List FieldSlot) → part_names (map (field_in d s N) fs) ≡ field_names fs
  names_same [] = refl
  names_same (f ∷ fs) = ap (λ xs. f.0 ∷ xs) (names_same fs)

  are_fields : (v : ℕ) (fs : List FieldSlot) (end : Option ℕ) → IsCell v (store.Row fs end) → AreFields (map (field_in d s N) fs) (end_in d s N end)
  are_fields v [] None h = tt
  are_fields v [] (Some w) h = h
  are_fields v (f ∷ fs) end h = subst Ascending (sym (names_same (f ∷ fs))) h

  is_record : (v : ℕ) (slot : Slot) (c : store.Cell) → IsCell v c → IsRecord (cell_of d s N slot c)
  is_record v slot store.Open h = tt
  is_record v slot (store.Bound w) h = tt
  is_record v slot (store.Built b ws) h = tt
  is_record v slot (store.Row fs end) h = are_fields v fs end h
  is_record v slot (store.Constant r) h = tt

  -- ---- all variables of an order

  abbrev f : ℕ → FrozenCell
  f v = cell_in d s N v

  pub record At (older : List ℕ) (i : ℕ) : Type 0 where
    pub are : CellIs d s N (slot_at s (place_in older i)) (cell_at (cells_of f older) i)
    pub before : CellBefore i (cell_at (cells_of f older) i)
    pub records : IsRecord (cell_at (cells_of f older) i)

  pub each_at : (older : List ℕ) → ((u i : ℕ) → number_in older u ≡ Some i → N u ≡ Some i) → PartsFirst (d + 1) s older → (i : ℕ) → i < length older → At older i
  each_at [] keeps first i l = absurd (omega arith)
  each_at (v ∷ older) keeps first i l =
      let keep = λ (u j : ℕ) (e : number_in older u ≡ Some j). keeps u j (number_stays v older u j first.0.new e) in
      ⊎_elim
      (λ k.
      let r = each_at older keep first.1 i k in
      let e = cell_before f v older i k in record {
        are =
            subst (λ w. CellIs d s N (slot_at s w) (cell_at (cells_of f (v ∷ older)) i)) (sym (place_before v older i k))
            (subst (CellIs d s N (slot_at s (place_in older i))) (sym e) r.are);
        before = subst (CellBefore i) (sym e) r.before;
        records = subst IsRecord (sym e) r.records;
      })
      (λ h.
      let x : i ≡ length older = omega (arith, h, l) in
      let m = may_freeze older keep v first.0 in
      let e : cell_at (cells_of f (v ∷ older)) i ≡ f v = ap (cell_at (cells_of f (v ∷ older))) x ∙ cell_last f v older in
      let p : place_in (v ∷ older) i ≡ v = ap (place_in (v ∷ older)) x ∙ place_last v older in record {
        are = subst (λ w. CellIs d s N (slot_at s w) (cell_at (cells_of f (v ∷ older)) i)) (sym p) (subst (CellIs d s N (slot_at s v)) (sym e) m.0);
        before = subst (CellBefore i) (sym e) (subst (λ j. CellBefore j (f v)) (sym x) m.1);
        records = subst IsRecord (sym e) (is_record v (slot_at s v) (slot_at s v).cell (whole.each v first.0.inside).cell);
      })
      (cases_lt i (length older))

module _ (d : ℕ) (s : Store) (whole : IsStore s) (around : ConstantsAround d s) (older : List ℕ) (first : PartsFirst (d + 1) s older) (v : ℕ) (inside : v < length s)
    (ready : IsReady (d + 1) s older v) where
  abbrev N : ℕ → Option ℕ
  N = number_in older

  abbrev g : ℕ → FrozenCell
  g u = cell_in d s N u

  each : (i : ℕ) → i < length (cells_of g older) → At d s whole around N older i
  each i l = each_at d s whole around N older (λ u j e. e) first i (omega (arith, l, cells_length g older))

  pub is_frozen : IsFrozen d s v (record { cells = cells_of g older; root = part_in d s N v })
  is_frozen = record {
    place = place_in older;
    number = N;
    freezes = record {
      numbered = λ i l. place_numbered (d + 1) s older i first (omega (arith, l, cells_length g older));
      placed = λ u i e. (let x = number_below older u i e in omega (arith, x, cells_length g older), number_placed older u i e);
      deep = λ u i e. let x = (listed_follow (d + 1) s older u i first e).1 in omega (arith, x);
      are = λ i l. (each i l).are;
      before = λ i l. (each i l).before;
    };
    root = part_is d s whole around N older (λ u j e. e) v inside ready;
    formed = record {
      before = λ i l. (each i l).before;
      records = λ i l. (each i l).records;
      root = subst (λ n. IsBefore n (part_in d s N v)) (sym (cells_length g older)) (part_before d s whole around N older (λ u j e. e) v ready);
    };
  }

-- A variable is made, of which something is known.
use Rattle.std.proofs.Common.{◌≡◌, ◌≢◌, ℕ, ◌+◌, ◌<◌, ◌≤◌, List, [], ◌∷◌, ◌++◌, length, take, ◌⊎◌, inl, inr, ⊎_elim, true, false, Some, None, refl, sym, ap, ◌∙◌, subst, arith}
use Rattle.std.specs.List.{All}
use Rattle.std.specs.Prelude.{slice_index}
use Rattle.std.proofs.lemmas.Bool.{cases_lt}
use Rattle.std.proofs.lemmas.List.{length_push, length-append, take_at, take-map}
use Rattle.std.proofs.lemmas.List.Elements.{All-weaker, All-nil, All-cons, All-head, All-tail, All-get_or}
use Rattle.elm_type.specs.Types.{Name, any_kind}
use Rattle.elm_type.specs.Ground.{contains}
use Rattle.type_store.specs.declared.slot.Slot as kept
use Rattle.type_store.specs.View.{slot_view, store_view}
use Rattle.type_store.proofs.Undoing.{length_view}
use Rattle.type_store.proofs.Joins.{cell_moved}
use Rattle.type_store.specs.Store.{Cell, Open, Bound, Built, Row, Constant, Slot, Store, slot_at, field_names, field_slots}
use Rattle.type_store.specs.Shape.{IsCell, IsStore, Once, Ranked, parts_of}
use Rattle.type_store.specs.Solutions.{Ask}
use Rattle.type_store.specs.Steps.{IsGraph, put, is_bound}
use Rattle.type_store.specs.Spreading.{SpreadBut, EachSpread}
use Rattle.type_store.specs.Cycles.{parts_at}
use Rattle.type_store.specs.Finish.{IsSettled}
use Rattle.type_store.specs.Levels.{depth_at, IsLowered, IsLevelled, IsLevelledBut, Waiting}
use Rattle.type_store.specs.Building.{IsFresh}
use Rattle.type_store.proofs.Resting.{constant_there}
use Rattle.type_store.proofs.Turns.{Which, Yes, Not, which, slot_pushed, slot_before}
use Rattle.type_store.proofs.Parts.{slot_past}
use Rattle.type_store.proofs.Keeping.{each_made, below_any}
use Rattle.type_store.proofs.Spreading.{all_spread}
use Rattle.type_store.proofs.Settling.{store_spread}
use Rattle.type_store.proofs.Whole.{lowered_whole}

-- a cell that names no other
alone_free : (c : Cell) → parts_of c ≡ [] → is_bound c ≡ false
alone_free Open e = refl
alone_free (Bound w) e = absurd (omega (arith, ap length e))
alone_free (Built h ws) e = refl
alone_free (Row fs end) e = refl
alone_free (Constant r) e = refl

none_named : (xs : List Name) → All (λ x. contains x [] ≡ false) xs
none_named [] = All-nil (λ x. contains x [] ≡ false)
none_named (x ∷ xs) = All-cons (λ x. contains x [] ≡ false) x xs refl (none_named xs)

alone_spread : (s : Store) (work : List Ask) (c : Cell) → parts_of c ≡ [] → SpreadBut s work any_kind c
alone_spread s work Open e = tt
alone_spread s work (Bound w) e = absurd (omega (arith, ap length e))
alone_spread s work (Built h ws) e = (refl, tt)
alone_spread s work (Row fs None) e = (refl, none_named (field_names fs))
alone_spread s work (Row fs (Some w)) e = absurd (omega (arith, ap length e, length-append (field_slots fs) (w ∷ [])))
alone_spread s work (Constant r) e = (below_any r.class, All-nil (λ x. contains x r.lacks ≡ true))

-- more than each rank
abbrev above : (ℕ → ℕ) → List ℕ → ℕ
above rank [] = 1
above rank (w ∷ ws) = rank w + above rank ws

above_some : (rank : ℕ → ℕ) (ws : List ℕ) → 0 < above rank ws
above_some rank [] = omega arith
above_some rank (w ∷ ws) = omega (arith, above_some rank ws)

is_above : (rank : ℕ → ℕ) (ws : List ℕ) → All (λ w. rank w < above rank ws) ws
is_above rank [] = All-nil (λ w. rank w < 1)
is_above rank (w ∷ ws) = All-cons (λ u. rank u < rank w + above rank ws) w ws (omega (arith, above_some rank ws))
    (All-weaker (λ u. rank u < above rank ws) (λ u. rank u < rank w + above rank ws) (λ u l. omega (arith, l)) ws (is_above rank ws))

abbrev pick : {n v : ℕ} → Which v n → ℕ → ℕ → ℕ
pick (Yes e) a b = a
pick (Not e) a b = b

pick_yes : {n v : ℕ} (w : Which v n) (a b : ℕ) → v ≡ n → pick w a b ≡ a
pick_yes (Yes e) a b q = refl
pick_yes (Not e) a b q = absurd (e q)

pick_not : {n v : ℕ} (w : Which v n) (a b : ℕ) → v ≢ n → pick w a b ≡ b
pick_not (Yes e) a b q = absurd (q e)
pick_not (Not e) a b q = refl

module _ (s : Store) (c : Cell) (d : ℕ) (whole : IsStore s) (inside : All (λ w. w < length s) (parts_of c)) where
  abbrev made : Store
  made = s ++ put c d ∷ []

  longer : length made ≡ length s + 1
  longer = length_push s (put c d)

  -- what holds of the slots that there were, and of the new one
  at_each : (P : ℕ → Slot → Type 0) → ((v : ℕ) → v < length s → P v (slot_at s v)) → P (length s) (put c d) → (v : ℕ) → v < length made → P v (slot_at made v)
  at_each P old new v l = go (which v (length s))
    where
      go : Which v (length s) → P v (slot_at (s ++ put c d ∷ []) v)
      go (Yes e) = subst (λ u. P u (slot_at (s ++ put c d ∷ []) u)) (sym e) (subst (P (length s)) (sym (slot_pushed s (put c d))) new)
      go (Not n) =
          let h : v < length s = omega (arith, l, n, length_push s (put c d)) in
          subst (P v) (sym (slot_before s (put c d) v h)) (old v h)

  more_inside : (ws : List ℕ) → All (λ w. w < length s) ws → All (λ w. w < length made) ws
  more_inside ws a = All-weaker (λ w. w < length s) (λ w. w < length made) (λ w h. omega (arith, h, longer)) ws a

  pub made_graph : IsCell (length s) c → IsGraph made
  made_graph cell = record {
    inside = at_each (λ v x. All (λ w. w < length made) (parts_of x.cell)) (λ v l. more_inside (parts_of (slot_at s v).cell) (whole.each v l).inside) (more_inside (parts_of c) inside);
    cells = at_each (λ v x. IsCell v x.cell) (λ v l. (whole.each v l).cell) cell;
  }

  abbrev old_rank : ℕ → ℕ
  old_rank = whole.ranked.rank

  abbrev new_rank : ℕ → ℕ
  new_rank v = pick (which v (length s)) (above old_rank (parts_of c)) (old_rank v)

  same_rank : (v : ℕ) → v < length s → new_rank v ≡ old_rank v
  same_rank v l = pick_not (which v (length s)) (above old_rank (parts_of c)) (old_rank v) (λ e. omega (arith, l, e))

  last_rank : new_rank (length s) ≡ above old_rank (parts_of c)
  last_rank = pick_yes (which (length s) (length s)) (above old_rank (parts_of c)) (old_rank (length s)) refl

  old_ranked : (v : ℕ) → v < length s → All (λ w. new_rank w < new_rank v) (parts_of (slot_at s v).cell)
  old_ranked v l = both (parts_of (slot_at s v).cell) (whole.each v l).inside (whole.ranked.each v)
    where
      both : (ws : List ℕ) → All (λ w. w < length s) ws → All (λ w. whole.ranked.rank w < whole.ranked.rank v) ws → All (λ w. new_rank w < new_rank v) ws
      both [] i r = All-nil (λ w. new_rank w < new_rank v)
      both (w ∷ ws) i r =
          All-cons (λ w. new_rank w < new_rank v) w ws
          (omega (arith, same_rank w (All-head (λ w. w < length s) w ws i), same_rank v l, All-head (λ w. whole.ranked.rank w < whole.ranked.rank v) w ws r))
          (both ws (All-tail (λ w. w < length s) w ws i) (All-tail (λ w. whole.ranked.rank w < whole.ranked.rank v) w ws r))

  new_ranked : All (λ w. new_rank w < new_rank (length s)) (parts_of c)
  new_ranked = both (parts_of c) inside (is_above old_rank (parts_of c))
    where
      both : (ws : List ℕ) → All (λ w. w < length s) ws → All (λ w. old_rank w < above old_rank (parts_of c)) ws → All (λ w. new_rank w < new_rank (length s)) ws
      both [] i r = All-nil (λ w. new_rank w < new_rank (length s))
      both (w ∷ ws) i r =
          All-cons (λ w. new_rank w < new_rank (length s)) w ws
          (omega (arith, same_rank w (All-head (λ w. w < length s) w ws i), last_rank, All-head (λ w. old_rank w < above old_rank (parts_of c)) w ws r))
          (both ws (All-tail (λ w. w < length s) w ws i) (All-tail (λ w. old_rank w < above old_rank (parts_of c)) w ws r))

  pub made_ranked : Ranked made
  made_ranked = record {
    rank = new_rank;
    each = λ v. ⊎_elim (at_each (λ v x. All (λ w. new_rank w < new_rank v) (parts_of x.cell)) old_ranked new_ranked v)
        (λ h. subst (λ (x : Slot). All (λ w. new_rank w < new_rank v) (parts_of x.cell)) (sym (slot_past made v h)) (All-nil (λ w. new_rank w < new_rank v))) (cases_lt v (length made));
  }

  same_depth : (v : ℕ) → v < length s → depth_at made v ≡ depth_at s v
  same_depth v l = ap (λ (x : Slot). x.depth) (slot_before s (put c d) v l)

  -- its parts alone may be deeper
  pub made_levelled : IsLevelledBut made (Waiting (length s ∷ []))
  made_levelled = record { edges = λ v k l. go v k l (which v (length s)) }
    where
      old_edge : (v k : ℕ) → v < length s → k < length (parts_at s v) → depth_at made (slice_index (parts_at s v) k) ≤ depth_at made v
      old_edge v k h l =
          let i = All-get_or (λ w. w < length s) (parts_at s v) k 0 l (whole.each v h).inside in
          let b = All-get_or (λ w. depth_at s w ≤ depth_at s v) (parts_at s v) k 0 l (whole.each v h).levelled in
          omega (arith, b, same_depth (slice_index (parts_at s v) k) i, same_depth v h)

      go : (v k : ℕ) → k < length (parts_at made v) → Which v (length s) → (depth_at made (slice_index (parts_at made v) k) ≤ depth_at made v) ⊎ Waiting (length s ∷ []) v k
      go v k l (Yes e) = inr (0, omega arith, sym e)
      go v k l (Not n) = ⊎_elim
          (λ h. inl (subst (λ ws. depth_at made (slice_index ws k) ≤ depth_at made v) (sym (ap (λ (x : Slot). parts_of x.cell) (slot_before s (put c d) v h)))
          (old_edge v k h (omega (arith, l, ap (λ (x : Slot). length (parts_of x.cell)) (slot_before s (put c d) v h))))))
          (λ h. absurd (omega (arith, l, ap (λ (x : Slot). length (parts_of x.cell)) (slot_past made v (omega (arith, h, n, longer)))))) (cases_lt v (length s))

  pub made_inside : IsCell (length s) c → (v : ℕ) → All (λ w. w < length made) (parts_at made v)
  made_inside cell v = ⊎_elim ((made_graph cell).inside v)
      (λ h. subst (λ (x : Slot). All (λ w. w < length made) (parts_of x.cell)) (sym (slot_past made v h)) (All-nil (λ w. w < length made))) (cases_lt v (length made))

  pub made_spread : (work : List Ask) → SpreadBut made work any_kind c → EachSpread made work
  made_spread work new = each_made s work d c new (store_spread s work whole)

  -- its constant is no other variable's
  pub made_once : IsFresh s c → Once made
  made_once fresh v w r e f = go (which v (length s)) (which w (length s))
    where
      new_one : (u : ℕ) → u ≡ length s → (slot_at made u).cell ≡ Constant r → c ≡ Constant r
      new_one u q z = ap (λ (x : Slot). x.cell) (sym (slot_pushed s (put c d))) ∙ (ap (λ n. (slot_at made n).cell) (sym q) ∙ z)

      old_one : (u : ℕ) → u ≢ length s → (slot_at made u).cell ≡ Constant r → (slot_at s u).cell ≡ Constant r
      old_one u n z = ⊎_elim (λ l. ap (λ (x : Slot). x.cell) (sym (slot_before s (put c d) u l)) ∙ z)
          (λ h. absurd (let y = ap (λ (x : Slot). x.cell) (sym (slot_past made u (omega (arith, h, n, longer)))) ∙ z in cc)) (cases_lt u (length s))

      go : Which v (length s) → Which w (length s) → v ≡ w
      go (Yes p) (Yes q) = p ∙ sym q
      go (Yes p) (Not q) = absurd (fresh r (new_one v p e) (constant_there s w r (old_one w q f)))
      go (Not p) (Yes q) = absurd (fresh r (new_one w q f) (constant_there s v r (old_one v p e)))
      go (Not p) (Not q) = whole.once v w r (old_one v p e) (old_one w q f)

  pub made_settled : IsFresh s c → IsCell (length s) c → SpreadBut made [] any_kind c → IsSettled made
  made_settled fresh cell new = record {
    inside = (made_graph cell).inside;
    cells = (made_graph cell).cells;
    spread = λ v l. all_spread made (slot_at made v).kind (slot_at made v).cell (made_spread [] new v l);
    once = made_once fresh;
  }

  -- once its parts are no deeper
  pub made_whole : IsFresh s c → (last : Store) → IsCell (length s) c → SpreadBut made [] any_kind c → IsLowered made last → IsLevelled last → IsStore last
  made_whole fresh last cell new low level = lowered_whole made last low (made_settled fresh cell new) level (lowered_ranks last low)
    where
      lowered_ranks : (last : Store) → IsLowered made last → Ranked last
      lowered_ranks last low = record {
        rank = made_ranked.rank;
        each = λ v. subst (λ x. All (λ w. made_ranked.rank w < made_ranked.rank v) (parts_of x)) (sym (low.cells v)) (made_ranked.each v);
      }

  -- a variable whose cell names no other
  pub alone_whole : IsFresh s c → IsCell (length s) c → SpreadBut made [] any_kind c → parts_of c ≡ [] → IsStore made
  alone_whole fresh cell new none = record {
    each = λ v l. record {
      inside = (made_graph cell).inside v l;
      cell = (made_graph cell).cells v l;
      spread = (made_settled fresh cell new).spread v l;
      levelled = at_each (λ v x. All (λ w. depth_at made w ≤ x.depth) (parts_of x.cell))
          (λ v l. old_level (parts_of (slot_at s v).cell) (slot_at s v).depth (whole.each v l).inside (whole.each v l).levelled)
          (subst (λ ws. All (λ w. depth_at made w ≤ d) ws) (sym none) (All-nil (λ w. depth_at made w ≤ d))) v l;
    };
    ranked = made_ranked;
    once = made_once fresh;
  }
    where
      old_level : (ws : List ℕ) (e : ℕ) → All (λ w. w < length s) ws → All (λ w. depth_at s w ≤ e) ws → All (λ w. depth_at made w ≤ e) ws
      old_level [] e i r = All-nil (λ w. depth_at made w ≤ e)
      old_level (w ∷ ws) e i r =
          All-cons (λ w. depth_at made w ≤ e) w ws
          (omega (arith, same_depth w (All-head (λ w. w < length s) w ws i), All-head (λ w. depth_at s w ≤ e) w ws r))
          (old_level ws e (All-tail (λ w. w < length s) w ws i) (All-tail (λ w. depth_at s w ≤ e) w ws r))

  -- no variable that there was is deeper
  pub made_depths : (last : Store) → IsLowered made last → (v : ℕ) → v < length s → depth_at last v ≤ depth_at s v
  made_depths last low v l = omega (arith, low.lower v, same_depth v l)

  -- nor is the new one deeper than it was made
  pub new_depth : (last : Store) → IsLowered made last → depth_at last (length s) ≤ d
  new_depth last low =
      let at_new : depth_at made (length s) ≡ d = ap (λ (x : Slot). x.depth) (slot_pushed s (put c d)) in
      omega (arith, at_new, low.lower (length s))

-- ---- as the program does it

-- the variable that was made is taken away
pub taken_back : (items new last : List kept.Slot) (n : ℕ) (x : Slot) → n ≡ length items → store_view new ≡ store_view items ++ x ∷ [] → last ≡ take n new → store_view last ≡ store_view items
taken_back items new last n x e f g =
    ap store_view g ∙ (sym (take-map slot_view n new) ∙ (ap (take n) f ∙ take_at (store_view items) (x ∷ []) n (omega (arith, length_view items, e))))

module _ (items new : List kept.Slot) (c : Cell) (d : ℕ) (whole : IsStore (store_view items)) (inside : All (λ w. w < length items) (parts_of c))
    (is : store_view new ≡ store_view items ++ put c d ∷ []) where
  inside_view : All (λ w. w < length (store_view items)) (parts_of c)
  inside_view = subst (λ n. All (λ w. w < n) (parts_of c)) (sym (length_view items)) inside

  cell_at_end : IsCell (length items) c → IsCell (length (store_view items)) c
  cell_at_end = subst (λ n. IsCell n c) (sym (length_view items))

  pub did_inside : IsCell (length items) c → (v : ℕ) → All (λ w. w < length new) (parts_at (store_view new) v)
  did_inside cell v =
      subst (λ n. All (λ w. w < n) (parts_at (store_view new) v)) (length_view new)
      (subst (λ s. All (λ w. w < length s) (parts_at s v)) (sym is) (made_inside (store_view items) c d whole inside_view (cell_at_end cell) v))

  pub did_level : (n : ℕ) (todo before : List ℕ) → n ≡ length items → todo ≡ before ++ n ∷ [] → before ≡ [] → IsLevelledBut (store_view new) (Waiting todo)
  did_level n todo before e f g =
      subst (λ xs. IsLevelledBut (store_view new) (Waiting xs)) (sym (f ∙ (ap (λ xs. xs ++ n ∷ []) g ∙ ap (λ m. m ∷ []) (e ∙ sym (length_view items)))))
      (subst (λ s. IsLevelledBut s (Waiting (length (store_view items) ∷ []))) (sym is) (made_levelled (store_view items) c d whole inside_view))

  pub did_alone : IsFresh (store_view items) c → parts_of c ≡ [] → IsCell 0 c → IsStore (store_view new)
  did_alone fresh none cell =
      subst IsStore (sym is) (alone_whole (store_view items) c d whole inside_view fresh (cell_moved 0 (length (store_view items)) c (alone_free c none) cell)
      (alone_spread (store_view items ++ put c d ∷ []) [] c none) none)

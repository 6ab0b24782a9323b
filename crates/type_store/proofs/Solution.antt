-- A store has a solution: a variable of which nothing is known is a constant of its kind, and each other type is made
-- of its parts, by their ranks.
use Rattle.std.proofs.Common.{◌≡◌, ℕ, zero, suc, ◌<◌, List, [], ◌∷◌, ◌++◌, length, map, true, false, Option, Some, None, inl, inr, refl, sym, ap, ◌∙◌, subst, arith}
use Rattle.std.specs.Prelude.{not, All}
use Rattle.std.proofs.lemmas.List.Elements.{All-head, All-tail, All-weaker}
use Rattle.elm_type.specs.Types.{Name, Rigid, Kind, Closed, Made, Record, NoField, types_of, variable, count}
use Rattle.elm_type.specs.Classes.{Ground, meets, all_meet, is_any, is_below, demand_met, asks}
use Rattle.elm_type.specs.Rows.{extend, has_field}
use Rattle.elm_type.specs.declared.class.Class.{Class}
use Rattle.elm_type.specs.declared.head.Head.{Head}
use Rattle.elm_type.specs.declared.demands.Demand.{Demand}
use Rattle.elm_type.specs.declared.demands.Demand.TheVariants.{Never, Always, OfParts}
use Rattle.elm_type.specs.Ground.{contains, lacks, lacks_all, is_ground, are_ground, EachKindFits}
use Rattle.type_store.specs.Store.{FieldSlot, Cell, Open, Bound, Built, Row, Constant, Slot, Store, slot_at, field_slots, field_names, end_slots}
use Rattle.type_store.specs.Shape.{parts_of, Ascending, IsCell, AllIn, NoneIn, Demanded, Spread, IsStore}
use Rattle.type_store.specs.Solutions.{row_value, rest_value, Says, Meets, constants_of, Renames, CanFit}
use Rattle.type_store.specs.Laws.{Chosen, Refit, EachChoiceFits}
use Rattle.type_store.proofs.RowsMeet.{and_left, and_right, and_both}
use Rattle.type_store.proofs.Classes.{below_meets, any_meets}
use Rattle.type_store.proofs.Lacking.{all_in_itself, lacks_in, lacks_part, lacks_first, lacks_second, constant_lacks, empty_lacks, none_contained, lacks_extended, ground_extended}
use Rattle.type_store.proofs.RowValues.{has_row, lacks_row, rise_row, ground_row, row_same, map_same}
use Rattle.std.proofs.lemmas.Bool.{cases_lt}
use Rattle.type_store.proofs.Parts.{all_first, all_second, all_with, slot_past}

-- ---- parts of a type of a head

count_parts : (f : ℕ → Ground) (ws : List ℕ) → count (types_of (map f ws)) ≡ length ws
count_parts f [] = refl
count_parts f (w ∷ ws) = ap suc (count_parts f ws)

are_parts : (f : ℕ → Ground) (ws : List ℕ) → All (λ w. is_ground (f w) ≡ true) ws → are_ground (types_of (map f ws)) ≡ true
are_parts f [] h = refl
are_parts f (w ∷ ws) h =
    and_both (is_ground (f w)) (are_ground (types_of (map f ws))) (All-head (λ w. is_ground (f w) ≡ true) w ws h)
    (are_parts f ws (All-tail (λ w. is_ground (f w) ≡ true) w ws h))

parts_meet : (f : ℕ → Ground) (c : Class) (ws : List ℕ) → All (λ w. meets c (f w) ≡ true) ws → all_meet c (types_of (map f ws)) ≡ true
parts_meet f c [] h = refl
parts_meet f c (w ∷ ws) h =
    and_both (meets c (f w)) (all_meet c (types_of (map f ws))) (All-head (λ w. meets c (f w) ≡ true) w ws h)
    (parts_meet f c ws (All-tail (λ w. meets c (f w) ≡ true) w ws h))

-- what a value is known to be
record Good (k : Kind) (t : Ground) : Type 0 where
  meets_class : meets k.class t ≡ true
  lacks_names : lacks_all k.lacks t ≡ true
  ground : is_ground t ≡ true

demanded : (s : Store) (f : ℕ → Ground) (d : Demand) (ws : List ℕ) → Demanded s d ws → All (λ w. Good (slot_at s w).kind (f w)) ws
    → demand_met d (λ c. all_meet c (types_of (map f ws))) ≡ true
demanded s f Never ws h g = absurd h
demanded s f Always ws h g = refl
demanded s f (OfParts c) ws h g =
    parts_meet f c ws
    (all_with (λ w. is_below (slot_at s w).kind.class c ≡ true) (λ w. Good (slot_at s w).kind (f w)) (λ w. meets c (f w) ≡ true) ws
    (λ w b q. below_meets (slot_at s w).kind.class c (f w) b q.meets_class) h g)

row_lacks_each : (f : ℕ → Ground) (fs : List FieldSlot) (t : Ground) (names : List Name) → NoneIn (field_names fs) names → lacks_all names t ≡ true
    → (xs : List Name) → AllIn xs names → lacks_all xs (extend (row_value f fs) t) ≡ true
row_lacks_each f fs t names n e [] h = refl
row_lacks_each f fs t names n e (x ∷ xs) h =
    let i : contains x names ≡ true = All-head (λ z. contains z names ≡ true) x xs h in
    let off : has_field x (row_value f fs) ≡ false = has_row f x fs ∙ none_contained x (field_names fs) names n i in
    let on : lacks x t ≡ true = lacks_in x names t i e in
    and_both (lacks x (extend (row_value f fs) t)) (lacks_all xs (extend (row_value f fs) t))
    (lacks_extended x (row_value f fs) t ∙ and_both (not (has_field x (row_value f fs))) (lacks x t) (ap not off) on)
    (row_lacks_each f fs t names n e xs (All-tail (λ z. contains z names ≡ true) x xs h))

module _ (s : Store) (constants : Rigid → Rigid) (renames : Renames (constants_of s) constants) (choice : ℕ → Ground)
    (chosen : (v : ℕ) → (slot_at s v).cell ≡ Open → Chosen (slot_at s v).kind (choice v)) where
  cell_value : (ℕ → Ground) → ℕ → Cell → Ground
  cell_value f v Open = choice v
  cell_value f v (Bound w) = f w
  cell_value f v (Built h ws) = Made h (types_of (map f ws))
  cell_value f v (Row fs end) = extend (row_value f fs) (rest_value f end)
  cell_value f v (Constant r) = variable (constants r)

  value_at : (ℕ → Ground) → ℕ → Ground
  value_at f v = cell_value f v (slot_at s v).cell

  end_same : (f g : ℕ → Ground) (end : Option ℕ) → All (λ w. f w ≡ g w) (end_slots end) → rest_value f end ≡ rest_value g end
  end_same f g None h = refl
  end_same f g (Some w) h = All-head (λ w. f w ≡ g w) w [] h

  cell_same : (f g : ℕ → Ground) (v : ℕ) (c : Cell) → All (λ w. f w ≡ g w) (parts_of c) → cell_value f v c ≡ cell_value g v c
  unfolding cell_value
  cell_same f g k Open h = refl
  cell_same f g k (Bound w) h = All-head (λ w. f w ≡ g w) w [] h
  cell_same f g k (Built b ws) h = ap (λ ts. Made b (types_of ts)) (map_same f g ws h)
  cell_same f g k (Row fs end) h =
      ap (λ gs. extend gs (rest_value f end)) (row_same f g fs (all_first (λ w. f w ≡ g w) (field_slots fs) (end_slots end) h))
      ∙ ap (extend (row_value g fs)) (end_same f g end (all_second (λ w. f w ≡ g w) (field_slots fs) (end_slots end) h))
  cell_same f g k (Constant r) h = refl

  -- the value of a cell is of its kind, where those of its parts are of theirs
  module _ (f : ℕ → Ground) (k : Kind) where
    good_open : (t : Ground) → Chosen k t → Good k t
    good_open t c = record {
      meets_class = and_left (meets k.class t) (lacks_all k.lacks t) c.fits;
      lacks_names = and_right (meets k.class t) (lacks_all k.lacks t) c.fits;
      ground = c.ground;
    }

    good_bound : (w : ℕ) → Spread s k (Bound w) → Good (slot_at s w).kind (f w) → Good k (f w)
    good_bound w spread g = record {
      meets_class = below_meets (slot_at s w).kind.class k.class (f w) spread.0 g.meets_class;
      lacks_names = lacks_part k.lacks (slot_at s w).kind.lacks (f w) spread.1 g.lacks_names;
      ground = g.ground;
    }

    good_built : (h : Head) (ws : List ℕ) → Spread s k (Built h ws) → All (λ w. Good (slot_at s w).kind (f w)) ws
        → Good k (Made h (types_of (map f ws)))
    good_built h ws spread g = record {
      meets_class =
          ap (λ n. demand_met (asks k.class h n) (λ c. all_meet c (types_of (map f ws)))) (count_parts f ws)
          ∙ demanded s f (asks k.class h (length ws)) ws spread.1 g;
      lacks_names = ap (λ xs. lacks_all xs (Made h (types_of (map f ws)))) spread.0;
      ground =
          are_parts f ws (All-weaker (λ w. Good (slot_at s w).kind (f w)) (λ w. is_ground (f w) ≡ true) (λ w q. q.ground) ws g);
    }

    good_row : (fs : List FieldSlot) (t : Ground) → is_any k.class ≡ true → NoneIn (field_names fs) k.lacks → Ascending (field_names fs)
        → lacks_all k.lacks t ≡ true → lacks_all (field_names fs) t ≡ true → is_ground t ≡ true
        → All (λ w. is_ground (f w) ≡ true) (field_slots fs) → Good k (extend (row_value f fs) t)
    good_row fs t any none up off apart ground each = record {
      meets_class = any_meets k.class (extend (row_value f fs) t) any;
      lacks_names = row_lacks_each f fs t k.lacks none off k.lacks (all_in_itself k.lacks);
      ground = ground_extended (row_value f fs) t (rise_row f fs up) (ground_row f fs each) (lacks_row f fs t apart) ground;
    }

    good_constant : (r : Rigid) → Spread s k (Constant r) → Good k (variable (constants r))
    good_constant r spread = record {
      meets_class = ap (λ c. is_below c k.class) (renames.class r) ∙ spread.0;
      lacks_names = constant_lacks k.lacks (constants r) (subst (AllIn k.lacks) (sym (renames.lacks r)) spread.1);
      ground = refl;
    }

  up_row : (v : ℕ) (fs : List FieldSlot) (end : Option ℕ) → IsCell v (Row fs end) → Ascending (field_names fs)
  up_row v [] None c = tt
  up_row v [] (Some w) c = absurd c
  up_row v (x ∷ fs) end c = c

  good_cell : (f : ℕ → Ground) (v : ℕ) (k : Kind) (c : Cell) → (c ≡ Open → Chosen k (choice v)) → IsCell v c → Spread s k c
      → All (λ w. Good (slot_at s w).kind (f w)) (parts_of c) → Good k (cell_value f v c)
  unfolding cell_value
  good_cell f v k Open here cell spread g = good_open f k (choice v) (here refl)
  good_cell f v k (Bound w) here cell spread g = good_bound f k w spread (All-head (λ w. Good (slot_at s w).kind (f w)) w [] g)
  good_cell f v k (Built h ws) here cell spread g = good_built f k h ws spread g
  good_cell f v k (Row fs None) here cell spread g =
      good_row f k fs (Record NoField Closed) spread.0 spread.1 (up_row v fs None cell) (empty_lacks k.lacks) (empty_lacks (field_names fs)) refl
      (All-weaker (λ w. Good (slot_at s w).kind (f w)) (λ w. is_ground (f w) ≡ true) (λ w q. q.ground) (field_slots fs)
      (all_first (λ w. Good (slot_at s w).kind (f w)) (field_slots fs) [] g))
  good_cell f v k (Row fs (Some e)) here cell spread g =
      let q = All-head (λ w. Good (slot_at s w).kind (f w)) e [] (all_second (λ w. Good (slot_at s w).kind (f w)) (field_slots fs) (e ∷ []) g) in
      let off = lacks_part (k.lacks ++ field_names fs) (slot_at s e).kind.lacks (f e) spread.2 q.lacks_names in
      good_row f k fs (f e) spread.0 spread.1 (up_row v fs (Some e) cell) (lacks_first k.lacks (field_names fs) (f e) off)
      (lacks_second k.lacks (field_names fs) (f e) off) q.ground
      (All-weaker (λ w. Good (slot_at s w).kind (f w)) (λ w. is_ground (f w) ≡ true) (λ w q. q.ground) (field_slots fs)
      (all_first (λ w. Good (slot_at s w).kind (f w)) (field_slots fs) (e ∷ []) g))
  good_cell f v k (Constant r) here cell spread g = good_constant f k r spread

  module _ (shape : IsStore s) where
    rank : ℕ → ℕ
    rank = shape.ranked.rank

    -- by so many steps down
    by_steps : ℕ → ℕ → Ground
    by_steps zero v = Record NoField Closed
    by_steps (suc n) v = value_at (by_steps n) v

    lower : (v : ℕ) → All (λ w. rank w < rank v) (parts_of (slot_at s v).cell)
    unfolding rank
    lower = shape.ranked.each

    steps_same : (n m v : ℕ) → rank v < n → rank v < m → by_steps n v ≡ by_steps m v
    unfolding by_steps value_at cell_value
    steps_same zero m v a b = absurd (omega (arith, a))
    steps_same (suc n) zero v a b = absurd (omega (arith, b))
    steps_same (suc n) (suc m) v a b =
        cell_same (by_steps n) (by_steps m) v (slot_at s v).cell
        (All-weaker (λ w. rank w < rank v) (λ w. by_steps n w ≡ by_steps m w)
        (λ w l. steps_same n m w (omega (arith, l, a)) (omega (arith, l, b))) (parts_of (slot_at s v).cell) (lower v))

    types : ℕ → Ground
    types v = by_steps (suc (rank v)) v

    -- each value is made of those of its parts
    types_is : (v : ℕ) → types v ≡ value_at types v
    unfolding by_steps types value_at cell_value
    types_is v =
        cell_same (by_steps (rank v)) types v (slot_at s v).cell
        (All-weaker (λ w. rank w < rank v) (λ w. by_steps (rank v) w ≡ types w)
        (λ w l. steps_same (rank v) (suc (rank w)) w l (omega arith)) (parts_of (slot_at s v).cell) (lower v))

    shape_at : (v : ℕ) → IsCell v (slot_at s v).cell × Spread s (slot_at s v).kind (slot_at s v).cell
    shape_at v = elim (cases_lt v (length s)) [
      | inl l ↦ ((shape.each v l).cell, (shape.each v l).spread)
      | inr h ↦ subst (λ (x : Slot). IsCell v x.cell × Spread s x.kind x.cell) (sym (slot_past s v h)) (tt, tt)
    ]

    good_value : (v : ℕ) → ((w : ℕ) → rank w < rank v → Good (slot_at s w).kind (types w)) → Good (slot_at s v).kind (value_at types v)
    unfolding value_at
    good_value v again =
        good_cell types v (slot_at s v).kind (slot_at s v).cell (chosen v) (shape_at v).0 (shape_at v).1
        (All-weaker (λ w. rank w < rank v) (λ w. Good (slot_at s w).kind (types w)) again (parts_of (slot_at s v).cell) (lower v))

    good_below : (n v : ℕ) → rank v < n → Good (slot_at s v).kind (types v)
    good_below zero v l = absurd (omega (arith, l))
    good_below (suc n) v l =
        subst (Good (slot_at s v).kind) (sym (types_is v)) (good_value v (λ w b. good_below n w (omega (arith, b, l))))

    good : (v : ℕ) → Good (slot_at s v).kind (types v)
    good v = good_below (suc (rank v)) v (omega arith)

    end_apart : (v : ℕ) (fs : List FieldSlot) (end : Option ℕ) (k : Kind) → Spread s k (Row fs end) → lacks_all (field_names fs) (rest_value types end) ≡ true
    end_apart v fs None k spread = empty_lacks (field_names fs)
    end_apart v fs (Some w) k spread =
        lacks_second k.lacks (field_names fs) (types w)
        (lacks_part (k.lacks ++ field_names fs) (slot_at s w).kind.lacks (types w) spread.2 (good w).lacks_names)

    says_cell : (v : ℕ) (k : Kind) (c : Cell) (t : Ground) → t ≡ cell_value types v c → Spread s k c → Says (record { types = types; constants = constants }) t c
    unfolding cell_value
    says_cell v k Open t e spread = tt
    says_cell v k (Bound w) t e spread = e
    says_cell v k (Built h ws) t e spread = e
    says_cell v k (Row fs end) t e spread = (e, end_apart v fs end k spread)
    says_cell v k (Constant r) t e spread = e

    meets_at : (v : ℕ) → Meets (record { types = types; constants = constants }) (slot_at s v) (types v)
    unfolding value_at
    meets_at v = record {
      cell = says_cell v (slot_at s v).kind (slot_at s v).cell (types v) (types_is v) (shape_at v).1;
      kind = and_both (meets (slot_at s v).kind.class (types v)) (lacks_all (slot_at s v).kind.lacks (types v)) (good v).meets_class (good v).lacks_names;
      ground = (good v).ground;
    }

    open_is : (v : ℕ) → (slot_at s v).cell ≡ Open → types v ≡ choice v
    unfolding value_at cell_value
    open_is v e = types_is v ∙ ap (cell_value types v) e

    pub refit : Refit s constants choice
    refit = record {
      values = record { types = types; constants = constants };
      fit = record { renames = renames; each = meets_at };
      same = λ r. refl;
      chosen = open_is;
    }

pub choice_fits : EachChoiceFits
choice_fits s shape constants renames choice chosen = refit s constants renames choice chosen shape

-- each store has a solution
pub solution : EachKindFits → (s : Store) → IsStore s → CanFit s
solution each_kind s shape = record {
  some = λ constants renames. (
      let r = choice_fits s shape constants renames (λ v. (each_kind (slot_at s v).kind).0)
      (λ v e. record { fits = (each_kind (slot_at s v).kind).2; ground = (each_kind (slot_at s v).kind).1 }) in
      (r.values, r.fit, r.same));
}

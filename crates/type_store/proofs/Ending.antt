-- What is left of two rows: what the ends become.
use Rattle.std.proofs.Common.{◌≡◌, ◌≢◌, ℕ, ◌+◌, ◌<◌, ◌≤◌, List, [], ◌∷◌, ◌++◌, length, map, set, true, false, inl, inr, Option, Some, None, refl, sym, ap, ◌∙◌, subst, arith, All, Contains}
use Rattle.std.proofs.lemmas.List.{length-set, length_push, append_assoc, append-nil}
use Rattle.std.proofs.lemmas.List.Elements.{All-head, All-cons, All-nil, All-append, All-weaker}
use Rattle.type_store.specs.Store.{FieldSlot, Cell, Open, Bound, Built, Row, Constant, Slot, Store, slot_at, field_names, field_slots, end_slots}
use Rattle.elm_type.specs.Types.{Name}
use Rattle.type_store.specs.Solutions.{Values, Fit, Ask, Same, Lacks, MeetsAsk}
use Rattle.type_store.specs.Shape.{Ascending, NoneIn, IsCell, parts_of}
use Rattle.type_store.specs.Steps.{AskInside, IsGraph, KeepsDepths, kind_asks, rest_asks, put, is_bound, is_row}
use Rattle.type_store.specs.Spreading.{EachSpread}
use Rattle.type_store.specs.Ends.{Turns, Rests, Ended, NoEnds, IsRest, is_open}
use Rattle.elm_type.specs.Ground.{contains}
use Rattle.type_store.specs.declared.slot.FieldSlot as stored_field
use Rattle.type_store.specs.View.{field_view}
use Rattle.type_store.proofs.Turns.{Which, Yes, Not, which, slot_same, slot_pushed, slot_before, slot_other, all_left, all_right, lacks_to_asks}
use Rattle.type_store.proofs.OneSlot.{retold, retold_before, says_at}
use Rattle.std.specs.Prelude.{min}
use Rattle.std.proofs.lemmas.Bool.{cases_lt}
use Rattle.std.proofs.lemmas.List.Elements.{Contains-push}
use Rattle.type_store.specs.Reaching.{SameLow, KeepsConstants, LowRestsBut}
use Rattle.type_store.proofs.Resting.{cell_parts, all_cells, constants_itself, constants_set, constants_made, constants_chained, rests_kept}
use Rattle.type_store.proofs.Keeping.{keeps_chained, keeps_put, keeps_more, each_more, each_kept, each_set, each_made, depths_itself, depths_set, depths_made, depths_chained}
use Rattle.type_store.proofs.RowSpreads.{Within, within_left, within_right, keeps_within, keeps_again, row_spread}
use Rattle.type_store.proofs.Graphs.{graph_set, kinds_inside}
use Rattle.type_store.proofs.Joins.{grown}
use Rattle.type_store.proofs.RowEnds.{both_closed, both_variables, first_takes, both_take, Bare, first_more, second_more, first_more_over, second_more_over, constant_closed, built_closed}

-- ---- the other way round

rests_turned : (σ : Values) (L R : List FieldSlot) (e g : Option ℕ) → Rests σ [] [] L R e g → Rests σ [] [] R L g e
rests_turned σ L R e g p = record { both = All-nil (MeetsAsk σ); rests = sym p.rests; left = p.right; right = p.left }

pub ended_turned : (s t : Store) (before after : List Ask) (L R : List FieldSlot) (e g : Option ℕ) → Ended s before L R e g t after → Ended s before R L g e t after
ended_turned s t before after L R e g p = record {
  left = p.left;
  work = p.work;
  inside = p.inside;
  turns = λ rest i. retold_before {Q = λ σ. Rests σ [] [] L R e g × All (MeetsAsk σ) rest} s t
      (λ σ f q. (rests_turned σ L R e g q.0, q.1))
      (λ σ f q. (rests_turned σ R L g e q.0, q.1))
      (p.turns rest i);
  graph = p.graph;
  spread = p.spread;
  depths = p.depths;
  constants = p.constants;
  rests = p.rests;
}

pub never_turned : (s : Store) (L R : List FieldSlot) (e g : Option ℕ) → NoEnds s L R e g → NoEnds s R L g e
never_turned s L R e g n = record { never = λ σ f p. n.never σ f (rests_turned σ R L g e p) }

-- ---- the ends are made the same

pub ended_none : (s : Store) (before : List Ask) → IsGraph s → Ended s before [] [] None None s before
ended_none s before g = record {
  left = [];
  work = sym (append-nil before);
  inside = All-nil (AskInside (length s));
  turns = λ rest i. both_closed s [] [] rest;
  graph = g;
  spread = λ h. h;
  depths = depths_itself s;
  constants = constants_itself s;
  rests = rests_kept s s [] refl (depths_itself s);
}

pub ended_same : (s : Store) (before after : List Ask) (x y : ℕ) → IsGraph s → x < length s → y < length s → after ≡ before ++ Same x y ∷ [] → Ended s before [] [] (Some x) (Some y) s after
ended_same s before after x y g lx ly w = record {
  left = Same x y ∷ [];
  work = w;
  inside = All-cons (AskInside (length s)) (Same x y) [] (lx, ly) (All-nil (AskInside (length s)));
  turns = λ rest i. both_variables s [] [] rest x y;
  graph = g;
  spread = λ h. subst (EachSpread s) (sym w) (each_more s before (Same x y ∷ []) h);
  depths = depths_itself s;
  constants = constants_itself s;
  rests = rests_kept s s (Same x y ∷ []) refl (depths_itself s);
}

-- ---- where a row ends lacks the names of its fields

rest_inside : (n : ℕ) (end : Option ℕ) (xs : List Name) → All (λ w. w < n) (end_slots end) → All (AskInside n) (rest_asks end xs)
rest_inside n None xs h = All-nil (AskInside n)
rest_inside n (Some w) [] h = All-nil (AskInside n)
rest_inside n (Some w) (x ∷ xs) h = All-cons (AskInside n) (Lacks w x) (map (Lacks w) xs) (All-head (λ w. w < n) w [] h) (rest_inside n (Some w) xs h)

rest_met : (σ : Values) (s : Store) (x : ℕ) (fs : List FieldSlot) (end : Option ℕ) → Fit σ s → (slot_at s x).cell ≡ Row fs end → All (MeetsAsk σ) (rest_asks end (field_names fs))
rest_met σ s x fs None f e = All-nil (MeetsAsk σ)
rest_met σ s x fs (Some w) f e = lacks_to_asks σ w (field_names fs) (says_at σ s x (Row fs (Some w)) e f).1

-- what holds of each solution may be asked
turns_more : {P : Values → Type 0} (s t : Store) (left more rest : List Ask) → ((σ : Values) → Fit σ t → All (MeetsAsk σ) more)
    → Turns s P t (λ σ. All (MeetsAsk σ) (left ++ rest)) → Turns s P t (λ σ. All (MeetsAsk σ) ((left ++ more) ++ rest))
turns_more s t left more rest i u = retold {Q = λ σ. All (MeetsAsk σ) (left ++ rest)} s t u
    (λ σ f q. All-append (MeetsAsk σ) left rest (all_left (MeetsAsk σ) left more (all_left (MeetsAsk σ) (left ++ more) rest q)) (all_right (MeetsAsk σ) (left ++ more) rest q))
    (λ σ f q. All-append (MeetsAsk σ) (left ++ more) rest (All-append (MeetsAsk σ) left more (all_left (MeetsAsk σ) left rest q) (i σ f)) (all_right (MeetsAsk σ) left rest q))

module _ (s : Store) (before mid after : List Ask) (fs : List FieldSlot) (g : Option ℕ) (x : ℕ) (graph : IsGraph s) (l : x < length s) (o : (slot_at s x).cell ≡ Open) (c : IsCell x (Row fs g)) (r : IsRest s fs g) where
  abbrev row_slot : Slot
  row_slot = put (Row fs g) (slot_at s x).depth

  abbrev with_row : Store
  with_row = set s x row_slot

  abbrev own_kind : List Ask
  own_kind = kind_asks x (slot_at s x).kind

  abbrev end_lacks : List Ask
  end_lacks = rest_asks g (field_names fs)

  pub ended_takes : mid ≡ before ++ kind_asks x (slot_at s x).kind → after ≡ mid ++ rest_asks g (field_names fs)
      → Ended s before [] fs (Some x) g (set s x (put (Row fs g) (slot_at s x).depth)) after
  ended_takes w v =
      let is : after ≡ before ++ (own_kind ++ end_lacks) = v ∙ (ap (λ xs. xs ++ end_lacks) w ∙ append_assoc before own_kind end_lacks) in
      record {
        left = own_kind ++ end_lacks;
        work = is;
        inside = grown s x row_slot (own_kind ++ end_lacks) (All-append (AskInside (length s)) own_kind end_lacks (kinds_inside (length s) x (slot_at s x).kind l)
            (rest_inside (length s) g (field_names fs) (all_right (λ w. w < length s) (field_slots fs) (end_slots g) r.inside)));
        turns = λ rest i. turns_more s with_row own_kind end_lacks rest (λ σ f. rest_met σ with_row x fs g f (ap (λ (y : Slot). y.cell) (slot_same s x row_slot l)))
            (first_takes s [] [] rest fs g x (slot_at s x).depth l o);
        graph = graph_set s x row_slot l graph r.inside c;
        spread = λ h. subst (EachSpread with_row) (ap (λ xs. xs ++ end_lacks) (sym w) ∙ sym v)
            (each_set s before (before ++ own_kind ++ end_lacks) x row_slot l
            (keeps_chained s with_row with_row before (before ++ own_kind) (before ++ own_kind ++ end_lacks)
            (keeps_put s x (slot_at s x).depth (Row fs g) before l) (keeps_more with_row (before ++ own_kind) end_lacks))
            (row_spread with_row (before ++ own_kind ++ end_lacks) fs g (within_right (before ++ own_kind) end_lacks)) h);
        depths = depths_set s x row_slot l refl;
        constants = constants_set s x row_slot l (λ k z. absurd (cc));
        rests = rests_kept s with_row (own_kind ++ end_lacks) (length-set s x row_slot) (depths_set s x row_slot l refl);
      }

-- ---- a variable more

pub graph_push : (s : Store) (d : ℕ) → IsGraph s → IsGraph (s ++ put Open d ∷ [])
graph_push s d g = record {
  inside = λ w h. inside_at w (which w (length s)) (omega (arith, h, length_push s (put Open d)));
  cells = λ w h. cell_at w (which w (length s)) (omega (arith, h, length_push s (put Open d)));
}
  where
    new : Store
    new = s ++ put Open d ∷ []

    more : (ws : List ℕ) → All (λ w. w < length s) ws → All (λ w. w < length (s ++ put Open d ∷ [])) ws
    more ws a = All-weaker (λ w. w < length s) (λ w. w < length (s ++ put Open d ∷ [])) (λ w h. omega (arith, h, length_push s (put Open d))) ws a

    inside_at : (w : ℕ) → Which w (length s) → w < length s + 1 → All (λ u. u < length (s ++ put Open d ∷ [])) (parts_of (slot_at (s ++ put Open d ∷ []) w).cell)
    inside_at w (Yes e) h =
        subst (λ x. All (λ u. u < length (s ++ put Open d ∷ [])) (parts_of (slot_at (s ++ put Open d ∷ []) x).cell)) (sym e)
        (subst (λ (x : Slot). All (λ u. u < length (s ++ put Open d ∷ [])) (parts_of x.cell)) (sym (slot_pushed s (put Open d))) (All-nil (λ u. u < length (s ++ put Open d ∷ []))))
    inside_at w (Not n) h =
        let l : w < length s = omega (arith, h, n) in
        subst (λ (x : Slot). All (λ u. u < length (s ++ put Open d ∷ [])) (parts_of x.cell)) (sym (slot_before s (put Open d) w l)) (more (parts_of (slot_at s w).cell) (g.inside w l))

    cell_at : (w : ℕ) → Which w (length s) → w < length s + 1 → IsCell w (slot_at (s ++ put Open d ∷ []) w).cell
    cell_at w (Yes e) h =
        subst (λ x. IsCell x (slot_at (s ++ put Open d ∷ []) x).cell) (sym e) (subst (λ (x : Slot). IsCell (length s) x.cell) (sym (slot_pushed s (put Open d))) tt)
    cell_at w (Not n) h =
        let l : w < length s = omega (arith, h, n) in
        subst (λ (x : Slot). IsCell w x.cell) (sym (slot_before s (put Open d) w l)) (g.cells w l)

pub row_cell : (v : ℕ) (fs : List FieldSlot) (end : Option ℕ) → 0 < length fs → Ascending (field_names fs) → IsCell v (Row fs end)
row_cell v [] end l a = absurd (omega (arith, l))
row_cell v (f ∷ fs) end l a = a

module _ (s : Store) (L R : List FieldSlot) (x y d : ℕ) (g : IsGraph s) (differ : x ≢ y) (lx : x < length s) (ly : y < length s) (ox : (slot_at s x).cell ≡ Open) (oy : (slot_at s y).cell ≡ Open)
    (some_left : 0 < length L) (some_right : 0 < length R) (left : IsRest s L (Some x)) (right : IsRest s R (Some y)) (apart : NoneIn (field_names L) (field_names R)) where
  abbrev one : Store
  one = s ++ put Open d ∷ []

  abbrev dx : ℕ
  dx = (slot_at one x).depth

  abbrev two : Store
  two = set one x (put (Row R (Some (length s))) dx)

  abbrev dy : ℕ
  dy = (slot_at two y).depth

  abbrev three : Store
  three = set two y (put (Row L (Some (length s))) dy)

  longer : length one ≡ length s + 1
  longer = length_push s (put Open d)

  row_there : (n : ℕ) (fs : List FieldSlot) → length s < n → All (λ w. w < length s) (field_slots fs) → All (λ w. w < n) (parts_of (Row fs (Some (length s))))
  row_there n fs h a = All-append (λ w. w < n) (field_slots fs) (length s ∷ [])
      (All-weaker (λ w. w < length s) (λ w. w < n) (λ w l. omega (arith, l, h)) (field_slots fs) a)
      (All-cons (λ w. w < n) (length s) [] h (All-nil (λ w. w < n)))

  left_there : All (λ w. w < length s) (field_slots L)
  left_there = all_left (λ w. w < length s) (field_slots L) (x ∷ []) left.inside

  right_there : All (λ w. w < length s) (field_slots R)
  right_there = all_left (λ w. w < length s) (field_slots R) (y ∷ []) right.inside

  two_length : length two ≡ length s + 1
  two_length = length-set one x (put (Row R (Some (length s))) dx) ∙ longer

  graph_two : IsGraph two
  graph_two = graph_set one x (put (Row R (Some (length s))) dx) (omega (arith, lx, longer)) (graph_push s d g)
      (row_there (length one) R (omega (arith, longer)) right_there) (row_cell x R (Some (length s)) some_right right.rises)

  graph_three : IsGraph three
  graph_three = graph_set two y (put (Row L (Some (length s))) dy) (omega (arith, ly, two_length)) graph_two
      (row_there (length two) L (omega (arith, two_length)) left_there) (row_cell y L (Some (length s)) some_left left.rises)

  abbrev both_kinds : List Ask
  both_kinds = kind_asks x (slot_at s x).kind ++ kind_asks y (slot_at s y).kind

  abbrev both_lacks : List Ask
  both_lacks = rest_asks (Some (length s)) (field_names R) ++ rest_asks (Some (length s)) (field_names L)

  three_length : length three ≡ length s + 1
  three_length = length-set two y (put (Row L (Some (length s))) dy) ∙ two_length

  asks_there : All (AskInside (length s + 1)) (both_kinds ++ both_lacks)
  asks_there =
      let n = length s + 1 in
      let z : All (λ w. w < n) (length s ∷ []) = All-cons (λ w. w < n) (length s) [] (omega arith) (All-nil (λ w. w < n)) in
      All-append (AskInside n) both_kinds both_lacks
      (All-append (AskInside n) (kind_asks x (slot_at s x).kind) (kind_asks y (slot_at s y).kind)
      (kinds_inside n x (slot_at s x).kind (omega (arith, lx))) (kinds_inside n y (slot_at s y).kind (omega (arith, ly))))
      (All-append (AskInside n) (rest_asks (Some (length s)) (field_names R)) (rest_asks (Some (length s)) (field_names L))
      (rest_inside n (Some (length s)) (field_names R) z) (rest_inside n (Some (length s)) (field_names L) z))

  lx_one : x < length one
  lx_one = omega (arith, lx, longer)

  ly_two : y < length two
  ly_two = omega (arith, ly, two_length)

  at_x : slot_at one x ≡ slot_at s x
  at_x = slot_before s (put Open d) x lx

  at_y : slot_at two y ≡ slot_at s y
  at_y = slot_other one x y (put (Row R (Some (length s))) dx) (λ e. differ (sym e)) ∙ slot_before s (put Open d) y ly

  cell_x : (slot_at three x).cell ≡ Row R (Some (length s))
  cell_x = ap (λ (k : Slot). k.cell) (slot_other two y x (put (Row L (Some (length s))) dy) differ ∙ slot_same one x (put (Row R (Some (length s))) dx) lx_one)

  cell_y : (slot_at three y).cell ≡ Row L (Some (length s))
  cell_y = ap (λ (k : Slot). k.cell) (slot_same two y (put (Row L (Some (length s))) dy) ly_two)

  lacks_met : (σ : Values) → Fit σ three → All (MeetsAsk σ) both_lacks
  lacks_met σ f = All-append (MeetsAsk σ) (rest_asks (Some (length s)) (field_names R)) (rest_asks (Some (length s)) (field_names L))
      (rest_met σ three x R (Some (length s)) f cell_x) (rest_met σ three y L (Some (length s)) f cell_y)

  module _ (before : List Ask) where
    abbrev all_work : List Ask
    all_work = before ++ (both_kinds ++ both_lacks)

    kinds_in : Within both_kinds all_work
    kinds_in a q = within_right before (both_kinds ++ both_lacks) a (within_left both_kinds both_lacks a q)

    lacks_in : Within both_lacks all_work
    lacks_in a q = within_right before (both_kinds ++ both_lacks) a (within_right both_kinds both_lacks a q)

    kind_x : Within (kind_asks x (slot_at one x).kind) all_work
    kind_x a q = kinds_in a (within_left (kind_asks x (slot_at s x).kind) (kind_asks y (slot_at s y).kind) a
        (subst (λ (k : Slot). Contains (kind_asks x k.kind) a) at_x q))

    kind_y : Within (kind_asks y (slot_at two y).kind) all_work
    kind_y a q = kinds_in a (within_right (kind_asks x (slot_at s x).kind) (kind_asks y (slot_at s y).kind) a
        (subst (λ (k : Slot). Contains (kind_asks y k.kind) a) at_y q))

    lacks_r : Within (rest_asks (Some (length s)) (field_names R)) all_work
    lacks_r a q = lacks_in a (within_left (rest_asks (Some (length s)) (field_names R)) (rest_asks (Some (length s)) (field_names L)) a q)

    lacks_l : Within (rest_asks (Some (length s)) (field_names L)) all_work
    lacks_l a q = lacks_in a (within_right (rest_asks (Some (length s)) (field_names R)) (rest_asks (Some (length s)) (field_names L)) a q)

    spread_both : EachSpread s before → EachSpread three all_work
    spread_both h =
        let first : EachSpread one all_work =
        each_kept one before all_work (keeps_within one before all_work (within_left before (both_kinds ++ both_lacks))) (each_made s before d Open tt h) in
        let second : EachSpread two all_work = each_set one all_work all_work x (put (Row R (Some (length s))) dx) lx_one
        (keeps_again one x dx (Row R (Some (length s))) all_work lx_one kind_x) (row_spread two all_work R (Some (length s)) lacks_r) first in
        each_set two all_work all_work y (put (Row L (Some (length s))) dy) ly_two
        (keeps_again two y dy (Row L (Some (length s))) all_work ly_two kind_y) (row_spread three all_work L (Some (length s)) lacks_l) second

    depths_both : KeepsDepths s three
    depths_both = depths_chained s two three (omega (arith, two_length))
        (depths_chained s one two (omega (arith, longer)) (depths_made s (put Open d)) (depths_set one x (put (Row R (Some (length s))) dx) lx_one refl))
        (depths_set two y (put (Row L (Some (length s))) dy) ly_two refl)

    constants_both : KeepsConstants s three
    constants_both = constants_chained s two three
        (constants_chained s one two (constants_made s (put Open d) (λ k z. (cc))) (constants_set one x (put (Row R (Some (length s))) dx) lx_one (λ k z. absurd (cc))))
        (constants_set two y (put (Row L (Some (length s))) dy) ly_two (λ k z. absurd (cc)))

    -- the new variable is as deep as one of those that lead to it
    cell_there : (v : ℕ) → IsCell v (slot_at three v).cell
    cell_there = all_cells three graph_three

    end_named : (fs : List FieldSlot) → Contains (field_slots fs ++ end_slots (Some (length s))) (length s)
    end_named fs = Contains-push (field_slots fs) (length s)

    rests_both : d ≡ min (slot_at s x).depth (slot_at s y).depth → (left : List Ask) (e : ℕ) → LowRestsBut e s three left
    rests_both least left e = record {
      same = λ σ τ f g p q low. same_there σ τ f g low;
    }
      where
        same_new : (σ τ : Values) → Fit σ three → Fit τ three → SameLow e s σ τ → d ≤ e → σ.types (length s) ≡ τ.types (length s)
        same_new σ τ f g low deep = elim (cases_lt e (slot_at s x).depth) [
          | inl m ↦ cell_parts three σ τ f g y (Row L (Some (length s))) (length s) (subst (IsCell y) cell_y (cell_there y))
              (says_at σ three y (Row L (Some (length s))) cell_y f) (says_at τ three y (Row L (Some (length s))) cell_y g)
              (low y ly (omega (arith, m, deep, least))) (end_named L)
          | inr m ↦ cell_parts three σ τ f g x (Row R (Some (length s))) (length s) (subst (IsCell x) cell_x (cell_there x))
              (says_at σ three x (Row R (Some (length s))) cell_x f) (says_at τ three x (Row R (Some (length s))) cell_x g)
              (low x lx m) (end_named R)
        ]

        new_deep : (slot_at three (length s)).depth ≡ d
        new_deep =
            ap (λ (k : Slot). k.depth) (slot_other two y (length s) (put (Row L (Some (length s))) dy) (λ z. omega (arith, z, ly))
            ∙ (slot_other one x (length s) (put (Row R (Some (length s))) dx) (λ z. omega (arith, z, lx)) ∙ slot_pushed s (put Open d)))

        same_there : (σ τ : Values) → Fit σ three → Fit τ three → SameLow e s σ τ → SameLow e three σ τ
        same_there σ τ f g low v l deep = go (which v (length s))
          where
            go : Which v (length s) → σ.types v ≡ τ.types v
            go (Yes z) =
                let h : (slot_at three v).depth ≡ d = ap (λ u. (slot_at three u).depth) z ∙ new_deep in
                subst (λ u. σ.types u ≡ τ.types u) (sym z) (same_new σ τ f g low (omega (arith, h, deep)))
            go (Not n) =
                let there : v < length s = omega (arith, l, n, three_length) in
                let h = depths_both v there in
                low v there (omega (arith, h, deep))

    pub ended_both : d ≡ min (slot_at s x).depth (slot_at s y).depth → (one_more mid lower after : List Ask) → one_more ≡ before ++ kind_asks x (slot_at s x).kind → mid ≡ one_more ++ kind_asks y (slot_at s y).kind
        → lower ≡ mid ++ rest_asks (Some (length s)) (field_names R) → after ≡ lower ++ rest_asks (Some (length s)) (field_names L) → Ended s before L R (Some x) (Some y) three after
    ended_both least one_more mid lower after w v u t =
        let rx = rest_asks (Some (length s)) (field_names R) in
        let ry = rest_asks (Some (length s)) (field_names L) in
        let kinds : mid ≡ before ++ both_kinds = v ∙ (ap (λ xs. xs ++ kind_asks y (slot_at s y).kind) w ∙ append_assoc before (kind_asks x (slot_at s x).kind) (kind_asks y (slot_at s y).kind)) in
        let is : after ≡ all_work = t ∙ (ap (λ xs. xs ++ ry) u ∙ (append_assoc mid rx ry ∙ (ap (λ xs. xs ++ both_lacks) kinds ∙ append_assoc before both_kinds both_lacks))) in
        record {
          left = both_kinds ++ both_lacks;
          work = is;
          inside = subst (λ n. All (AskInside n) (both_kinds ++ both_lacks)) (sym three_length) asks_there;
          turns = λ rest i. turns_more s three both_kinds both_lacks rest lacks_met
              (subst (λ as_. Turns s (λ σ. Rests σ [] [] L R (Some x) (Some y) × All (MeetsAsk σ) rest) three (λ σ. All (MeetsAsk σ) as_))
              (sym (append_assoc (kind_asks x (slot_at s x).kind) (kind_asks y (slot_at s y).kind) rest))
              (both_take s [] [] rest L R x y d dx dy g.inside differ lx ly ox oy apart left.rises right.rises left_there right_there i));
          graph = graph_three;
          spread = λ h. subst (EachSpread three) (sym is) (spread_both h);
          depths = depths_both;
          constants = constants_both;
          rests = rests_both least (both_kinds ++ both_lacks);
        }

-- ---- no solution makes the ends the same

pub bare_at : (s : Store) (x : ℕ) → is_bound (slot_at s x).cell ≡ false → is_row (slot_at s x).cell ≡ false → is_open (slot_at s x).cell ≡ false → Bare s (Some x)
bare_at s x b r o = go (slot_at s x).cell refl b r o
  where
    go : (c : Cell) → (slot_at s x).cell ≡ c → is_bound c ≡ false → is_row c ≡ false → is_open c ≡ false → Bare s (Some x)
    go Open e b r o = absurd (let w : true ≡ false = o in cc)
    go (Bound w) e b r o = absurd (let w : true ≡ false = b in cc)
    go (Built h ws) e b r o = inr (h, ws, e)
    go (Row fs end) e b r o = absurd (let w : true ≡ false = r in cc)
    go (Constant t) e b r o = inl (t, e)

pub open_at : (c : Cell) → is_open c ≡ true → c ≡ Open
open_at Open o = refl
open_at (Bound w) o = absurd (let w : false ≡ true = o in cc)
open_at (Built h ws) o = absurd (let w : false ≡ true = o in cc)
open_at (Row fs end) o = absurd (let w : false ≡ true = o in cc)
open_at (Constant t) o = absurd (let w : false ≡ true = o in cc)

pub takes_never : (s : Store) (fs : List FieldSlot) (g : Option ℕ) (x : ℕ) → IsCell x (Row fs g) → Bare s (Some x) → NoEnds s [] fs (Some x) g
takes_never s [] None x c (inl b) = record { never = λ σ f p. constant_closed σ s f [] [] x b.0 b.1 p }
takes_never s [] None x c (inr b) = record { never = λ σ f p. built_closed σ s f [] [] x b.0 b.1 b.2 p }
takes_never s [] (Some w) x c b = absurd c
takes_never s (h ∷ hs) g x c b = record { never = λ σ f p. second_more σ s f [] [] h [] hs (Some x) g (All-nil (λ y. contains y (field_names (h ∷ hs)) ≡ false)) b p }

pub takes_itself : (s : Store) (fs : List FieldSlot) (g : Option ℕ) (x : ℕ) → IsCell x (Row fs g) → g ≡ Some x → NoEnds s [] fs (Some x) g
takes_itself s fs g x c e = subst (λ y. NoEnds s [] fs (Some x) y) (sym e) (go fs (subst (λ y. IsCell x (Row fs y)) e c))
  where
    go : (fs : List FieldSlot) → IsCell x (Row fs (Some x)) → NoEnds s [] fs (Some x) (Some x)
    go [] c = absurd c
    go (h ∷ hs) c = record { never = λ σ f p. second_more_over σ s f [] [] h [] hs (Some x) (All-nil (λ y. contains y (field_names (h ∷ hs)) ≡ false)) p }

pub first_never : (s : Store) (L R : List FieldSlot) (e g : Option ℕ) → 0 < length L → NoneIn (field_names L) (field_names R) → Bare s g → NoEnds s L R e g
first_never s [] R e g l a b = absurd (omega (arith, l))
first_never s (h ∷ hs) R e g l a b = record { never = λ σ f p. first_more σ s f [] [] h hs R e g a b p }

pub second_never : (s : Store) (L R : List FieldSlot) (e g : Option ℕ) → 0 < length R → NoneIn (field_names L) (field_names R) → Bare s e → NoEnds s L R e g
second_never s L [] e g l a b = absurd (omega (arith, l))
second_never s L (h ∷ hs) e g l a b = record { never = λ σ f p. second_more σ s f [] [] h L hs e g a b p }

pub over_never : (s : Store) (L R : List FieldSlot) (x y : ℕ) → 0 < length L → NoneIn (field_names L) (field_names R) → x ≡ y → NoEnds s L R (Some x) (Some y)
over_never s [] R x y l a e = absurd (omega (arith, l))
over_never s (h ∷ hs) R x y l a e = subst (λ z. NoEnds s (h ∷ hs) R (Some x) (Some z)) e (record { never = λ σ f p. first_more_over σ s f [] [] h hs R (Some x) a p })

-- ---- as the program does it

pub did_take : (s new : Store) (before mid after : List Ask) (fs : List FieldSlot) (g : Option ℕ) (x : ℕ) (c : Cell) → IsGraph s → x < length s → is_open (slot_at s x).cell ≡ true → IsCell x (Row fs g) → IsRest s fs g
    → new ≡ set s x (put c (slot_at s x).depth) → c ≡ Row fs g → mid ≡ before ++ kind_asks x (slot_at s x).kind → after ≡ mid ++ rest_asks g (field_names fs) → Ended s before [] fs (Some x) g new after
did_take s new before mid after fs g x c graph l o k r e f w v =
    subst (λ t. Ended s before [] fs (Some x) g t after) (sym (e ∙ ap (λ y. set s x (put y (slot_at s x).depth)) f))
    (ended_takes s before mid after fs g x graph l (open_at (slot_at s x).cell o) k r w v)

pub did_both : (s m t new : Store) (L R : List FieldSlot) (x y z d : ℕ) (before one_more mid lower after : List Ask) → IsGraph s → x ≢ y → x < length s → y < length s
    → (slot_at s x).cell ≡ Open → (slot_at s y).cell ≡ Open → 0 < length L → 0 < length R → IsRest s L (Some x) → IsRest s R (Some y) → NoneIn (field_names L) (field_names R)
    → d ≡ min (slot_at s x).depth (slot_at s y).depth → z ≡ length s → m ≡ s ++ put Open d ∷ [] → t ≡ set m x (put (Row R (Some z)) (slot_at m x).depth) → new ≡ set t y (put (Row L (Some z)) (slot_at t y).depth)
    → one_more ≡ before ++ kind_asks x (slot_at s x).kind → mid ≡ one_more ++ kind_asks y (slot_at s y).kind
    → lower ≡ mid ++ rest_asks (Some z) (field_names R) → after ≡ lower ++ rest_asks (Some z) (field_names L) → Ended s before L R (Some x) (Some y) new after
did_both s m t new L R x y z d before one_more mid lower after g n lx ly ox oy sl sr left right apart least ez em et en w v u k =
    let second : (m : Store) (z : ℕ) → Store = λ m z. set m x (put (Row R (Some z)) (slot_at m x).depth) in
    let third : (t : Store) (z : ℕ) → Store = λ t z. set t y (put (Row L (Some z)) (slot_at t y).depth) in
    let made = s ++ put Open d ∷ [] in
    let is : new ≡ third (second made (length s)) (length s) =
    en ∙ (ap (λ t. third t z) (et ∙ ap (λ m. second m z) em) ∙ ap (λ z. third (second made z) z) ez) in
    subst (λ q. Ended s before L R (Some x) (Some y) q after) (sym is)
    (ended_both s L R x y d g n lx ly ox oy sl sr left right apart before least one_more mid lower after w v
    (u ∙ ap (λ z. mid ++ rest_asks (Some z) (field_names R)) ez) (k ∙ ap (λ z. lower ++ rest_asks (Some z) (field_names L)) ez))

pub no_fields : (fs : List stored_field.FieldSlot) → length fs ≡ 0 → map field_view fs ≡ []
no_fields [] e = refl
no_fields (f ∷ fs) e = absurd (omega (arith, e))

pub did_same : (s : Store) (before after : List Ask) (L R : List FieldSlot) (x y : ℕ) → L ≡ [] → R ≡ [] → IsGraph s → x < length s → y < length s → after ≡ before ++ Same x y ∷ [] → Ended s before L R (Some x) (Some y) s after
did_same s before after L R x y a b g lx ly w =
    subst (λ fs. Ended s before fs R (Some x) (Some y) s after) (sym a) (subst (λ fs. Ended s before [] fs (Some x) (Some y) s after) (sym b) (ended_same s before after x y g lx ly w))

pub did_turned : (s new : Store) (before after : List Ask) (L R : List FieldSlot) (e g : Option ℕ) → R ≡ [] → Ended s before [] L g e new after → Ended s before L R e g new after
did_turned s new before after L R e g r h = subst (λ fs. Ended s before L fs e g new after) (sym r) (ended_turned s new before after [] L g e h)

pub turned_never : (s : Store) (L R : List FieldSlot) (e g : Option ℕ) → R ≡ [] → NoEnds s [] L g e → NoEnds s L R e g
turned_never s L R e g r h = subst (λ fs. NoEnds s L fs e g) (sym r) (never_turned s [] L g e h)

pub did_none : (s : Store) (before : List Ask) (L R : List FieldSlot) (e g : Option ℕ) → L ≡ [] → R ≡ [] → e ≡ None → g ≡ None → IsGraph s → Ended s before L R e g s before
did_none s before L R e g a b x y graph =
    subst (λ fs. Ended s before fs R e g s before) (sym a) (subst (λ fs. Ended s before [] fs e g s before) (sym b)
    (subst (λ o. Ended s before [] [] o g s before) (sym x) (subst (λ o. Ended s before [] [] None o s before) (sym y) (ended_none s before graph))))

-- a closed row has no other fields
pub bare_none : (s : Store) (e : Option ℕ) → e ≡ None → Bare s e
bare_none s e q = subst (Bare s) (sym q) tt

pub did_closed : (s new : Store) (before after : List Ask) (L R : List FieldSlot) (e g : Option ℕ) (y : ℕ) → R ≡ [] → e ≡ None → g ≡ Some y → Ended s before [] L (Some y) None new after → Ended s before L R e g new after
did_closed s new before after L R e g y r a b h =
    did_turned s new before after L R e g r
    (subst (λ o. Ended s before [] L o e new after) (sym b) (subst (λ o. Ended s before [] L (Some y) o new after) (sym a) h))

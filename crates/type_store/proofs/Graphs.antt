-- Steps keep each slot as it is to be.
use Rattle.std.proofs.Common.{◌≡◌, ℕ, ◌<◌, List, [], ◌∷◌, ◌++◌, length, set, map, Bool, true, false, Option, Some, None, refl, sym, ap, ◌∙◌, subst, arith, All}
use Rattle.std.specs.Prelude.{if◌then◌else◌}
use Rattle.std.proofs.lemmas.List.{length-set, append-nil}
use Rattle.std.proofs.lemmas.List.Elements.{All-head, All-tail, All-cons, All-nil, All-weaker}
use Rattle.elm_type.specs.Types.{Name, Kind}
use Rattle.elm_type.specs.Classes.{meet, is_below, is_any, asks, meets}
use Rattle.elm_type.specs.declared.class.Class.{Class}
use Rattle.elm_type.specs.declared.demands.Demand.{Demand}
use Rattle.elm_type.specs.declared.demands.Demand.TheVariants.{Never, Always, OfParts}
use Rattle.elm_type.specs.Ground.{contains, lacks, lacks_all}
use Rattle.type_store.specs.Store.{FieldSlot, Cell, Open, Bound, Built, Row, Constant, Slot, Store, slot_at, field_names, field_slots, end_slots}
use Rattle.type_store.specs.Solutions.{Says, Ask, InClass, Lacks, MeetsAsk, Becomes, Clash}
use Rattle.type_store.specs.Shape.{IsCell, parts_of}
use Rattle.type_store.specs.Steps.{AskInside, IsGraph, Stepped, kind_asks, part_asks, demand_asks, class_asks, lack_asks, with_kind}
use Rattle.type_store.proofs.Turns.{Which, Yes, Not, which, slot_same, slot_other, one_ask, becomes_chained, all_right}
use Rattle.type_store.proofs.OneSlot.{HasFields}
use Rattle.type_store.proofs.KindSteps.{implied, class_set, class_known, parts_asked, never_built, constant_no_class, row_no_class, lacks_set, lacks_known, built_lacks, row_has, end_asked, constant_has, below_both, contains_pushed}
use Rattle.type_store.proofs.Classes.{below_meets as above_meets}
use Rattle.type_store.proofs.Lacking.{lacks_in}
use Rattle.type_store.proofs.RowsMeet.{and_left, and_right}
use Rattle.type_store.specs.Spreading.{EachSpread}
use Rattle.type_store.proofs.Keeping.{depths_set, depths_itself}
use Rattle.type_store.proofs.Resting.{constants_set, constants_itself, rests_kept}
use Rattle.type_store.proofs.KindSpreads.{class_spread, class_needless, lack_spread, lack_needless}

pub graph_set : (s : Store) (v : ℕ) (slot : Slot) → v < length s → IsGraph s → All (λ w. w < length s) (parts_of slot.cell) → IsCell v slot.cell → IsGraph (set s v slot)
graph_set s v slot l g i c = record {
  inside = λ w h. inside_at w (which w v) (omega (arith, length-set s v slot));
  cells = λ w h. cell_at w (which w v) (omega (arith, length-set s v slot));
}
  where
    more : (ws : List ℕ) → All (λ w. w < length s) ws → All (λ w. w < length (set s v slot)) ws
    more ws a = All-weaker (λ w. w < length s) (λ w. w < length (set s v slot)) (λ w h. omega (arith, length-set s v slot)) ws a

    inside_at : (w : ℕ) → Which w v → w < length s → All (λ u. u < length (set s v slot)) (parts_of (slot_at (set s v slot) w).cell)
    inside_at w (Yes e) h =
        subst (λ x. All (λ u. u < length (set s v slot)) (parts_of (slot_at (set s v slot) x).cell)) (sym e)
        (subst (λ (x : Slot). All (λ u. u < length (set s v slot)) (parts_of x.cell)) (sym (slot_same s v slot l)) (more (parts_of slot.cell) i))
    inside_at w (Not n) h =
        subst (λ (x : Slot). All (λ u. u < length (set s v slot)) (parts_of x.cell)) (sym (slot_other s v w slot n)) (more (parts_of (slot_at s w).cell) (g.inside w h))

    cell_at : (w : ℕ) → Which w v → w < length s → IsCell w (slot_at (set s v slot) w).cell
    cell_at w (Yes e) h =
        subst (λ x. IsCell x (slot_at (set s v slot) x).cell) (sym e) (subst (λ (x : Slot). IsCell v x.cell) (sym (slot_same s v slot l)) c)
    cell_at w (Not n) h = subst (λ (x : Slot). IsCell w x.cell) (sym (slot_other s v w slot n)) (g.cells w h)

pub kind_kept : (s : Store) (v : ℕ) (k : Kind) → v < length s → IsGraph s → IsGraph (set s v (with_kind (slot_at s v) k))
kind_kept s v k l g = graph_set s v (with_kind (slot_at s v) k) l g (g.inside v l) (g.cells v l)

pub has_fields : (v : ℕ) (fs : List FieldSlot) (end : Option ℕ) → IsCell v (Row fs end) → HasFields fs end
has_fields v [] None h = tt
has_fields v [] (Some w) h = h
has_fields v (f ∷ fs) end h = tt

pub row_fields : (s : Store) (v : ℕ) (fs : List FieldSlot) (end : Option ℕ) → IsGraph s → v < length s → (slot_at s v).cell ≡ Row fs end → HasFields fs end
row_fields s v fs end g l e = has_fields v fs end (subst (IsCell v) e (g.cells v l))

-- ---- asks are of what is there

pub parts_inside : (n : ℕ) (c : Class) (ws : List ℕ) → All (λ w. w < n) ws → All (AskInside n) (part_asks c ws)
parts_inside n c [] a = All-nil (AskInside n)
parts_inside n c (w ∷ ws) a = All-cons (AskInside n) (InClass w c) (part_asks c ws) (All-head (λ w. w < n) w ws a) (parts_inside n c ws (All-tail (λ w. w < n) w ws a))

lacks_inside : (n v : ℕ) (xs : List Name) → v < n → All (AskInside n) (map (Lacks v) xs)
lacks_inside n v [] l = All-nil (AskInside n)
lacks_inside n v (x ∷ xs) l = All-cons (AskInside n) (Lacks v x) (map (Lacks v) xs) l (lacks_inside n v xs l)

pub kinds_inside : (n v : ℕ) (k : Kind) → v < n → All (AskInside n) (kind_asks v k)
kinds_inside n v k l = All-cons (AskInside n) (InClass v k.class) (map (Lacks v) k.lacks) l (lacks_inside n v k.lacks l)

ends_inside : (n : ℕ) (x : Name) (ws : List ℕ) → All (λ w. w < n) ws → All (AskInside n) (map (λ w. Lacks w x) ws)
ends_inside n x [] a = All-nil (AskInside n)
ends_inside n x (w ∷ ws) a = All-cons (AskInside n) (Lacks w x) (map (λ w. Lacks w x) ws) (All-head (λ w. w < n) w ws a) (ends_inside n x ws (All-tail (λ w. w < n) w ws a))

-- ---- a class

abbrev on_true : Bool → Option (List Ask)
on_true b = if b then Some [] else None

-- where the answer is that of a test
data Tested (b : Bool) : Type 0 where
  Is : b ≡ true → Tested b
  IsNot : b ≡ false → Tested b

tested : (b : Bool) → Tested b
tested true = Is refl
tested false = IsNot refl

-- what is known of a variable that is bound is known of the other
class_bound : (t : Store) (v u : ℕ) (c : Class) → (slot_at t v).cell ≡ Bound u → is_below (slot_at t v).kind.class c ≡ true → Becomes t [] t (InClass u c ∷ [])
class_bound t v u c e b = implied t (InClass u c ∷ []) (λ σ f.
    let is : σ.types v ≡ σ.types u = subst (Says σ (σ.types v)) e (f.each v).cell in
    let m = and_left (meets (slot_at t v).kind.class (σ.types v)) (lacks_all (slot_at t v).kind.lacks (σ.types v)) (f.each v).kind in
    one_ask σ (InClass u c) (subst (λ x. meets c x ≡ true) is (above_meets (slot_at t v).kind.class c (σ.types v) b m)))

lack_bound : (t : Store) (v u : ℕ) (x : Name) → (slot_at t v).cell ≡ Bound u → contains x (slot_at t v).kind.lacks ≡ true → Becomes t [] t (Lacks u x ∷ [])
lack_bound t v u x e b = implied t (Lacks u x ∷ []) (λ σ f.
    let is : σ.types v ≡ σ.types u = subst (Says σ (σ.types v)) e (f.each v).cell in
    let m = and_right (meets (slot_at t v).kind.class (σ.types v)) (lacks_all (slot_at t v).kind.lacks (σ.types v)) (f.each v).kind in
    one_ask σ (Lacks u x) (subst (λ y. lacks x y ≡ true) is (lacks_in x (slot_at t v).kind.lacks (σ.types v) b m)))

module _ (s : Store) (v : ℕ) (c : Class) (g : IsGraph s) (l : v < length s) where
  clash_cell : (k : Cell) → (slot_at s v).cell ≡ k → class_asks c k ≡ None → Clash s (InClass v c ∷ [])
  clash_cell Open e q = absurd (cc)
  clash_cell (Bound w) e q = absurd (cc)
  clash_cell (Built h ws) e q = go (asks c h (length ws)) refl q
    where
      go : (d : Demand) → asks c h (length ws) ≡ d → demand_asks d ws ≡ None → Clash s (InClass v c ∷ [])
      go Never p r = never_built s v c h ws e p
      go Always p r = absurd (cc)
      go (OfParts d) p r = absurd (cc)
  clash_cell (Row fs end) e q = go (tested (is_any c))
    where
      go : Tested (is_any c) → Clash s (InClass v c ∷ [])
      go (Is p) = absurd (let w : Some [] ≡ None = sym (ap on_true p) ∙ q in cc)
      go (IsNot p) = row_no_class s v c fs end (row_fields s v fs end g l e) e p
  clash_cell (Constant r) e q = go (tested (is_below r.class c))
    where
      go : Tested (is_below r.class c) → Clash s (InClass v c ∷ [])
      go (Is p) = absurd (let w : Some [] ≡ None = sym (ap on_true p) ∙ q in cc)
      go (IsNot p) = constant_no_class s v c r e p

  pub class_clash : class_asks c (slot_at s v).cell ≡ None → Clash s (InClass v c ∷ [])
  class_clash q = clash_cell (slot_at s v).cell refl q

  -- what is asked of the parts follows, once the slot has the class
  module _ (t : Store) (same : (slot_at t v).cell ≡ (slot_at s v).cell) (below : is_below (slot_at t v).kind.class c ≡ true) where
    asked_cell : (k : Cell) (left : List Ask) → (slot_at s v).cell ≡ k → class_asks c k ≡ Some left → Becomes t [] t left × All (AskInside (length s)) left
    asked_cell Open left e q = none left q
      where
        none : (left : List Ask) → Some [] ≡ Some left → Becomes t [] t left × All (AskInside (length s)) left
        none left q = let w : [] ≡ left = cc in (subst (λ as_. Becomes t [] t as_) w (implied t [] (λ σ f. All-nil (MeetsAsk σ))), subst (All (AskInside (length s))) w (All-nil (AskInside (length s))))
    asked_cell (Bound u) left e q =
        let w : InClass u c ∷ [] ≡ left = cc in
        let there : All (λ w. w < length s) (u ∷ []) = subst (λ k. All (λ w. w < length s) (parts_of k)) e (g.inside v l) in
        (subst (λ as_. Becomes t [] t as_) w (class_bound t v u c (same ∙ e) below), subst (All (AskInside (length s))) w (parts_inside (length s) c (u ∷ []) there))
    asked_cell (Built h ws) left e q = go (asks c h (length ws)) refl q
      where
        there : All (λ w. w < length s) ws
        there = subst (λ k. All (λ w. w < length s) (parts_of k)) e (g.inside v l)

        go : (d : Demand) → asks c h (length ws) ≡ d → demand_asks d ws ≡ Some left → Becomes t [] t left × All (AskInside (length s)) left
        go Never p r = absurd (cc)
        go Always p r =
            let w : [] ≡ left = cc in (subst (λ as_. Becomes t [] t as_) w (implied t [] (λ σ f. All-nil (MeetsAsk σ))), subst (All (AskInside (length s))) w (All-nil (AskInside (length s))))
        go (OfParts d) p r =
            let w : part_asks d ws ≡ left = cc in
            (subst (λ as_. Becomes t [] t as_) w (parts_asked t v c d h ws (same ∙ e) below p), subst (All (AskInside (length s))) w (parts_inside (length s) d ws there))
    asked_cell (Row fs end) left e q = go (tested (is_any c))
      where
        go : Tested (is_any c) → Becomes t [] t left × All (AskInside (length s)) left
        go (Is p) =
            let w : Some [] ≡ Some left = sym (ap on_true p) ∙ q in
            let y : [] ≡ left = cc in (subst (λ as_. Becomes t [] t as_) y (implied t [] (λ σ f. All-nil (MeetsAsk σ))), subst (All (AskInside (length s))) y (All-nil (AskInside (length s))))
        go (IsNot p) = absurd (let w : None ≡ Some left = sym (ap on_true p) ∙ q in cc)
    asked_cell (Constant r) left e q = go (tested (is_below r.class c))
      where
        go : Tested (is_below r.class c) → Becomes t [] t left × All (AskInside (length s)) left
        go (Is p) =
            let w : Some [] ≡ Some left = sym (ap on_true p) ∙ q in
            let y : [] ≡ left = cc in (subst (λ as_. Becomes t [] t as_) y (implied t [] (λ σ f. All-nil (MeetsAsk σ))), subst (All (AskInside (length s))) y (All-nil (AskInside (length s))))
        go (IsNot p) = absurd (let w : None ≡ Some left = sym (ap on_true p) ∙ q in cc)

  pub class_step : (d : Class) (left before after : List Ask) → meet (slot_at s v).kind.class c ≡ Some d → class_asks c (slot_at s v).cell ≡ Some left → after ≡ before ++ left
      → Stepped s before (InClass v c ∷ []) (set s v (with_kind (slot_at s v) (record { class = d; lacks = (slot_at s v).kind.lacks }))) after
  class_step d left before after m q w =
      let k : Kind = record { class = d; lacks = (slot_at s v).kind.lacks } in
      let t = set s v (with_kind (slot_at s v) k) in
      let at_v : slot_at t v ≡ with_kind (slot_at s v) k = slot_same s v (with_kind (slot_at s v) k) l in
      let below : is_below (slot_at t v).kind.class c ≡ true = ap (λ (x : Slot). is_below x.kind.class c) at_v ∙ below_both (slot_at s v).kind.class c d m in
      let a = asked_cell t (ap (λ (x : Slot). x.cell) at_v) below (slot_at s v).cell left refl q in
      record {
        left = left;
        work = w;
        inside = subst (λ n. All (AskInside n) left) (sym (length-set s v (with_kind (slot_at s v) k))) a.1;
        becomes = becomes_chained s t t (InClass v c ∷ []) [] left (class_set s v c d l m) a.0;
        graph = kind_kept s v k l g;
        spread = λ e. subst (EachSpread t) (sym w) (class_spread s v c before left d l m q e);
        depths = depths_set s v (with_kind (slot_at s v) k) l refl;
        constants = constants_set s v (with_kind (slot_at s v) k) l (λ r z. z);
        rests = rests_kept s t left (length-set s v (with_kind (slot_at s v) k)) (depths_set s v (with_kind (slot_at s v) k) l refl);
      }

  pub class_there : (before after : List Ask) → is_below (slot_at s v).kind.class c ≡ true → after ≡ before → Stepped s before (InClass v c ∷ []) s after
  class_there before after b w = record {
    left = [];
    work = w ∙ sym (append-nil before);
    inside = All-nil (AskInside (length s));
    becomes = class_known s v c b;
    graph = g;
    spread = λ e. subst (EachSpread s) (sym w) (class_needless s v c before b e);
    depths = depths_itself s;
    constants = constants_itself s;
    rests = rests_kept s s [] refl (depths_itself s);
  }

-- ---- a field that a variable lacks

module _ (s : Store) (v : ℕ) (x : Name) (g : IsGraph s) (l : v < length s) where
  lack_clash_cell : (k : Cell) → (slot_at s v).cell ≡ k → lack_asks x k ≡ None → Clash s (Lacks v x ∷ [])
  lack_clash_cell Open e q = absurd (cc)
  lack_clash_cell (Bound w) e q = absurd (cc)
  lack_clash_cell (Built h ws) e q = built_lacks s v x h ws e
  lack_clash_cell (Row fs end) e q = go (tested (contains x (field_names fs)))
    where
      go : Tested (contains x (field_names fs)) → Clash s (Lacks v x ∷ [])
      go (Is p) = row_has s v x fs end e p
      go (IsNot p) = absurd (let w : Some (map (λ w. Lacks w x) (end_slots end)) ≡ None = sym (ap (λ b. if b then None else Some (map (λ w. Lacks w x) (end_slots end))) p) ∙ q in cc)
  lack_clash_cell (Constant r) e q = go (tested (contains x r.lacks))
    where
      go : Tested (contains x r.lacks) → Clash s (Lacks v x ∷ [])
      go (Is p) = absurd (let w : Some [] ≡ None = sym (ap on_true p) ∙ q in cc)
      go (IsNot p) = constant_has s v x r e p

  pub lack_clash : lack_asks x (slot_at s v).cell ≡ None → Clash s (Lacks v x ∷ [])
  lack_clash q = lack_clash_cell (slot_at s v).cell refl q

  module _ (t : Store) (same : (slot_at t v).cell ≡ (slot_at s v).cell) (known : contains x (slot_at t v).kind.lacks ≡ true) where
    no_asks : (left : List Ask) → [] ≡ left → Becomes t [] t left × All (AskInside (length s)) left
    no_asks left y = (subst (λ as_. Becomes t [] t as_) y (implied t [] (λ σ f. All-nil (MeetsAsk σ))), subst (All (AskInside (length s))) y (All-nil (AskInside (length s))))

    lack_cell : (k : Cell) (left : List Ask) → (slot_at s v).cell ≡ k → lack_asks x k ≡ Some left → Becomes t [] t left × All (AskInside (length s)) left
    lack_cell Open left e q = no_asks left cc
    lack_cell (Bound u) left e q =
        let w : Lacks u x ∷ [] ≡ left = cc in
        let there : All (λ w. w < length s) (u ∷ []) = subst (λ k. All (λ w. w < length s) (parts_of k)) e (g.inside v l) in
        (subst (λ as_. Becomes t [] t as_) w (lack_bound t v u x (same ∙ e) known), subst (All (AskInside (length s))) w (ends_inside (length s) x (u ∷ []) there))
    lack_cell (Built h ws) left e q = absurd (cc)
    lack_cell (Row fs end) left e q = go (tested (contains x (field_names fs)))
      where
        there : All (λ w. w < length s) (field_slots fs ++ end_slots end)
        there = subst (λ k. All (λ w. w < length s) (parts_of k)) e (g.inside v l)

        ended : (end : Option ℕ) → (slot_at s v).cell ≡ Row fs end → Becomes t [] t (map (λ w. Lacks w x) (end_slots end))
        ended None e = implied t [] (λ σ f. All-nil (MeetsAsk σ))
        ended (Some w) e = end_asked t v w x fs (same ∙ e) known

        go : Tested (contains x (field_names fs)) → Becomes t [] t left × All (AskInside (length s)) left
        go (Is p) = absurd (let w : None ≡ Some left = sym (ap (λ b. if b then None else Some (map (λ w. Lacks w x) (end_slots end))) p) ∙ q in cc)
        go (IsNot p) =
            let w : Some (map (λ w. Lacks w x) (end_slots end)) ≡ Some left = sym (ap (λ b. if b then None else Some (map (λ w. Lacks w x) (end_slots end))) p) ∙ q in
            let y : map (λ w. Lacks w x) (end_slots end) ≡ left = cc in
            (subst (λ as_. Becomes t [] t as_) y (ended end e), subst (All (AskInside (length s))) y (ends_inside (length s) x (end_slots end) (all_right (λ w. w < length s) (field_slots fs) (end_slots end) there)))
    lack_cell (Constant r) left e q = go (tested (contains x r.lacks))
      where
        go : Tested (contains x r.lacks) → Becomes t [] t left × All (AskInside (length s)) left
        go (Is p) = (let w : Some [] ≡ Some left = sym (ap on_true p) ∙ q in no_asks left cc)
        go (IsNot p) = absurd (let w : None ≡ Some left = sym (ap on_true p) ∙ q in cc)

  pub lack_step : (left before after : List Ask) → lack_asks x (slot_at s v).cell ≡ Some left → after ≡ before ++ left
      → Stepped s before (Lacks v x ∷ []) (set s v (with_kind (slot_at s v) (record { class = (slot_at s v).kind.class; lacks = (slot_at s v).kind.lacks ++ x ∷ [] }))) after
  lack_step left before after q w =
      let k : Kind = record { class = (slot_at s v).kind.class; lacks = (slot_at s v).kind.lacks ++ x ∷ [] } in
      let t = set s v (with_kind (slot_at s v) k) in
      let at_v : slot_at t v ≡ with_kind (slot_at s v) k = slot_same s v (with_kind (slot_at s v) k) l in
      let known : contains x (slot_at t v).kind.lacks ≡ true = ap (λ (y : Slot). contains x y.kind.lacks) at_v ∙ contains_pushed (slot_at s v).kind.lacks x in
      let a = lack_cell t (ap (λ (y : Slot). y.cell) at_v) known (slot_at s v).cell left refl q in
      record {
        left = left;
        work = w;
        inside = subst (λ n. All (AskInside n) left) (sym (length-set s v (with_kind (slot_at s v) k))) a.1;
        becomes = becomes_chained s t t (Lacks v x ∷ []) [] left (lacks_set s v x l) a.0;
        graph = kind_kept s v k l g;
        spread = λ e. subst (EachSpread t) (sym w) (lack_spread s v x before left l q e);
        depths = depths_set s v (with_kind (slot_at s v) k) l refl;
        constants = constants_set s v (with_kind (slot_at s v) k) l (λ r z. z);
        rests = rests_kept s t left (length-set s v (with_kind (slot_at s v) k)) (depths_set s v (with_kind (slot_at s v) k) l refl);
      }

  pub lack_there : (before after : List Ask) → contains x (slot_at s v).kind.lacks ≡ true → after ≡ before → Stepped s before (Lacks v x ∷ []) s after
  lack_there before after b w = record {
    left = [];
    work = w ∙ sym (append-nil before);
    inside = All-nil (AskInside (length s));
    becomes = lacks_known s v x b;
    graph = g;
    spread = λ e. subst (EachSpread s) (sym w) (lack_needless s v x before b e);
    depths = depths_itself s;
    constants = constants_itself s;
    rests = rests_kept s s [] refl (depths_itself s);
  }

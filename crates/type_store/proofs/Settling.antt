-- A store becomes whole again.
use Rattle.std.proofs.Common.{◌≡◌, ℕ, ◌<◌, ◌≤◌, List, [], ◌∷◌, ◌++◌, length, take, true, ⊎_elim, Some, None, inl, sym, ap, ◌∙◌, subst, arith}
use Rattle.std.specs.List.{All, Contains}
use Rattle.std.proofs.lemmas.Bool.{cases_lt}
use Rattle.std.proofs.lemmas.List.Elements.{All-weaker, All-nil, All-cons}
use Rattle.elm_type.specs.Types.{Name, Kind, variable}
use Rattle.elm_type.specs.Classes.{is_below, asks}
use Rattle.elm_type.specs.declared.class.Class.{Class}
use Rattle.elm_type.specs.declared.demands.Demand.{Demand}
use Rattle.elm_type.specs.declared.demands.Demand.TheVariants.{Never, Always, OfParts}
use Rattle.elm_type.specs.Ground.{contains}
use Rattle.type_store.specs.Store.{Cell, Open, Bound, Built, Row, Constant, Slot, Store, slot_at, field_names}
use Rattle.type_store.specs.Shape.{Demanded, Spread, IsStore, Once, parts_of}
use Rattle.type_store.specs.Solutions.{Ask, MeetsAsk}
use Rattle.type_store.specs.Spreading.{HasClass, HasLack, DemandedBut, SpreadBut, EachSpread}
use Rattle.type_store.specs.Steps.{AskInside, IsGraph, Noted, undone, written}
use Rattle.type_store.specs.Ends.{Ran}
use Rattle.type_store.specs.Finish.{IsSettled}
use Rattle.type_store.specs.Cycles.{RankedBut}
use Rattle.type_store.specs.Levels.{depth_at, depths_undone, IsLowered, IsLevelled, IsLevelledBut, Waiting}
use Rattle.type_store.specs.declared.level.DepthChange.{DepthChange}
use Rattle.type_store.specs.declared.slot.Slot as kept
use Rattle.type_store.specs.declared.change.Change.{Change}
use Rattle.type_store.specs.declared.ask.Ask as stored
use Rattle.type_store.specs.View.{ask_view, store_view, trail_view, work_view}
use Rattle.type_store.proofs.Undoing.{length_view}
use Rattle.type_store.specs.Adding.{IsReady, Settled}
use Rattle.type_store.proofs.Classes.{below_meets}
use Rattle.type_store.proofs.Parts.{slot_past}
use Rattle.type_store.proofs.Spreading.{all_spread}
use Rattle.type_store.proofs.Trails.{same_cells}
use Rattle.type_store.proofs.Turns.{becomes_chained}
use Rattle.type_store.proofs.Whole.{ranked_but, levelled_but, lowered_becomes, fit_back}
use Rattle.type_store.proofs.Resting.{all_cells, constants_chained, constants_same, no_new, rests_lowered}

-- ---- what is known is known, whatever is asked

pub below_again : (b c d : Class) → is_below b c ≡ true → is_below c d ≡ true → is_below b d ≡ true
below_again b c d g h = below_meets c d (variable (record { place = []; name = []; class = b; lacks = [] })) h g

module _ (s : Store) (work : List Ask) where
  class_has : (w : ℕ) (c : Class) → is_below (slot_at s w).kind.class c ≡ true → HasClass s work w c
  class_has w c h b p q = below_again b (slot_at s w).kind.class c p h

  lacks_has : (w : ℕ) (xs : List Name) → All (λ x. contains x (slot_at s w).kind.lacks ≡ true) xs → All (HasLack s work w) xs
  lacks_has w xs h = All-weaker (λ x. contains x (slot_at s w).kind.lacks ≡ true) (HasLack s work w) (λ x q. inl q) xs h

  demands_has : (d : Demand) (ws : List ℕ) → Demanded s d ws → DemandedBut s work d ws
  demands_has Never ws h = h
  demands_has Always ws h = h
  demands_has (OfParts c) ws h = All-weaker (λ w. is_below (slot_at s w).kind.class c ≡ true) (λ w. HasClass s work w c) (λ w. class_has w c) ws h

  pub spread_has : (k : Kind) (c : Cell) → Spread s k c → SpreadBut s work k c
  spread_has k Open h = h
  spread_has k (Bound w) h = (class_has w k.class h.0, lacks_has w k.lacks h.1)
  spread_has k (Built f ws) h = (h.0, demands_has (asks k.class f (length ws)) ws h.1)
  spread_has k (Row fs None) h = h
  spread_has k (Row fs (Some w)) h = (h.0, h.1, lacks_has w (k.lacks ++ field_names fs) h.2)
  spread_has k (Constant r) h = h

pub store_graph : (s : Store) → IsStore s → IsGraph s
store_graph s h = record { inside = λ v l. (h.each v l).inside; cells = λ v l. (h.each v l).cell }

pub store_level : (s : Store) → IsStore s → IsLevelled s
store_level s h = record {
  each = λ v. ⊎_elim (λ l. (h.each v l).levelled)
      (λ k. subst (λ (x : Slot). All (λ w. depth_at s w ≤ depth_at s v) (parts_of x.cell)) (sym (slot_past s v k)) (All-nil (λ w. depth_at s w ≤ depth_at s v)))
      (cases_lt v (length s));
}

pub store_spread : (s : Store) (work : List Ask) → IsStore s → EachSpread s work
store_spread s work h v l = spread_has s work (slot_at s v).kind (slot_at s v).cell (h.each v l).spread

-- a whole store is ready for what is asked
pub ready : (s : Store) (asked : List Ask) → IsStore s → All (AskInside (length s)) asked → IsReady s asked
ready s asked h i = record { graph = store_graph s h; inside = i; spread = store_spread s asked h; levelled = store_level s h; ranked = h.ranked; once = h.once }

-- ---- all that was asked is done

module _ (old new : Store) (asked : List Ask) (r : IsReady old asked) (ran : Ran old asked new) where
  pub ran_settled : IsSettled new
  ran_settled = record {
    inside = ran.graph.inside;
    cells = ran.graph.cells;
    spread = λ v l. all_spread new (slot_at new v).kind (slot_at new v).cell (ran.spread r.spread v l);
    once = ran.constants.once r.once;
  }

  module _ (trail : List Noted) (changed : List ℕ) (back : take (length old) (undone new trail) ≡ old)
      (noted : (v : ℕ) → v < length new → Contains (written trail) v → Contains changed v) (made : (v : ℕ) → length old ≤ v → v < length new → Contains changed v) where
    same : (v : ℕ) → (Contains changed v → ⊥) → (slot_at new v).cell ≡ (slot_at old v).cell
    same = same_cells old new trail changed back ran.becomes.grows noted made

    pub ran_levelled : IsLevelledBut new (Waiting changed)
    ran_levelled =
        levelled_but old new changed same r.graph.inside (λ v l. omega (arith, ran.depths v l)) (λ v l n. ran.depths v l) r.levelled

    pub ran_ranked : RankedBut new changed
    ran_ranked = ranked_but old new changed same r.ranked

  pub ran_whole : (last : Store) → IsLowered new last → IsStore last → Settled old asked last
  ran_whole last low whole = record {
    whole = whole;
    becomes = becomes_chained old new last asked [] [] ran.becomes (lowered_becomes new last low []);
    goes = record {
      grows = omega (arith, ran.becomes.grows, low.count);
      no_deeper = λ v l. omega (arith, low.lower v, ran.depths v l);
      rests = λ e. record {
        same = λ σ τ f g h. (rests_lowered new last low (all_cells new ran.graph) e).same σ τ f g
            ((ran.rests e).same σ τ (fit_back new last low σ f) (fit_back new last low τ g) (All-nil (MeetsAsk σ)) (All-nil (MeetsAsk τ)) h);
      };
      constants = no_new old last (constants_chained old new last ran.constants (constants_same new last (λ v r e. sym (low.cells v) ∙ e)));
    };
  }

-- ---- a store without variables

empty_once : Once []
empty_once v w r e f = absurd (let x = ap (λ (y : Slot). y.cell) (sym (slot_past [] v (omega arith))) ∙ e in cc)

pub empty_whole : (s : Store) → s ≡ [] → IsStore s
empty_whole s e = subst IsStore (sym e) (record {
  each = λ v l. absurd (omega (arith, l));
  ranked = record {
    rank = λ v. 0;
    each = λ v. subst (λ (x : Slot). All (λ w. 0 < 0) (parts_of x.cell)) (sym (slot_past [] v (omega arith))) (All-nil (λ w. 0 < 0));
  };
  once = empty_once;
})

-- ---- as the program does it

pub undone_back : (old mid new : Store) (n : ℕ) (es cs : List Noted) (ds : List DepthChange) → depths_undone new ds ≡ mid → take n (undone mid es) ≡ undone old cs → cs ≡ []
    → take n (undone (depths_undone new ds) es) ≡ old
undone_back old mid new n es cs ds e h f = ap (λ t. take n (undone t es)) e ∙ (h ∙ ap (undone old) f)

pub ready_inside : (slots : List kept.Slot) (asked : List Ask) → IsReady (store_view slots) asked → All (AskInside (length slots)) asked
ready_inside slots asked r = subst (λ n. All (AskInside n) asked) (length_view slots) r.inside

pub none_all : {X : Type 0} (P : X → Type 0) (xs : List X) → xs ≡ [] → All P xs
none_all P xs e = subst (All P) (sym e) (All-nil P)

module _ (items new : List kept.Slot) (asked : List Ask) (trail read before : List Change) (changed noted_in : List ℕ) (from to : ℕ)
    (r : IsReady (store_view items) asked) (ran : Ran (store_view items) asked (store_view new))
    (back : take (length items) (undone (store_view new) (trail_view trail)) ≡ undone (store_view items) (trail_view before)) (none : before ≡ [])
    (from_is : from ≡ length items) (to_is : to ≡ length new) (read_is : read ≡ trail) (changed_is : changed ≡ noted_in)
    (noted : (v : ℕ) → v < to → Contains (written (trail_view read)) v → Contains noted_in v) (made : (v : ℕ) → from ≤ v → v < to → Contains noted_in v) where
  back_view : take (length (store_view items)) (undone (store_view new) (trail_view trail)) ≡ store_view items
  back_view = ap (λ n. take n (undone (store_view new) (trail_view trail))) (length_view items) ∙ (back ∙ ap (λ cs. undone (store_view items) (trail_view cs)) none)

  noted_view : (v : ℕ) → v < length (store_view new) → Contains (written (trail_view trail)) v → Contains noted_in v
  noted_view v l q = noted v (omega (arith, l, length_view new, to_is)) (subst (λ cs. Contains (written (trail_view cs)) v) (sym read_is) q)

  made_view : (v : ℕ) → length (store_view items) ≤ v → v < length (store_view new) → Contains noted_in v
  made_view v h l = made v (omega (arith, h, length_view items, from_is)) (omega (arith, l, length_view new, to_is))

  pub did_levelled : IsLevelledBut (store_view new) (Waiting changed)
  did_levelled = subst (λ xs. IsLevelledBut (store_view new) (Waiting xs)) (sym changed_is)
      (ran_levelled (store_view items) (store_view new) asked r ran (trail_view trail) noted_in back_view noted_view made_view)

  pub did_ranked : RankedBut (store_view new) changed
  did_ranked = subst (RankedBut (store_view new)) (sym changed_is)
      (ran_ranked (store_view items) (store_view new) asked r ran (trail_view trail) noted_in back_view noted_view made_view)

-- one ask
pub did_ready : (items : List kept.Slot) (a : stored.Ask) (before work : List stored.Ask) → IsStore (store_view items) → AskInside (length items) (ask_view a) → work ≡ before ++ a ∷ [] → before ≡ []
    → IsReady (store_view items) (work_view work)
did_ready items a before work whole i e f =
    subst (λ as_. IsReady (store_view items) (work_view as_)) (sym (e ∙ ap (λ xs. xs ++ a ∷ []) f))
    (ready (store_view items) (ask_view a ∷ []) whole
    (All-cons (AskInside (length (store_view items))) (ask_view a) [] (subst (λ n. AskInside n (ask_view a)) (sym (length_view items)) i) (All-nil (AskInside (length (store_view items))))))

-- Two variables that are not bound become the same.
use Rattle.std.proofs.Common.{◌≡◌, ◌≢◌, ◌⊎◌, inl, inr, ℕ, ◌<◌, List, [], ◌∷◌, ◌++◌, length, set, true, false, Some, None, Result, Ok, Err, OnOk, refl, sym, ap, ◌∙◌, subst, arith, All}
use Rattle.std.proofs.lemmas.List.{length-set, append_assoc}
use Rattle.std.proofs.lemmas.List.Elements.{All-head, All-tail, All-cons, All-nil, All-append}
use Rattle.type_store.specs.Store.{Cell, Open, Bound, Built, Row, Constant, Slot, Store, slot_at}
use Rattle.type_store.specs.Solutions.{Ask, Same, Becomes, Clash}
use Rattle.type_store.specs.Shape.{IsCell, parts_of}
use Rattle.type_store.specs.Steps.{AskInside, IsGraph, Stepped, Leads, put, kind_asks, sames, is_bound, Alike, BothBuilt, Differ}
use Rattle.type_store.proofs.Turns.{becomes_chained, clash_before, slot_other}
use Rattle.type_store.proofs.OneSlot.{same_roots, same_turned, second_open, same_constant, other_constant, first_open, both_built, other_head, other_count, built_row, constant_row, built_constant, clash_turned}
use Rattle.type_store.proofs.Graphs.{graph_set, kinds_inside, row_fields}
use Rattle.type_store.specs.Spreading.{EachSpread}
use Rattle.type_store.proofs.Keeping.{each_less, each_more, each_bound, each_taken, depths_set, depths_chained}
use Rattle.type_store.specs.Reaching.{KeepsConstants, LowRestsBut}
use Rattle.type_store.proofs.Resting.{constants_set, constants_taken, rests_kept}

pub low_not : (a b : ℕ) → a < b → a ≢ b
low_not a b l e = omega arith

other_kept : (s : Store) (a b : ℕ) (x : Slot) → a < b → slot_at (set s a x) b ≡ slot_at s b
other_kept s a b x low = slot_other s a b x (λ q. low_not a b low (sym q))

pub grown : (s : Store) (v : ℕ) (x : Slot) (as_ : List Ask) → All (AskInside (length s)) as_ → All (AskInside (length (set s v x))) as_
grown s v x as_ h = subst (λ n. All (AskInside n) as_) (sym (length-set s v x)) h

pub graph_bound : (s : Store) (a b d : ℕ) → a < b → b < length s → IsGraph s → IsGraph (set s b (put (Bound a) d))
graph_bound s a b d l h g = graph_set s b (put (Bound a) d) h g (All-cons (λ w. w < length s) a [] (omega arith) (All-nil (λ w. w < length s))) l

sames_inside : (n : ℕ) (ks ws : List ℕ) → All (λ w. w < n) ks → All (λ w. w < n) ws → All (AskInside n) (sames ks ws)
sames_inside n [] ws a b = All-nil (AskInside n)
sames_inside n (k ∷ ks) [] a b = All-nil (AskInside n)
sames_inside n (k ∷ ks) (w ∷ ws) a b =
    All-cons (AskInside n) (Same k w) (sames ks ws) (All-head (λ w. w < n) k ks a, All-head (λ w. w < n) w ws b)
    (sames_inside n ks ws (All-tail (λ w. w < n) k ks a) (All-tail (λ w. w < n) w ws b))

-- a cell that is not bound may stand in each slot
pub cell_moved : (v w : ℕ) (c : Cell) → is_bound c ≡ false → IsCell v c → IsCell w c
cell_moved v w Open e h = h
cell_moved v w (Bound u) e h = absurd (let x : true ≡ false = e in cc)
cell_moved v w (Built h ws) e i = i
cell_moved v w (Row [] None) e h = h
cell_moved v w (Row [] (Some u)) e h = h
cell_moved v w (Row (f ∷ fs) end) e h = h
cell_moved v w (Constant r) e h = h

module _ (s : Store) (a b : ℕ) (low : a < b) (l : b < length s) (g : IsGraph s) where
  first_there : a < length s
  first_there = omega arith

  bound_constants : (d : ℕ) → KeepsConstants s (set s b (put (Bound a) d))
  bound_constants d = constants_set s b (put (Bound a) d) l (λ r z. absurd (cc))

  bound_rests : (d : ℕ) → d ≡ (slot_at s b).depth → (left : List Ask) (e : ℕ) → LowRestsBut e s (set s b (put (Bound a) d)) left
  bound_rests d deep left =
      rests_kept s (set s b (put (Bound a) d)) left (length-set s b (put (Bound a) d)) (depths_set s b (put (Bound a) d) l deep)

  same_alike : (d : ℕ) (c k : Cell) → (slot_at s a).cell ≡ c → (slot_at s b).cell ≡ k → Alike c k → Becomes s (Same a b ∷ []) (set s b (put (Bound a) d)) (kind_asks b (slot_at s b).kind)
  same_alike d (Constant r) (Constant t) e f h = same_constant s a b d r (low_not a b low) l e (f ∙ ap Constant (sym h))
  same_alike d (Constant r) Open e f h = absurd h
  same_alike d (Constant r) (Bound u) e f h = absurd h
  same_alike d (Constant r) (Built j ws) e f h = absurd h
  same_alike d (Constant r) (Row gs end) e f h = absurd h
  same_alike d Open k e f h = absurd h
  same_alike d (Bound u) k e f h = absurd h
  same_alike d (Built j ws) k e f h = absurd h
  same_alike d (Row gs end) k e f h = absurd h

  pub joined_bind : (d : ℕ) → d ≡ (slot_at s b).depth → (before after : List Ask) → ((slot_at s b).cell ≡ Open) ⊎ Alike (slot_at s a).cell (slot_at s b).cell → after ≡ before ++ kind_asks b (slot_at s b).kind
      → Stepped s before (Same a b ∷ []) (set s b (put (Bound a) d)) after
  joined_bind d deep before after p w = record {
    left = kind_asks b (slot_at s b).kind;
    work = w;
    inside = grown s b (put (Bound a) d) (kind_asks b (slot_at s b).kind) (kinds_inside (length s) b (slot_at s b).kind l);
    becomes = elim p [ inl o ↦ second_open s a b d l o | inr h ↦ same_alike d (slot_at s a).cell (slot_at s b).cell refl refl h ];
    graph = graph_bound s a b d low l g;
    spread = λ e. subst (EachSpread (set s b (put (Bound a) d))) (sym w) (each_bound s before b a d l (each_less s before a b e));
    depths = depths_set s b (put (Bound a) d) l deep;
    constants = bound_constants d;
    rests = bound_rests d deep (kind_asks b (slot_at s b).kind);
  }

  pub joined_take : (d e : ℕ) → d ≡ (slot_at s a).depth → e ≡ (slot_at s b).depth → (before mid after : List Ask) → (slot_at s a).cell ≡ Open → is_bound (slot_at s b).cell ≡ false
      → mid ≡ before ++ kind_asks a (slot_at s a).kind → after ≡ mid ++ kind_asks b (slot_at s b).kind
      → Stepped s before (Same a b ∷ []) (set (set s a (put (slot_at s b).cell d)) b (put (Bound a) e)) after
  joined_take d e deep low_deep before mid after o n w v =
      let t = set s a (put (slot_at s b).cell d) in
      let lt : b < length t = omega (arith, length-set s a (put (slot_at s b).cell d)) in
      let gt : IsGraph t = graph_set s a (put (slot_at s b).cell d) first_there g (g.inside b l) (cell_moved b a (slot_at s b).cell n (g.cells b l)) in
      record {
        left = kind_asks a (slot_at s a).kind ++ kind_asks b (slot_at s b).kind;
        work = v ∙ (ap (λ xs. xs ++ kind_asks b (slot_at s b).kind) w ∙ append_assoc before (kind_asks a (slot_at s a).kind) (kind_asks b (slot_at s b).kind));
        inside = grown t b (put (Bound a) e) (kind_asks a (slot_at s a).kind ++ kind_asks b (slot_at s b).kind)
            (grown s a (put (slot_at s b).cell d) (kind_asks a (slot_at s a).kind ++ kind_asks b (slot_at s b).kind)
            (All-append (AskInside (length s)) (kind_asks a (slot_at s a).kind) (kind_asks b (slot_at s b).kind) (kinds_inside (length s) a (slot_at s a).kind first_there) (kinds_inside (length s) b (slot_at s b).kind l)));
        becomes = first_open s a b d e (low_not a b low) first_there l o;
        graph = graph_bound t a b e low lt gt;
        spread = λ h.
            let one : EachSpread t mid = subst (EachSpread t) (sym w) (each_taken s before a b d first_there l (each_less s before a b h)) in
            let two : EachSpread (set t b (put (Bound a) e)) (mid ++ kind_asks b (slot_at t b).kind) = each_bound t mid b a e lt one in
            subst (EachSpread (set t b (put (Bound a) e))) (ap (λ (x : Slot). mid ++ kind_asks b x.kind) (other_kept s a b (put (slot_at s b).cell d) low) ∙ sym v) two;
        depths = depths_chained s t (set t b (put (Bound a) e)) (omega (arith, length-set s a (put (slot_at s b).cell d)))
            (depths_set s a (put (slot_at s b).cell d) first_there deep)
            (depths_set t b (put (Bound a) e) lt (low_deep ∙ sym (ap (λ (x : Slot). x.depth) (other_kept s a b (put (slot_at s b).cell d) low))));
        constants = constants_taken s a b d e low l first_there lt;
        rests = rests_kept s (set t b (put (Bound a) e)) (kind_asks a (slot_at s a).kind ++ kind_asks b (slot_at s b).kind)
            (length-set t b (put (Bound a) e) ∙ length-set s a (put (slot_at s b).cell d))
            (depths_chained s t (set t b (put (Bound a) e)) (omega (arith, length-set s a (put (slot_at s b).cell d)))
            (depths_set s a (put (slot_at s b).cell d) first_there deep)
            (depths_set t b (put (Bound a) e) lt (low_deep ∙ sym (ap (λ (x : Slot). x.depth) (other_kept s a b (put (slot_at s b).cell d) low)))));
      }

  built_parts : (d : ℕ) (c k : Cell) → (slot_at s a).cell ≡ c → (slot_at s b).cell ≡ k → BothBuilt c k
      → Becomes s (Same a b ∷ []) (set s b (put (Bound a) d)) (sames (parts_of c) (parts_of k) ++ kind_asks b (slot_at s b).kind)
  built_parts d (Built h ks) (Built j ws) e f p = both_built s a b d h ks ws (low_not a b low) l p.1 e (f ∙ ap (λ x. Built x ws) (sym p.0))
  built_parts d (Built h ks) Open e f p = absurd p
  built_parts d (Built h ks) (Bound u) e f p = absurd p
  built_parts d (Built h ks) (Row gs end) e f p = absurd p
  built_parts d (Built h ks) (Constant r) e f p = absurd p
  built_parts d Open k e f p = absurd p
  built_parts d (Bound u) k e f p = absurd p
  built_parts d (Row gs end) k e f p = absurd p
  built_parts d (Constant r) k e f p = absurd p

  pub joined_parts : (d : ℕ) → d ≡ (slot_at s b).depth → (before mid after : List Ask) → BothBuilt (slot_at s a).cell (slot_at s b).cell
      → mid ≡ before ++ sames (parts_of (slot_at s a).cell) (parts_of (slot_at s b).cell) → after ≡ mid ++ kind_asks b (slot_at s b).kind
      → Stepped s before (Same a b ∷ []) (set s b (put (Bound a) d)) after
  joined_parts d deep before mid after p w v =
      let ks = parts_of (slot_at s a).cell in
      let ws = parts_of (slot_at s b).cell in
      record {
        left = sames ks ws ++ kind_asks b (slot_at s b).kind;
        work = v ∙ (ap (λ xs. xs ++ kind_asks b (slot_at s b).kind) w ∙ append_assoc before (sames ks ws) (kind_asks b (slot_at s b).kind));
        inside = grown s b (put (Bound a) d) (sames ks ws ++ kind_asks b (slot_at s b).kind)
            (All-append (AskInside (length s)) (sames ks ws) (kind_asks b (slot_at s b).kind) (sames_inside (length s) ks ws (g.inside a first_there) (g.inside b l)) (kinds_inside (length s) b (slot_at s b).kind l));
        becomes = built_parts d (slot_at s a).cell (slot_at s b).cell refl refl p;
        graph = graph_bound s a b d low l g;
        spread = λ e.
            let one : EachSpread s mid = subst (EachSpread s) (sym w) (each_more s before (sames ks ws) (each_less s before a b e)) in
            subst (EachSpread (set s b (put (Bound a) d))) (sym v) (each_bound s mid b a d l one);
        depths = depths_set s b (put (Bound a) d) l deep;
        constants = bound_constants d;
        rests = bound_rests d deep (sames ks ws ++ kind_asks b (slot_at s b).kind);
      }

  apart_cells : (c k : Cell) → (slot_at s a).cell ≡ c → (slot_at s b).cell ≡ k → Differ c k → Clash s (Same a b ∷ [])
  apart_cells (Built h ks) (Built j ws) e f p = elim p [ inl n ↦ other_head s a b h j ks ws n e f | inr n ↦ other_count s a b h j ks ws n e f ]
  apart_cells (Built h ks) (Row gs end) e f p = built_row s a b h ks gs end (row_fields s b gs end g l f) e f
  apart_cells (Built h ks) (Constant r) e f p = built_constant s a b h ks r e f
  apart_cells (Row gs end) (Built h ks) e f p = clash_turned s b a (built_row s b a h ks gs end (row_fields s a gs end g first_there e) f e)
  apart_cells (Row gs end) (Constant r) e f p = clash_turned s b a (constant_row s b a r gs end (row_fields s a gs end g first_there e) f e)
  apart_cells (Constant r) (Built h ks) e f p = clash_turned s b a (built_constant s b a h ks r f e)
  apart_cells (Constant r) (Row gs end) e f p = constant_row s a b r gs end (row_fields s b gs end g l f) e f
  apart_cells (Constant r) (Constant t) e f p = other_constant s a b r t p e f
  apart_cells Open k e f p = absurd p
  apart_cells (Bound u) k e f p = absurd p
  apart_cells (Built h ks) Open e f p = absurd p
  apart_cells (Built h ks) (Bound u) e f p = absurd p
  apart_cells (Row gs end) Open e f p = absurd p
  apart_cells (Row gs end) (Bound u) e f p = absurd p
  apart_cells (Row gs end) (Row hs last) e f p = absurd p
  apart_cells (Constant r) Open e f p = absurd p
  apart_cells (Constant r) (Bound u) e f p = absurd p

  pub joined_clash : Differ (slot_at s a).cell (slot_at s b).cell → Clash s (Same a b ∷ [])
  joined_clash p = apart_cells (slot_at s a).cell (slot_at s b).cell refl refl p

-- that variables are the same says nothing of their kinds
same_spread : (s t : Store) (before after : List Ask) (v w a b : ℕ) → (EachSpread s (before ++ Same a b ∷ []) → EachSpread t after)
    → EachSpread s (before ++ Same v w ∷ []) → EachSpread t after
same_spread s t before after v w a b h e = h (each_more s before (Same a b ∷ []) (each_less s before v w e))

-- a step for what variables lead to is one for the variables, in either order
pub same_stepped : (s t : Store) (v w a b : ℕ) (before after : List Ask) → Leads s v a → Leads s w b → Stepped s before (Same a b ∷ []) t after → Stepped s before (Same v w ∷ []) t after
same_stepped s t v w a b before after l m p = record {
  left = p.left;
  work = p.work;
  inside = p.inside;
  becomes = becomes_chained s s t (Same v w ∷ []) (Same a b ∷ []) p.left (same_roots s v w a b l m) p.becomes;
  graph = p.graph;
  spread = same_spread s t before after v w a b p.spread;
  depths = p.depths;
  constants = p.constants;
  rests = p.rests;
}

pub turned_stepped : (s t : Store) (a b : ℕ) (before after : List Ask) → Stepped s before (Same b a ∷ []) t after → Stepped s before (Same a b ∷ []) t after
turned_stepped s t a b before after p = record {
  left = p.left;
  work = p.work;
  inside = p.inside;
  becomes = becomes_chained s s t (Same a b ∷ []) (Same b a ∷ []) p.left (same_turned s a b) p.becomes;
  graph = p.graph;
  spread = same_spread s t before after a b b a p.spread;
  depths = p.depths;
  constants = p.constants;
  rests = p.rests;
}

pub same_clashed : (s : Store) (v w a b : ℕ) → Leads s v a → Leads s w b → Clash s (Same a b ∷ []) → Clash s (Same v w ∷ [])
same_clashed s v w a b l m p = clash_before s s (Same v w ∷ []) (Same a b ∷ []) (same_roots s v w a b l m) p

-- ---- as the program does it

pub ok_both : {A E P Q R : Type 0} (r : Result A E) → OnOk r P → OnOk r Q → (P → Q → R) → OnOk r R
ok_both (Ok a) p q h = h p q
ok_both (Err e) p q h = tt

pub did_bind : (s new : Store) (a b : ℕ) (before after : List Ask) → a < b → b < length s → IsGraph s → ((slot_at s b).cell ≡ Open) ⊎ Alike (slot_at s a).cell (slot_at s b).cell
    → new ≡ set s b (put (Bound a) (slot_at s b).depth) → after ≡ before ++ kind_asks b (slot_at s b).kind → Stepped s before (Same a b ∷ []) new after
did_bind s new a b before after low l g p e w =
    subst (λ t. Stepped s before (Same a b ∷ []) t after) (sym e) (joined_bind s a b low l g (slot_at s b).depth refl before after p w)

pub did_parts : (s new : Store) (a b : ℕ) (before mid after : List Ask) → a < b → b < length s → IsGraph s → BothBuilt (slot_at s a).cell (slot_at s b).cell
    → mid ≡ before ++ sames (parts_of (slot_at s a).cell) (parts_of (slot_at s b).cell) → new ≡ set s b (put (Bound a) (slot_at s b).depth) → after ≡ mid ++ kind_asks b (slot_at s b).kind → Stepped s before (Same a b ∷ []) new after
did_parts s new a b before mid after low l g p w e v =
    subst (λ t. Stepped s before (Same a b ∷ []) t after) (sym e) (joined_parts s a b low l g (slot_at s b).depth refl before mid after p w v)

pub did_take : (s t new : Store) (a b : ℕ) (before mid after : List Ask) → a < b → b < length s → IsGraph s → (slot_at s a).cell ≡ Open → is_bound (slot_at s b).cell ≡ false
    → t ≡ set s a (put (slot_at s b).cell (slot_at s a).depth) → mid ≡ before ++ kind_asks a (slot_at s a).kind → new ≡ set t b (put (Bound a) (slot_at t b).depth)
    → after ≡ mid ++ kind_asks b (slot_at t b).kind → Stepped s before (Same a b ∷ []) new after
did_take s t new a b before mid after low l g o n e w f v =
    let d = (slot_at s a).depth in
    let at_b : slot_at t b ≡ slot_at s b = ap (λ u. slot_at u b) e ∙ other_kept s a b (put (slot_at s b).cell d) low in
    subst (λ u. Stepped s before (Same a b ∷ []) u after) (sym (f ∙ ap (λ u. set u b (put (Bound a) (slot_at t b).depth)) e))
    (joined_take s a b low l g d (slot_at t b).depth refl (ap (λ (x : Slot). x.depth) at_b) before mid after o n w (v ∙ ap (λ (x : Slot). mid ++ kind_asks b x.kind) at_b))

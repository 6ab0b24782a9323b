-- A record is made, over a variable that is to lack its fields.
use Rattle.std.proofs.Common.{◌≡◌, ℕ, ◌+◌, ◌<◌, List, [], ◌∷◌, ◌++◌, length, get_or, map, ⊎_elim, inr, true, false, Option, Some, None, refl, sym, ap, ◌∙◌, subst, arith}
use Rattle.std.specs.List.{All}
use Rattle.std.proofs.lemmas.Bool.{cases_lt}
use Rattle.std.proofs.lemmas.List.{length_push, length-map, get_or-map}
use Rattle.std.proofs.lemmas.List.Elements.{All-weaker, All-nil, All-cons, All-head, All-from_get_or}
use Rattle.elm_type.specs.Types.{Name, any_kind}
use Rattle.elm_type.specs.Classes.{Ground}
use Rattle.elm_type.specs.Rows.{extend}
use Rattle.elm_type.specs.Ground.{contains, lacks_all, is_ground}
use Rattle.type_store.specs.Store.{FieldSlot, Open, Row, Slot, Store, slot_at, field_names, field_slots, end_slots}
use Rattle.type_store.specs.Shape.{Ascending, IsCell, IsStore, Ranked, NoneIn, parts_of}
use Rattle.type_store.specs.Solutions.{Values, Says, Meets, Renames, constant_of, constants_of, Fit, Ask, Lacks, MeetsAsk, Becomes, Clash, row_value, rest_value}
use Rattle.type_store.specs.Steps.{AskInside, IsGraph, put, rest_asks}
use Rattle.type_store.specs.Ends.{Turns}
use Rattle.type_store.specs.Spreading.{HasLack, SpreadBut, EachSpread}
use Rattle.type_store.specs.Levels.{IsLowered, IsLevelled}
use Rattle.type_store.specs.Adding.{IsReady, Settled}
use Rattle.type_store.specs.Reaching.{SameLow, GoesOnAt}
use Rattle.type_store.proofs.Turns.{Which, Yes, Not, which, slot_pushed, slot_before, becomes_chained, clash_before, lacks_to_asks, lacks_from_asks, asks_same, all_right}
use Rattle.type_store.proofs.Parts.{slot_past}
use Rattle.type_store.proofs.OneSlot.{put_meets}
use Rattle.type_store.proofs.NewSlot.{pushed, says_same}
use Rattle.type_store.proofs.Lacking.{empty_lacks, ground_extended}
use Rattle.type_store.proofs.RowValues.{lacks_row, rise_row, ground_row}
use Rattle.type_store.proofs.KindSteps.{implied}
use Rattle.type_store.proofs.Keeping.{keeps_kinds, spread_kept}
use Rattle.type_store.proofs.Settling.{store_graph}
use Rattle.type_store.proofs.Making.{made_graph, made_ranked, made_spread, made_once, made_depths, new_depth}
use Rattle.type_store.proofs.Resting.{all_cells, constants_chained, constants_made, constants_same, no_new, rests_lowered, rests_made}
use Rattle.type_store.proofs.Whole.{lowered_becomes, lowered_once}

-- ---- a store whose depths are less is as ready

module _ (a b : Store) (h : IsLowered a b) where
  lowered_graph : IsGraph a → IsGraph b
  lowered_graph g = record {
    inside = λ v l. subst (λ c. All (λ w. w < length b) (parts_of c)) (sym (h.cells v))
        (All-weaker (λ w. w < length a) (λ w. w < length b) (λ w k. omega (arith, k, h.count)) (parts_of (slot_at a v).cell) (g.inside v (omega (arith, l, h.count))));
    cells = λ v l. subst (IsCell v) (sym (h.cells v)) (g.cells v (omega (arith, l, h.count)));
  }

  lowered_each : (work : List Ask) → EachSpread a work → EachSpread b work
  lowered_each work e v l =
      subst (λ k. SpreadBut b work k (slot_at b v).cell) (sym (h.kinds v))
      (subst (SpreadBut b work (slot_at a v).kind) (sym (h.cells v))
      (spread_kept a b work work (keeps_kinds a b work work h.kinds (λ w d q. q) (λ w x q. q)) (slot_at a v).kind (slot_at a v).cell (e v (omega (arith, l, h.count)))))

  lowered_ranks : Ranked a → Ranked b
  lowered_ranks r = record { rank = r.rank; each = λ v. subst (λ c. All (λ w. r.rank w < r.rank v) (parts_of c)) (sym (h.cells v)) (r.each v) }

-- ---- what a record says of its end

none_in_none : (xs : List Name) → NoneIn xs []
none_in_none [] = All-nil (λ x. contains x [] ≡ false)
none_in_none (x ∷ xs) = All-cons (λ x. contains x [] ≡ false) x xs refl (none_in_none xs)

row_spread : (s : Store) (fs : List FieldSlot) (end : Option ℕ) → SpreadBut s (rest_asks end (field_names fs)) any_kind (Row fs end)
row_spread s fs None = (refl, none_in_none (field_names fs))
row_spread s fs (Some w) = (
  refl,
  none_in_none (field_names fs),
  All-from_get_or (HasLack s (map (Lacks w) (field_names fs)) w) (field_names fs) []
      (λ k l. inr (k, omega (arith, l, length-map (field_names fs) (Lacks w)), get_or-map (Lacks w) (field_names fs) k [] (Lacks w (get_or (field_names fs) k [])) l)),
)

rests_inside : (n : ℕ) (end : Option ℕ) (xs : List Name) → All (λ w. w < n) (end_slots end) → All (AskInside n) (rest_asks end xs)
rests_inside n None xs i = All-nil (AskInside n)
rests_inside n (Some w) [] i = All-nil (AskInside n)
rests_inside n (Some w) (x ∷ xs) i = All-cons (AskInside n) (Lacks w x) (map (Lacks w) xs) (All-head (λ w. w < n) w [] i) (rests_inside n (Some w) xs i)

rests_said : (σ : Values) (end : Option ℕ) (xs : List Name) → lacks_all xs (rest_value σ.types end) ≡ true → All (MeetsAsk σ) (rest_asks end xs)
rests_said σ None xs e = All-nil (MeetsAsk σ)
rests_said σ (Some w) xs e = lacks_to_asks σ w xs e

rests_lack : (σ : Values) (end : Option ℕ) (xs : List Name) → All (MeetsAsk σ) (rest_asks end xs) → lacks_all xs (rest_value σ.types end) ≡ true
rests_lack σ None xs p = empty_lacks xs
rests_lack σ (Some w) xs p = lacks_from_asks σ w xs p

rest_is_ground : (σ : Values) (s : Store) (end : Option ℕ) → Fit σ s → is_ground (rest_value σ.types end) ≡ true
rest_is_ground σ s None f = refl
rest_is_ground σ s (Some w) f = (f.each w).ground

all_are_ground : (σ : Values) (s : Store) (ws : List ℕ) → Fit σ s → All (λ w. is_ground (σ.types w) ≡ true) ws
all_are_ground σ s [] f = All-nil (λ w. is_ground (σ.types w) ≡ true)
all_are_ground σ s (w ∷ ws) f = All-cons (λ w. is_ground (σ.types w) ≡ true) w ws (f.each w).ground (all_are_ground σ s ws f)

rises : (v : ℕ) (fs : List FieldSlot) (end : Option ℕ) → IsCell v (Row fs end) → Ascending (field_names fs)
rises v [] None c = tt
rises v [] (Some w) c = absurd c
rises v (x ∷ fs) end c = c

row_constants : (s : Store) (fs : List FieldSlot) (end : Option ℕ) (d e : ℕ) → constants_of (s ++ put (Row fs end) e ∷ []) ≡ constants_of (s ++ put Open d ∷ [])
row_constants [] fs end d e = refl
row_constants (x ∷ s) fs end d e = ap (λ rs. constant_of x.cell ++ rs) (row_constants s fs end d e)

module _ (s : Store) (fs : List FieldSlot) (end : Option ℕ) (d : ℕ) (whole : IsStore s) (inside : All (λ w. w < length s) (parts_of (Row fs end))) (cell : IsCell (length s) (Row fs end)) where
  abbrev with_row : Store
  with_row = s ++ put (Row fs end) d ∷ []

  abbrev with_open : Store
  with_open = s ++ put Open d ∷ []

  abbrev row_asks : List Ask
  row_asks = rest_asks end (field_names fs)

  asks_there : All (AskInside (length s)) row_asks
  asks_there = rests_inside (length s) end (field_names fs) (all_right (λ w. w < length s) (field_slots fs) (end_slots end) inside)

  abbrev SaysRow : Values → Type 0
  SaysRow σ = Says σ (σ.types (length s)) (Row fs end) × All (MeetsAsk σ) row_asks

  -- each solution in which the end lacks the fields goes on
  row_turns : Turns s (λ σ. All (MeetsAsk σ) row_asks) with_open SaysRow
  row_turns = pushed {P = λ σ. All (MeetsAsk σ) row_asks} {Q = SaysRow} s d (store_graph s whole).inside (λ σ f q. q.1) (λ σ f p.
      let apart = rests_lack σ end (field_names fs) p in
      let t = rest_value σ.types end in
      record {
        value = extend (row_value σ.types fs) t;
        ground = ground_extended (row_value σ.types fs) t (rise_row σ.types fs (rises (length s) fs end cell)) (ground_row σ.types fs (all_are_ground σ s (field_slots fs) f))
            (lacks_row σ.types fs t apart) (rest_is_ground σ s end f);
        meet = λ τ e agree. (
          subst (λ u. Says τ u (Row fs end)) (sym e) (says_same (length s) σ τ (extend (row_value σ.types fs) t) (Row fs end) agree inside (refl, apart)),
          asks_same (length s) σ τ row_asks agree asks_there p,
        );
      })

  row_fits : (σ : Values) → Fit σ with_open → Says σ (σ.types (length s)) (Row fs end) → Fit σ with_row
  row_fits σ f says = record {
    renames = subst (λ rs. Renames rs σ.constants) (sym (row_constants s fs end d d)) f.renames;
    each = λ w. go w (which w (length s));
  }
    where
      go : (w : ℕ) → Which w (length s) → Meets σ (slot_at (s ++ put (Row fs end) d ∷ []) w) (σ.types w)
      go w (Yes e) = subst (λ u. Meets σ (slot_at (s ++ put (Row fs end) d ∷ []) u) (σ.types u)) (sym e)
          (subst (λ (x : Slot). Meets σ x (σ.types (length s))) (sym (slot_pushed s (put (Row fs end) d)))
          (put_meets σ (Row fs end) d (σ.types (length s)) says (f.each (length s)).ground))
      go w (Not n) = ⊎_elim
          (λ l. subst (λ (x : Slot). Meets σ x (σ.types w)) (slot_before s (put Open d) w l ∙ sym (slot_before s (put (Row fs end) d) w l)) (f.each w))
          (λ h. subst (λ (x : Slot). Meets σ x (σ.types w))
          (slot_past (s ++ put Open d ∷ []) w (omega (arith, h, n, length_push s (put Open d))) ∙ sym (slot_past (s ++ put (Row fs end) d ∷ []) w (omega (arith, h, n, length_push s (put (Row fs end) d)))))
          (f.each w)) (cases_lt w (length s))

  -- where the record has no solution, nothing lets the end lack its fields
  row_clash : Clash with_row row_asks → Clash s row_asks
  row_clash c = record {
    never = λ σ f p. (let g = row_turns.on σ f p in c.never g.values (row_fits g.values g.fit g.meet.0) g.meet.1);
  }

  -- the record says that the end lacks its fields
  row_says : Becomes with_row [] with_row row_asks
  row_says = implied with_row row_asks (λ σ f.
      let m = subst (λ (x : Slot). Meets σ x (σ.types (length s))) (slot_pushed s (put (Row fs end) d)) (f.each (length s)) in
      rests_said σ end (field_names fs) (said σ (σ.types (length s)) m.cell))
    where
      said : (σ : Values) (t : Ground) → Says σ t (Row fs end) → lacks_all (field_names fs) (rest_value σ.types end) ≡ true
      said σ t p = p.1

  longer : length with_row ≡ length s + 1
  longer = length_push s (put (Row fs end) d)

  module _ (low : Store) (lowered : IsLowered with_row low) where
    more_there : All (AskInside (length low)) row_asks
    more_there = rests_inside (length low) end (field_names fs)
        (All-weaker (λ w. w < length s) (λ w. w < length low) (λ w l. omega (arith, l, lowered.count, length_push s (put (Row fs end) d))) (end_slots end)
        (all_right (λ w. w < length s) (field_slots fs) (end_slots end) inside))

    pub row_ready : IsLevelled low → IsReady low row_asks
    row_ready level = record {
      graph = lowered_graph with_row low lowered (made_graph s (Row fs end) d whole inside cell);
      inside = more_there;
      spread = lowered_each with_row low lowered row_asks (made_spread s (Row fs end) d whole inside row_asks (row_spread with_row fs end));
      levelled = level;
      ranked = lowered_ranks with_row low lowered (made_ranked s (Row fs end) d whole inside);
      once = lowered_once with_row low lowered (made_once s (Row fs end) d whole inside (λ r e. absurd (cc)));
    }

    pub row_becomes : (new : Store) → Settled low row_asks new → Becomes with_row [] new []
    row_becomes new r = becomes_chained with_row with_row new [] row_asks [] row_says
        (becomes_chained with_row low new row_asks row_asks [] (lowered_becomes with_row low lowered row_asks) r.becomes)

    pub row_clashes : Clash low row_asks → Clash s row_asks
    row_clashes c = row_clash (clash_before with_row low row_asks row_asks (lowered_becomes with_row low lowered row_asks) c)

    pub row_goes : (new : Store) → Settled low row_asks new → GoesOnAt d s new
    row_goes new r = record {
      grows = omega (arith, lowered.count, longer, r.goes.grows);
      no_deeper = λ v l. omega (arith, made_depths s (Row fs end) d whole inside low lowered v l, r.goes.no_deeper v (omega (arith, l, lowered.count, longer)));
      made = omega (arith, new_depth s (Row fs end) d whole inside low lowered, r.goes.no_deeper (length s) (omega (arith, lowered.count, longer)));
      rests = λ e under. record { same = λ σ τ f g h. (r.goes.rests e).same σ τ f g (low_same e under new r σ τ f g h) };
      constants = λ k h. no_new s low (constants_chained s with_row low (constants_made s (put (Row fs end) d) (λ t z. (cc)))
          (constants_same with_row low (λ v t z. sym (lowered.cells v) ∙ z))) k (r.goes.constants k h);
    }
      where
        low_same : (e : ℕ) → e < d → (new : Store) → Settled low row_asks new → (σ τ : Values) → Fit σ new → Fit τ new → SameLow e s σ τ → SameLow e low σ τ
        low_same e under new r σ τ f g h =
            (rests_lowered with_row low lowered (all_cells with_row (made_graph s (Row fs end) d whole inside cell)) e).same σ τ
            (r.becomes.back σ f (All-nil (MeetsAsk σ))).0 (r.becomes.back τ g (All-nil (MeetsAsk τ))).0
            (rests_made s (Row fs end) d e under σ τ h)

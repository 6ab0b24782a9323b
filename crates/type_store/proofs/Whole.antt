-- What is left when all asks are done: edges are levelled, and the store has ranks or no solution.
use Rattle.std.proofs.Common.{◌≡◌, ℕ, zero, suc, ◌<◌, ◌≤◌, List, [], ◌∷◌, ◌++◌, length, ◌⊎◌, inl, inr, ⊎_elim, Some, None, refl, sym, ap, ◌∙◌, subst, arith, true}
use Rattle.std.specs.List.{All, Contains, slice_index_or}
use Rattle.std.specs.Prelude.{slice_index}
use Rattle.std.proofs.lemmas.Bool.{cases_lt, cases_eq}
use Rattle.std.proofs.lemmas.List.Elements.{All-weaker, All-nil, All-get_or}
use Rattle.elm_type.specs.Types.{Kind}
use Rattle.elm_type.specs.Classes.{is_below}
use Rattle.elm_type.specs.declared.demands.Demand.{Demand}
use Rattle.elm_type.specs.declared.demands.Demand.TheVariants.{Never, Always, OfParts}
use Rattle.elm_type.specs.Ground.{fits}
use Rattle.elm_type.specs.Classes.{asks}
use Rattle.type_store.specs.Store.{Cell, Open, Bound, Built, Row, Constant, Store, slot_at, field_names}
use Rattle.type_store.specs.Shape.{parts_of, IsCell, AllIn, Demanded, Spread, IsSlot, Ranked, IsStore, Once}
use Rattle.type_store.specs.Solutions.{Values, Says, constant_of, constants_of, Renames, Fit, Ask, Becomes, Clash}
use Rattle.type_store.specs.Cycles.{parts_at, RankedBut, NoFit, IsSearchable}
use Rattle.type_store.specs.Levels.{depth_at, IsLowered, IsLevelledBut, Waiting, IsLevelled}
use Rattle.type_store.specs.Finish.{IsSettled}
use Rattle.type_store.proofs.Parts.{slot_past}

-- a number is in a list, or not
pub in_or_not : (xs : List ℕ) (v : ℕ) → Contains xs v ⊎ (Contains xs v → ⊥)
in_or_not [] v = inr (λ c. omega (arith, c.1))
in_or_not (x ∷ xs) v =
    ⊎_elim (λ e. inl (0, omega arith, e))
    (λ n. ⊎_elim (λ c. inl (suc c.0, omega (arith, c.1), c.2)) (λ m. inr (λ c. off n m c.0 c.1 c.2)) (in_or_not xs v))
    (cases_eq x v)
  where
    off : (x ≡ v → ⊥) → (Contains xs v → ⊥) → (k : ℕ) → k < length (x ∷ xs) → slice_index_or (x ∷ xs) k v ≡ v → ⊥
    off n m zero l e = n e
    off n m (suc k) l e = m (k, omega (arith, l), e)

-- ---- what the search for a ring and the levelling need

pub searchable : (s : Store) → ((v : ℕ) → v < length s → All (λ w. w < length s) (parts_at s v)) → ((v : ℕ) → v < length s → IsCell v (slot_at s v).cell) → IsLevelled s
    → IsSearchable s
searchable s inside cells level = record {
  inside = λ v. ⊎_elim (inside v) (λ h. subst (λ x. All (λ w. w < length s) (parts_of x.cell)) (sym (slot_past s v h)) (All-nil (λ w. w < length s))) (cases_lt v (length s));
  cells = λ v. ⊎_elim (cells v) (λ h. subst (λ x. IsCell v x.cell) (sym (slot_past s v h)) tt) (cases_lt v (length s));
  levelled = level.each;
}

-- all but some slots are as they were
module _ (old new : Store) (changed : List ℕ) (same : (v : ℕ) → (Contains changed v → ⊥) → (slot_at new v).cell ≡ (slot_at old v).cell) where
  pub ranked_but : Ranked old → RankedBut new changed
  ranked_but r = record {
    rank = r.rank;
    each = λ v n. subst (λ c. All (λ w. r.rank w < r.rank v) (parts_of c)) (sym (same v n)) (r.each v);
  }

  -- no old depth is greater, and that of a slot that is as it was is the same
  pub levelled_but : ((v : ℕ) → v < length old → All (λ w. w < length old) (parts_at old v)) → ((v : ℕ) → v < length old → depth_at new v ≤ depth_at old v)
      → ((v : ℕ) → v < length old → (Contains changed v → ⊥) → depth_at new v ≡ depth_at old v) → IsLevelled old → IsLevelledBut new (Waiting changed)
  levelled_but inside lower kept level = record { edges = λ v k l. ⊎_elim (λ c. inr c) (λ n. inl (edge v k l n)) (in_or_not changed v) }
    where
      old_part : (v k : ℕ) → k < length (parts_at old v) → v < length old
      old_part v k l =
          ⊎_elim (λ h. h) (λ h. let e = ap (λ x. length (parts_of x.cell)) (slot_past old v h) in absurd (omega (arith, e, l))) (cases_lt v (length old))

      edge : (v k : ℕ) → k < length (parts_at new v) → (Contains changed v → ⊥) → depth_at new (slice_index (parts_at new v) k) ≤ depth_at new v
      edge v k l n =
          let there = old_part v k (omega (arith, l, ap (λ c. length (parts_of c)) (same v n))) in
          let a = subst (λ c. All (λ w. depth_at old w ≤ depth_at old v) (parts_of c)) (sym (same v n)) (level.each v) in
          let b = All-get_or (λ w. depth_at old w ≤ depth_at old v) (parts_at new v) k 0 l a in
          let i = subst (λ c. All (λ w. w < length old) (parts_of c)) (sym (same v n)) (inside v there) in
          let m = All-get_or (λ w. w < length old) (parts_at new v) k 0 l i in
          omega (arith, b, lower (slice_index (parts_at new v) k) m, kept v there n)

-- ---- what less depth keeps

same_constants : (a b : Store) → length b ≡ length a → ((v : ℕ) → (slot_at b v).cell ≡ (slot_at a v).cell) → constants_of b ≡ constants_of a
same_constants [] [] e h = refl
same_constants [] (y ∷ b) e h = absurd (omega (arith, e))
same_constants (x ∷ a) [] e h = absurd (omega (arith, e))
same_constants (x ∷ a) (y ∷ b) e h =
    ap (λ c. constant_of c ++ constants_of b) (h 0) ∙ ap (λ rs. constant_of x.cell ++ rs) (same_constants a b (omega (arith, e)) (λ v. h (suc v)))

same_fit : (a b : Store) → length b ≡ length a → ((v : ℕ) → (slot_at b v).cell ≡ (slot_at a v).cell) → ((v : ℕ) → (slot_at b v).kind ≡ (slot_at a v).kind)
    → (σ : Values) → Fit σ a → Fit σ b
same_fit a b e cells kinds σ f = record {
  renames = subst (λ rs. Renames rs σ.constants) (sym (same_constants a b e cells)) f.renames;
  each = λ v. record {
    cell = subst (Says σ (σ.types v)) (sym (cells v)) (f.each v).cell;
    kind = subst (λ k. fits k (σ.types v) ≡ true) (sym (kinds v)) (f.each v).kind;
    ground = (f.each v).ground;
  };
}

module _ (a b : Store) (h : IsLowered a b) where
  pub fit_on : (σ : Values) → Fit σ a → Fit σ b
  fit_on = same_fit a b h.count h.cells h.kinds

  pub fit_back : (σ : Values) → Fit σ b → Fit σ a
  fit_back = same_fit b a (sym h.count) (λ v. sym (h.cells v)) (λ v. sym (h.kinds v))

  -- the solutions are the same
  pub lowered_becomes : (asked : List Ask) → Becomes a asked b asked
  lowered_becomes asked = record {
    grows = omega (arith, h.count);
    back = λ σ f m. (fit_back σ f, m);
    on = λ σ f m. record { values = σ; agree = record { types = λ v l. refl; constants = λ r. refl }; fit = fit_on σ f; meet = m };
  }

  pub lowered_ranked : (changed : List ℕ) → RankedBut a changed → RankedBut b changed
  lowered_ranked changed r = record {
    rank = r.rank;
    each = λ v n. subst (λ c. All (λ w. r.rank w < r.rank v) (parts_of c)) (sym (h.cells v)) (r.each v n);
  }

  demanded_on : (d : Demand) (ws : List ℕ) → Demanded a d ws → Demanded b d ws
  demanded_on Never ws q = q
  demanded_on Always ws q = q
  demanded_on (OfParts c) ws q =
      All-weaker (λ w. is_below (slot_at a w).kind.class c ≡ true) (λ w. is_below (slot_at b w).kind.class c ≡ true)
      (λ w p. subst (λ (k : Kind). is_below k.class c ≡ true) (sym (h.kinds w)) p) ws q

  spread_on : (k : Kind) (c : Cell) → Spread a k c → Spread b k c
  spread_on k Open q = q
  spread_on k (Bound w) q =
      subst (λ (j : Kind). (is_below j.class k.class ≡ true) × AllIn k.lacks j.lacks) (sym (h.kinds w)) q
  spread_on k (Built f ws) q = (q.0, demanded_on (asks k.class f (length ws)) ws q.1)
  spread_on k (Row fs None) q = q
  spread_on k (Row fs (Some w)) q =
      (q.0, q.1, subst (λ (j : Kind). AllIn (k.lacks ++ field_names fs) j.lacks) (sym (h.kinds w)) q.2)
  spread_on k (Constant r) q = q

  -- a slot is as it has to be, where its edges are level
  pub lowered_slot : IsLevelled b → (v : ℕ) → All (λ w. w < length a) (parts_at a v) → IsCell v (slot_at a v).cell
      → Spread a (slot_at a v).kind (slot_at a v).cell → IsSlot b v (slot_at b v)
  lowered_slot level v inside cell spread = record {
    inside =
        All-weaker (λ w. w < length a) (λ w. w < length b) (λ w l. omega (arith, l, h.count)) (parts_at b v)
        (subst (λ c. All (λ w. w < length a) (parts_of c)) (sym (h.cells v)) inside);
    cell = subst (IsCell v) (sym (h.cells v)) cell;
    spread =
        subst (λ k. Spread b k (slot_at b v).cell) (sym (h.kinds v))
        (subst (Spread b (slot_at a v).kind) (sym (h.cells v)) (spread_on (slot_at a v).kind (slot_at a v).cell spread));
    levelled = level.each v;
  }

  -- the search may begin
  pub lowered_searchable : IsSettled a → IsLevelled b → IsSearchable b
  lowered_searchable g level =
      searchable b
      (λ v l.
      All-weaker (λ w. w < length a) (λ w. w < length b) (λ w k. omega (arith, k, h.count)) (parts_at b v)
      (subst (λ c. All (λ w. w < length a) (parts_of c)) (sym (h.cells v)) (g.inside v (omega (arith, l, h.count)))))
      (λ v l. subst (IsCell v) (sym (h.cells v)) (g.cells v (omega (arith, l, h.count)))) level

  pub lowered_once : Once a → Once b
  lowered_once o v w r e f = o v w r (sym (h.cells v) ∙ e) (sym (h.cells w) ∙ f)

  pub lowered_whole : IsSettled a → IsLevelled b → Ranked b → IsStore b
  lowered_whole g level r = record {
    each = λ v l. let k : v < length a = omega (arith, l, h.count) in lowered_slot level v (g.inside v k) (g.cells v k) (g.spread v k);
    ranked = r;
    once = lowered_once g.once;
  }

-- ---- in the end

-- nothing is asked any more, and there is no solution: so what was asked has none
pub ring_clash : (old : Store) (asked : List Ask) (new : Store) → Becomes old asked new [] → NoFit new → Clash old asked
ring_clash old asked new b none = record { never = λ σ f m. let r = b.on σ f m in none r.values r.fit }

-- To make a variable is a step.
use Rattle.std.proofs.Common.{◌≡◌, ℕ, zero, suc, ◌+◌, ◌<◌, ◌≤◌, List, [], ◌∷◌, ◌++◌, length, true, false, cond, Option, Some, None, inl, inr, refl, sym, ap, ◌∙◌, subst, arith}
use Rattle.std.specs.Prelude.{nat_eq, min, ◌⊎◌}
use Rattle.std.specs.List.{All, Contains}
use Rattle.std.proofs.lemmas.Bool.{cases_lt}
use Rattle.std.proofs.lemmas.Bool.Decides.{nat_tests}
use Rattle.std.proofs.lemmas.List.{length_push}
use Rattle.std.proofs.lemmas.List.Elements.{All-nil, All-head, All-weaker}
use Rattle.elm_type.specs.Types.{Rigid, Made, types_of, variable, any_kind}
use Rattle.elm_type.specs.Classes.{Ground, meets}
use Rattle.elm_type.specs.Rows.{extend}
use Rattle.elm_type.specs.declared.class.Class.TheVariants.{Any}
use Rattle.elm_type.specs.Ground.{lacks_all, is_ground, fits}
use Rattle.type_store.specs.Store.{Cell, Open, Bound, Built, Row, Constant, Slot, Store, open_slot, slot_at, field_names, field_slots, end_slots}
use Rattle.type_store.specs.Solutions.{Values, Says, Meets, MeetsAsk, Becomes, constant_of, constants_of, Fit, AgreeBelow, row_value, rest_value}
use Rattle.type_store.specs.Reaching.{GoesOnAt}
use Rattle.type_store.specs.Shape.{parts_of, IsStore}
use Rattle.type_store.specs.Steps.{put}
use Rattle.type_store.specs.Levels.{depth_at, IsLowered}
use Rattle.type_store.proofs.Parts.{all_first, all_second, all_with, slot_past}
use Rattle.type_store.proofs.RowsMeet.{and_both}
use Rattle.type_store.proofs.RowValues.{row_same, map_same}
use Rattle.type_store.proofs.Classes.{meets_any}
use Rattle.type_walks.specs.Links.{Live}
use Rattle.type_walks.proofs.Steps.{Makes}
use Rattle.type_walks.proofs.Cleaning.{constant_there, stored}

-- ---- slots

slot_before : (s : Store) (x : Slot) (v : ℕ) → v < length s → slot_at (s ++ x ∷ []) v ≡ slot_at s v
slot_before [] x v l = absurd (omega arith)
slot_before (y ∷ s) x zero l = refl
slot_before (y ∷ s) x (suc v) l = slot_before s x v (omega arith)

slot_new : (s : Store) (x : Slot) → slot_at (s ++ x ∷ []) (length s) ≡ x
slot_new [] x = refl
slot_new (y ∷ s) x = slot_new s x

any_fits : (t : Ground) → fits any_kind t ≡ true
any_fits t = and_both (meets Any t) true (meets_any t) refl

-- ---- values that are the same at what a cell names

below_same : (n : ℕ) (σ τ : Values) (ws : List ℕ) → AgreeBelow n σ τ → All (λ w. w < n) ws → All (λ w. σ.types w ≡ τ.types w) ws
below_same n σ τ ws g i = All-weaker (λ w. w < n) (λ w. σ.types w ≡ τ.types w) g.types ws i

rest_same : (n : ℕ) (σ τ : Values) (end : Option ℕ) → AgreeBelow n σ τ → All (λ w. w < n) (end_slots end) → rest_value σ.types end ≡ rest_value τ.types end
rest_same n σ τ None g i = refl
rest_same n σ τ (Some w) g i = g.types w (All-head (λ w. w < n) w [] i)

says_same : (n : ℕ) (σ τ : Values) (t : Ground) (c : Cell) → AgreeBelow n σ τ → All (λ w. w < n) (parts_of c) → Says σ t c → Says τ t c
says_same n σ τ t Open g i p = tt
says_same n σ τ t (Bound w) g i p = p ∙ g.types w (All-head (λ w. w < n) w [] i)
says_same n σ τ t (Built h ws) g i p = p ∙ ap (λ ts. Made h (types_of ts)) (map_same σ.types τ.types ws (below_same n σ τ ws g i))
says_same n σ τ t (Row fs end) g i p =
    let a = row_same σ.types τ.types fs (below_same n σ τ (field_slots fs) g (all_first (λ w. w < n) (field_slots fs) (end_slots end) i)) in
    let b = rest_same n σ τ end g (all_second (λ w. w < n) (field_slots fs) (end_slots end) i) in
    (p.0 ∙ (ap (λ k. extend k (rest_value σ.types end)) a ∙ ap (extend (row_value τ.types fs)) b), subst (λ u. lacks_all (field_names fs) u ≡ true) b p.1)
says_same n σ τ t (Constant r) g i p = p ∙ ap variable (g.constants r)

-- ---- one more value

abbrev glued : ℕ → Values → Ground → Values
glued n σ g = record { types = λ v. cond (nat_eq v n) g (σ.types v); constants = σ.constants }

glued_at : (n : ℕ) (σ : Values) (g : Ground) → (glued n σ g).types n ≡ g
glued_at n σ g = let e : nat_eq n n ≡ true = grind (arith, nat_tests) in ap (λ b. cond b g (σ.types n)) e

glued_below : (n : ℕ) (σ : Values) (g : Ground) (v : ℕ) → v < n → (glued n σ g).types v ≡ σ.types v
glued_below n σ g v l = let e : nat_eq v n ≡ false = grind (arith, nat_tests) in ap (λ b. cond b g (σ.types v)) e

glued_above : (n : ℕ) (σ : Values) (g : Ground) (v : ℕ) → n < v → (glued n σ g).types v ≡ σ.types v
glued_above n σ g v l = let e : nat_eq v n ≡ false = grind (arith, nat_tests) in ap (λ b. cond b g (σ.types v)) e

-- where a number stands
data Where (v n : ℕ) : Type 0 where
  Before : v < n → Where v n
  At : v ≡ n → Where v n
  After : n < v → Where v n

find : (v n : ℕ) → Where v n
find v n = elim (cases_lt v n) [
  | inl l ↦ Before l
  | inr h ↦ elim (cases_lt n v) [
    | inl l ↦ After l
    | inr k ↦ At (omega arith)
  ]
]

module _ (s s' : Store) (d : ℕ) (cell : Cell) (shape : IsStore s) (inside : All (λ w. w < length s) (parts_of cell)) (plain : constant_of cell ≡ [])
    (low : IsLowered (s ++ put cell d ∷ []) s') where
  abbrev n : ℕ
  n = length s

  abbrev base : Store
  base = s ++ put cell d ∷ []

  count : length s' ≡ n + 1
  count = low.count ∙ length_push s (put cell d)

  cell_before : (v : ℕ) → v < n → (slot_at s' v).cell ≡ (slot_at s v).cell
  cell_before v l = low.cells v ∙ ap (λ (x : Slot). x.cell) (slot_before s (put cell d) v l)

  kind_before : (v : ℕ) → v < n → (slot_at s' v).kind ≡ (slot_at s v).kind
  kind_before v l = low.kinds v ∙ ap (λ (x : Slot). x.kind) (slot_before s (put cell d) v l)

  cell_new : (slot_at s' n).cell ≡ cell
  cell_new = low.cells n ∙ ap (λ (x : Slot). x.cell) (slot_new s (put cell d))

  kind_new : (slot_at s' n).kind ≡ any_kind
  kind_new = low.kinds n ∙ ap (λ (x : Slot). x.kind) (slot_new s (put cell d))

  past : (v : ℕ) → n < v → slot_at s' v ≡ open_slot
  past v l = slot_past s' v (omega (arith, count, l))

  depth_before : (v : ℕ) → v < n → depth_at base v ≡ depth_at s v
  depth_before v l = ap (λ (x : Slot). x.depth) (slot_before s (put cell d) v l)

  depth_new : depth_at base n ≡ d
  depth_new = ap (λ (x : Slot). x.depth) (slot_new s (put cell d))

  -- ---- constants

  no_constant : (c : Cell) (r : Rigid) → constant_of c ≡ [] → c ≡ Constant r → ⊥
  no_constant c r e f = let x = sym e ∙ ap constant_of f in cc

  constants_back : (r : Rigid) → Contains (constants_of s') r → Contains (constants_of s) r
  constants_back r h = go (find (stored s' r h).variable n)
    where
      go : Where (stored s' r h).variable n → Contains (constants_of s) r
      go (Before l) = constant_there s (stored s' r h).variable r (sym (cell_before (stored s' r h).variable l) ∙ (stored s' r h).is)
      go (At e) = absurd (no_constant cell r plain (sym cell_new ∙ (ap (λ v. (slot_at s' v).cell) (sym e) ∙ (stored s' r h).is)))
      go (After l) = absurd (let x = ap (λ (y : Slot). y.cell) (sym (past (stored s' r h).variable l)) ∙ (stored s' r h).is in cc)

  constants_on : (r : Rigid) → Contains (constants_of s) r → Contains (constants_of s') r
  constants_on r h = go (cases_lt (stored s r h).variable n)
    where
      go : ((stored s r h).variable < n) ⊎ (n ≤ (stored s r h).variable) → Contains (constants_of s') r
      go (inl l) = constant_there s' (stored s r h).variable r (cell_before (stored s r h).variable l ∙ (stored s r h).is)
      go (inr l) = absurd (let x = ap (λ (y : Slot). y.cell) (sym (slot_past s (stored s r h).variable l)) ∙ (stored s r h).is in cc)

  -- ---- depths

  bound_depth : ℕ → ℕ
  bound_depth v = min (depth_at base v) d

  bound_edges : (v : ℕ) → All (λ w. bound_depth w ≤ bound_depth v) (parts_of (slot_at base v).cell)
  unfolding bound_depth
  bound_edges v = go (find v n)
    where
      up : v < n → All (λ w. min (depth_at base w) d ≤ min (depth_at base v) d) (parts_of (slot_at s v).cell)
      up l =
          all_with (λ w. w < n) (λ w. (slot_at s w).depth ≤ (slot_at s v).depth) (λ w. min (depth_at base w) d ≤ min (depth_at base v) d)
          (parts_of (slot_at s v).cell)
          (λ w i h. (let x = depth_before w i in let y = depth_before v l in omega (arith, x, y, h))) (shape.each v l).inside (shape.each v l).levelled

      go : Where v n → All (λ w. min (depth_at base w) d ≤ min (depth_at base v) d) (parts_of (slot_at base v).cell)
      go (Before l) = subst (λ (x : Slot). All (λ w. min (depth_at base w) d ≤ min (depth_at base v) d) (parts_of x.cell)) (sym (slot_before s (put cell d) v l)) (up l)
      go (At e) =
          let x : min (depth_at base v) d ≡ d = ap (λ u. min (depth_at base u) d) e ∙ (ap (λ u. min u d) depth_new ∙ omega arith) in
          subst (λ c. All (λ w. min (depth_at base w) d ≤ min (depth_at base v) d) (parts_of c)) (sym (ap (λ u. (slot_at base u).cell) e ∙ ap (λ (y : Slot). y.cell) (slot_new s (put cell d))))
          (All-weaker (λ w. w < n) (λ w. min (depth_at base w) d ≤ min (depth_at base v) d) (λ w i. omega (arith, x)) (parts_of cell) inside)
      go (After l) =
          subst (λ (x : Slot). All (λ w. min (depth_at base w) d ≤ min (depth_at base v) d) (parts_of x.cell))
          (sym (slot_past base v (omega (arith, length_push s (put cell d), l)))) (All-nil (λ w. min (depth_at base w) d ≤ min (depth_at base v) d))

  no_less : (v : ℕ) → min (depth_at base v) d ≤ depth_at s' v
  unfolding bound_depth
  no_less v = low.greatest bound_depth (λ w. omega arith) bound_edges v

  still_live : (e w : ℕ) → e < d → Live e s' w → Live e s w
  still_live e w l live = go (find w n)
    where
      go : Where w n → Live e s w
      go (Before i) = record { inside = i; depth = (let x = no_less w in let y = depth_before w i in omega (arith, live.depth, l, x, y)) }
      go (At q) = absurd (let x = no_less w in let y : depth_at base w ≡ d = ap (λ u. depth_at base u) q ∙ depth_new in omega (arith, live.depth, l, x, y))
      go (After i) = absurd (omega (arith, count, live.inside, i))

  -- ---- solutions

  fit_back : (σ : Values) → Fit σ s' → Fit σ s
  fit_back σ f = record {
    renames = record {
      class = f.renames.class;
      lacks = f.renames.lacks;
      apart = λ r t a b e. f.renames.apart r t (constants_on r a) (constants_on t b) e;
    };
    each = λ v. go v (cases_lt v n);
  }
    where
      go : (v : ℕ) → (v < n) ⊎ (n ≤ v) → Meets σ (slot_at s v) (σ.types v)
      go v (inl l) = record {
        cell = subst (Says σ (σ.types v)) (cell_before v l) (f.each v).cell;
        kind = ap (λ k. fits k (σ.types v)) (sym (kind_before v l)) ∙ (f.each v).kind;
        ground = (f.each v).ground;
      }
      go v (inr h) =
          subst (λ x. Meets σ x (σ.types v)) (sym (slot_past s v h)) (record { cell = tt; kind = any_fits (σ.types v); ground = (f.each v).ground })

  module _ (σ : Values) (t : Ground) (f : Fit σ s) (says : Says σ t cell) (ground : is_ground t ≡ true) where
    abbrev τ : Values
    τ = glued n σ t

    τ_agree : AgreeBelow n σ τ
    τ_agree = record { types = λ v l. sym (glued_below n σ t v l); constants = λ r. refl }

    meets_on : (v : ℕ) → Where v n → Meets τ (slot_at s' v) (τ.types v)
    meets_on v (Before l) = record {
      cell =
          subst (Says τ (τ.types v)) (sym (cell_before v l))
          (subst (λ u. Says τ u (slot_at s v).cell) (τ_agree.types v l)
          (says_same n σ τ (σ.types v) (slot_at s v).cell τ_agree (shape.each v l).inside (f.each v).cell));
      kind =
          ap (λ k. fits k (τ.types v)) (kind_before v l) ∙ (ap (fits (slot_at s v).kind) (sym (τ_agree.types v l)) ∙ (f.each v).kind);
      ground = ap is_ground (sym (τ_agree.types v l)) ∙ (f.each v).ground;
    }
    meets_on v (At e) =
        subst (λ u. Meets τ (slot_at s' u) (τ.types u)) (sym e)
        (record {
          cell = subst (Says τ (τ.types n)) (sym cell_new) (subst (λ u. Says τ u cell) (sym (glued_at n σ t)) (says_same n σ τ t cell τ_agree inside says));
          kind = ap (λ k. fits k (τ.types n)) kind_new ∙ any_fits (τ.types n);
          ground = ap is_ground (glued_at n σ t) ∙ ground;
        })
    meets_on v (After l) =
        subst (λ x. Meets τ x (τ.types v)) (sym (past v l))
        (record { cell = tt; kind = any_fits (τ.types v); ground = ap is_ground (glued_above n σ t v l) ∙ (f.each v).ground })

    fit_on : Fit τ s'
    fit_on = record {
      renames = record {
        class = f.renames.class;
        lacks = f.renames.lacks;
        apart = λ r u a b e. f.renames.apart r u (constants_back r a) (constants_back u b) e;
      };
      each = λ v. meets_on v (find v n);
    }

  made : Makes d s n s' cell
  made = record {
    later = record {
      grows = omega (arith, count);
      depth = λ v l. (let x = low.lower v in let y = depth_before v l in omega (arith, x, y));
      constants = constants_back;
    };
    live = record { inside = omega (arith, count); depth = (let x = low.lower n in let y = depth_new in omega (arith, x, y)) };
    determined = λ e w l live. record { same = λ σ τ f g agree. agree w (still_live e w l live) };
    back = λ σ f. (fit_back σ f, subst (Says σ (σ.types n)) cell_new (f.each n).cell);
    on = λ σ t f says ground. (glued n σ t, fit_on σ t f says ground, τ_agree σ t f says ground, glued_at n σ t);
  }

-- to make a variable for a cell without constants is a step, where what it leads to becomes no deeper
pub makes_cell : (s s' : Store) (d : ℕ) (cell : Cell) → IsStore s → All (λ w. w < length s) (parts_of cell) → constant_of cell ≡ []
    → IsLowered (s ++ put cell d ∷ []) s' → Makes d s (length s) s' cell
makes_cell s s' d cell shape inside plain low = made s s' d cell shape inside plain low

lowered_itself : (s : Store) → IsLowered s s
lowered_itself s = record { count = refl; cells = λ v. refl; kinds = λ v. refl; lower = λ v. omega arith; greatest = λ δ h k v. h v }

-- and so it is for a variable of which nothing is known
pub makes_open : (s : Store) (d : ℕ) → IsStore s → Makes d s (length s) (s ++ put Open d ∷ []) Open
makes_open s d shape = made s (s ++ put Open d ∷ []) d Open shape (All-nil (λ w. w < length s)) refl (lowered_itself (s ++ put Open d ∷ []))

-- and where something more is said of what it leads to
pub makes_on : (s s' : Store) (d : ℕ) (cell : Cell) → IsStore s → All (λ w. w < length s) (parts_of cell) → constant_of cell ≡ []
    → Becomes (s ++ put cell d ∷ []) [] s' [] → GoesOnAt d s s' → Makes d s (length s) s' cell
makes_on s s' d cell shape inside plain becomes goes =
    let base = s ++ put cell d ∷ [] in
    let m = made s base d cell shape inside plain (lowered_itself base) in
    record {
      later = record { grows = omega (arith, goes.grows); depth = goes.no_deeper; constants = goes.constants };
      live = record { inside = goes.grows; depth = omega (arith, goes.made) };
      determined = λ e w l live. record {
        same = λ σ τ f g agree. (goes.rests e l).same σ τ f g (λ u i h. agree u (record { inside = i; depth = h })) w live.inside live.depth;
      };
      back = λ σ f. m.back σ (becomes.back σ f (All-nil (MeetsAsk σ))).0;
      on = λ σ t f says ground. (
          let r = m.on σ t f says ground in
          let q = becomes.on r.0 r.1 (All-nil (MeetsAsk r.0)) in
          let more = length_push s (put cell d) in (
            q.values,
            q.fit,
            record {
              types = λ v l. r.2.types v l ∙ q.agree.types v (omega (arith, more, l));
              constants = λ x. r.2.constants x ∙ q.agree.constants x;
            },
            sym (q.agree.types (length s) (omega (arith, more))) ∙ r.3,
          ));
    }

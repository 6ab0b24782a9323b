-- A variable that is made.
use Rattle.std.proofs.Common.{◌≡◌, ◌≢◌, ℕ, ◌<◌, ◌≤◌, List, [], ◌∷◌, ◌++◌, length, map, Bool, true, false, Option, Some, None, refl, sym, ap, ◌∙◌, subst, arith, All, Contains}
use Rattle.std.specs.Prelude.{if◌then◌else◌, nat_eq, nat_lt}
use Rattle.std.proofs.lemmas.Bool.Decides.{nat_tests}
use Rattle.std.proofs.lemmas.List.{length_push}
use Rattle.std.proofs.lemmas.List.Elements.{All-head, All-tail}
use Rattle.elm_type.specs.Types.{Made, MoreType, MoreField, types_of, variable}
use Rattle.elm_type.specs.Classes.{Ground}
use Rattle.elm_type.specs.Rows.{extend}
use Rattle.elm_type.specs.Ground.{lacks_all, is_ground}
use Rattle.type_store.specs.Store.{FieldSlot, Cell, Open, Bound, Built, Row, Constant, Slot, Store, slot_at, field_names, field_slots, end_slots}
use Rattle.type_store.specs.Solutions.{Values, Says, Meets, constant_of, constants_of, Fit, AgreeBelow, row_value, rest_value}
use Rattle.type_store.specs.Shape.{parts_of}
use Rattle.type_store.specs.Steps.{put, NamedThere}
use Rattle.type_store.specs.Ends.{Turns}
use Rattle.type_store.proofs.Turns.{all_left, all_right, Which, Yes, Not, which, slot_pushed, slot_before, slot_past, open_meets, renames_fewer}
use Rattle.type_store.proofs.OneSlot.{put_meets}

-- ---- values that are the same at what a cell names

types_same : (n : ℕ) (σ τ : Values) (ws : List ℕ) → AgreeBelow n σ τ → All (λ w. w < n) ws → types_of (map σ.types ws) ≡ types_of (map τ.types ws)
types_same n σ τ [] g i = refl
types_same n σ τ (w ∷ ws) g i =
    ap (λ t. MoreType t (types_of (map σ.types ws))) (g.types w (All-head (λ w. w < n) w ws i)) ∙ ap (MoreType (τ.types w)) (types_same n σ τ ws g (All-tail (λ w. w < n) w ws i))

pub row_same : (n : ℕ) (σ τ : Values) (fs : List FieldSlot) → AgreeBelow n σ τ → All (λ w. w < n) (field_slots fs) → row_value σ.types fs ≡ row_value τ.types fs
row_same n σ τ [] g i = refl
row_same n σ τ (f ∷ fs) g i =
    ap (λ t. MoreField f.0 t (row_value σ.types fs)) (g.types f.1 (All-head (λ w. w < n) f.1 (field_slots fs) i)) ∙
    ap (MoreField f.0 (τ.types f.1)) (row_same n σ τ fs g (All-tail (λ w. w < n) f.1 (field_slots fs) i))

rest_same : (n : ℕ) (σ τ : Values) (end : Option ℕ) → AgreeBelow n σ τ → All (λ w. w < n) (end_slots end) → rest_value σ.types end ≡ rest_value τ.types end
rest_same n σ τ None g i = refl
rest_same n σ τ (Some w) g i = g.types w (All-head (λ w. w < n) w [] i)

pub says_same : (n : ℕ) (σ τ : Values) (t : Ground) (c : Cell) → AgreeBelow n σ τ → All (λ w. w < n) (parts_of c) → Says σ t c → Says τ t c
says_same n σ τ t Open g i p = tt
says_same n σ τ t (Bound w) g i p = p ∙ g.types w (All-head (λ w. w < n) w [] i)
says_same n σ τ t (Built h ws) g i p = p ∙ ap (Made h) (types_same n σ τ ws g i)
says_same n σ τ t (Row fs end) g i p =
    let a = row_same n σ τ fs g (all_left (λ w. w < n) (field_slots fs) (end_slots end) i) in
    let b = rest_same n σ τ end g (all_right (λ w. w < n) (field_slots fs) (end_slots end) i) in
    (p.0 ∙ (ap (λ k. extend k (rest_value σ.types end)) a ∙ ap (extend (row_value τ.types fs)) b), subst (λ u. lacks_all (field_names fs) u ≡ true) b p.1)
says_same n σ τ t (Constant r) g i p = p ∙ ap variable (g.constants r)

-- ---- the values with one more

abbrev pub glued : ℕ → Values → Ground → Values
glued n σ g = record { types = λ v. if nat_eq v n then g else σ.types v; constants = σ.constants }

pub glued_at : (n : ℕ) (σ : Values) (g : Ground) → (glued n σ g).types n ≡ g
glued_at n σ g = let e : nat_eq n n ≡ true = grind (arith, nat_tests) in ap (λ b. if b then g else σ.types n) e

pub glued_off : (n : ℕ) (σ : Values) (g : Ground) (v : ℕ) → v ≢ n → (glued n σ g).types v ≡ σ.types v
glued_off n σ g v h = go (nat_eq v n) refl
  where
    go : (b : Bool) → nat_eq v n ≡ b → (if nat_eq v n then g else σ.types v) ≡ σ.types v
    go true e = absurd (h (grind (arith, nat_tests)))
    go false e = ap (λ b. if b then g else σ.types v) e

less_not : (v w : ℕ) → v < w → v ≢ w
less_not v w l e = omega arith

pub glued_agrees : (n : ℕ) (σ : Values) (g : Ground) → AgreeBelow n σ (glued n σ g)
glued_agrees n σ g = record { types = λ v l. sym (glued_off n σ g v (less_not v n l)); constants = λ r. refl }

-- ---- an open variable more

constants_pushed : (s : Store) (d : ℕ) → constants_of (s ++ put Open d ∷ []) ≡ constants_of s
constants_pushed [] d = refl
constants_pushed (x ∷ s) d = ap (λ rs. constant_of x.cell ++ rs) (constants_pushed s d)

data Below (w n : ℕ) : Type 0 where
  Less : w < n → Below w n
  Past : n ≤ w → Below w n

below : (w n : ℕ) → Below w n
below w n = go (nat_lt w n) refl
  where
    go : (b : Bool) → nat_lt w n ≡ b → Below w n
    go true e = Less (grind (arith, nat_tests))
    go false e = Past (grind (arith, nat_tests))

fit_unpushed : (σ : Values) (s : Store) (d : ℕ) → Fit σ (s ++ put Open d ∷ []) → Fit σ s
fit_unpushed σ s d f = record {
  renames = renames_fewer (constants_of (s ++ put Open d ∷ [])) (constants_of s) σ.constants (λ r h. subst (λ xs. Contains xs r) (sym (constants_pushed s d)) h) f.renames;
  each = λ w. go w (below w (length s));
}
  where
    go : (w : ℕ) → Below w (length s) → Meets σ (slot_at s w) (σ.types w)
    go w (Less l) = subst (λ (x : Slot). Meets σ x (σ.types w)) (slot_before s (put Open d) w l) (f.each w)
    go w (Past l) = subst (λ (x : Slot). Meets σ x (σ.types w)) (sym (slot_past s w l)) (open_meets σ (σ.types w) (f.each w).ground)

module _ (σ : Values) (s : Store) (d : ℕ) (g : Ground) (ground : is_ground g ≡ true) (there : NamedThere s) (f : Fit σ s) where
  abbrev τ : Values
  τ = glued (length s) σ g

  meets_kept : (w : ℕ) → w < length s → Meets τ (slot_at s w) (τ.types w)
  meets_kept w l =
      let e : σ.types w ≡ τ.types w = (glued_agrees (length s) σ g).types w l in
      subst (λ t. Meets τ (slot_at s w) t) e (record {
        cell = says_same (length s) σ τ (σ.types w) (slot_at s w).cell (glued_agrees (length s) σ g) (there w l) (f.each w).cell;
        kind = (f.each w).kind;
        ground = (f.each w).ground;
      })

  past_meets : (w : ℕ) → length s ≤ w → Which w (length s) → Meets τ (slot_at (s ++ put Open d ∷ []) w) (τ.types w)
  past_meets w l (Yes e) =
      subst (λ x. Meets τ (slot_at (s ++ put Open d ∷ []) x) (τ.types x)) (sym e)
      (subst (λ (x : Slot). Meets τ x (τ.types (length s))) (sym (slot_pushed s (put Open d))) (put_meets τ Open d (τ.types (length s)) tt (ap is_ground (glued_at (length s) σ g) ∙ ground)))
  past_meets w l (Not n) =
      subst (λ (x : Slot). Meets τ x (τ.types w)) (sym (slot_past (s ++ put Open d ∷ []) w (omega (arith, length_push s (put Open d)))))
      (open_meets τ (τ.types w) (ap is_ground (glued_off (length s) σ g w n) ∙ (f.each w).ground))

  fit_pushed : Fit τ (s ++ put Open d ∷ [])
  fit_pushed = record {
    renames = renames_fewer (constants_of s) (constants_of (s ++ put Open d ∷ [])) σ.constants (λ r h. subst (λ xs. Contains xs r) (constants_pushed s d) h) f.renames;
    each = λ w. go w (below w (length s));
  }
    where
      go : (w : ℕ) → Below w (length s) → Meets τ (slot_at (s ++ put Open d ∷ []) w) (τ.types w)
      go w (Less l) = subst (λ (x : Slot). Meets τ x (τ.types w)) (sym (slot_before s (put Open d) w l)) (meets_kept w l)
      go w (Past l) = past_meets w l (which w (length s))

-- what the new variable is to stand for
pub record Chosen (σ : Values) (s : Store) (Q : Values → Type 0) : Type 0 where
  pub value : Ground
  pub ground : is_ground value ≡ true
  pub meet : (τ : Values) → τ.types (length s) ≡ value → AgreeBelow (length s) σ τ → Q τ

pub pushed : {P Q : Values → Type 0} (s : Store) (d : ℕ) → NamedThere s
    → ((σ : Values) → Fit σ (s ++ put Open d ∷ []) → Q σ → P σ)
    → ((σ : Values) → Fit σ s → P σ → Chosen σ s Q)
    → Turns s P (s ++ put Open d ∷ []) Q
pushed s d there back on = record {
  grows = omega (arith, length_push s (put Open d));
  back = λ σ f q. (fit_unpushed σ s d f, back σ f q);
  on = λ σ f p. (
      let c = on σ f p in
      record {
        values = glued (length s) σ c.value;
        agree = glued_agrees (length s) σ c.value;
        fit = fit_pushed σ s d c.value c.ground there f;
        meet = c.meet (glued (length s) σ c.value) (glued_at (length s) σ c.value) (glued_agrees (length s) σ c.value);
      });
}

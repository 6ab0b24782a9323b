-- Constants of a definition at another place, and solutions with other constants.
use Rattle.std.proofs.Common.{◌≡◌, ℕ, zero, suc, ◌+◌, ◌≤◌, List, [], ◌∷◌, ◌++◌, length, Bool, true, false, cond, refl, sym, ap, ◌∙◌, arith, replicate}
use Rattle.std.specs.Prelude.{◌&&◌, nat_eq}
use Rattle.std.specs.List.{Contains}
use Rattle.std.proofs.lemmas.Bool.Decides.{nat_tests}
use Rattle.elm_type.specs.Types.{Name, Rigid, variable}
use Rattle.elm_type.specs.Classes.{Ground}
use Rattle.elm_type.specs.declared.class.Class.{Class}
use Rattle.type_items.specs.Items.{Place}
use Rattle.type_store.specs.Store.{Cell, Open, Bound, Built, Row, Constant, Slot, Store, slot_at}
use Rattle.type_store.specs.Solutions.{Values, Fit, Says, Meets, Renames, constants_of}
use Rattle.type_walks.specs.Regions.{only, below}
use Rattle.type_walks.proofs.Cleaning.{constant_there}
use Rattle.type_schemes.specs.Constants.{moved}

-- ---- places

pub only_same : (p r : Place) → only p r ≡ true → p ≡ r
only_same [] [] h = refl
only_same [] (j ∷ r) h = absurd cc
only_same (k ∷ p) [] h = absurd cc
only_same (k ∷ p) (j ∷ r) h =
    let one = and_first (nat_eq k j) (only p r) h in
    let two = and_second (nat_eq k j) (only p r) h in
    let e : k ≡ j = grind (arith, nat_tests) in
    ap (λ x. x ∷ p) e ∙ ap (λ x. j ∷ x) (only_same p r two)
  where
    and_first : (a b : Bool) → (a && b) ≡ true → a ≡ true
    and_first true b h = refl
    and_first false b h = h

    and_second : (a b : Bool) → (a && b) ≡ true → b ≡ true
    and_second true b h = h
    and_second false b h = absurd cc

pub below_there : (q : Place) (i : ℕ) (y : Place) → below q (q ++ i ∷ y) ≡ true
below_there [] i y = refl
below_there (k ∷ q) i y =
    let e : nat_eq k k ≡ true = grind (arith, nat_tests) in
    ap (λ b. b && below q (q ++ i ∷ y)) e ∙ below_there q i y

make : Place → Name → Class → List Name → Rigid
make p x c xs = record { place = p; name = x; class = c; lacks = xs }

pub rigid_same : (r t : Rigid) → r.place ≡ t.place → r.name ≡ t.name → r.class ≡ t.class → r.lacks ≡ t.lacks → r ≡ t
unfolding make
rigid_same r t a b c d =
    ap (λ x. make x r.name r.class r.lacks) a
    ∙ (ap (λ x. make t.place x r.class r.lacks) b
    ∙ (ap (λ x. make t.place t.name x r.lacks) c ∙ ap (make t.place t.name t.class) d))

-- ---- the constants of the place p, and the others

pub kappa : Place → Place → (Rigid → Rigid) → Rigid → Rigid
kappa p x k r = cond (only p r.place) (moved x r) (k r)

module _ (p x : Place) (k : Rigid → Rigid) where
  pub kappa_own : (r : Rigid) → only p r.place ≡ true → kappa p x k r ≡ moved x r
  unfolding kappa
  kappa_own r h = ap (λ b. cond b (moved x r) (k r)) h

  pub kappa_other : (r : Rigid) → only p r.place ≡ false → kappa p x k r ≡ k r
  unfolding kappa
  kappa_other r h = ap (λ b. cond b (moved x r) (k r)) h

  pub kappa_class : ((r : Rigid) → (k r).class ≡ r.class) → (r : Rigid) → (kappa p x k r).class ≡ r.class
  unfolding kappa
  kappa_class h r = go (only p r.place)
    where
      go : (b : Bool) → (cond b (moved x r) (k r)).class ≡ r.class
      go true = refl
      go false = h r

  pub kappa_lacks : ((r : Rigid) → (k r).lacks ≡ r.lacks) → (r : Rigid) → (kappa p x k r).lacks ≡ r.lacks
  unfolding kappa
  kappa_lacks h r = go (only p r.place)
    where
      go : (b : Bool) → (cond b (moved x r) (k r)).lacks ≡ r.lacks
      go true = refl
      go false = h r

  -- different constants stay so, where none of the others goes to x
  pub kappa_renames : (old rs : List Rigid) → Renames old k → ((r : Rigid) → Contains rs r → only p r.place ≡ false → Contains old r)
      → ((r : Rigid) → Contains old r → x ≡ (k r).place → ⊥) → Renames rs (kappa p x k)
  unfolding kappa
  kappa_renames old rs h there free = record {
    class = λ r. class_at r (only p r.place);
    lacks = λ r. lacks_at r (only p r.place);
    apart = λ r t a b e. go r t a b (only p r.place) (only p t.place) refl refl e;
  }
    where
      class_at : (r : Rigid) (b : Bool) → (cond b (moved x r) (k r)).class ≡ r.class
      class_at r true = refl
      class_at r false = h.class r

      lacks_at : (r : Rigid) (b : Bool) → (cond b (moved x r) (k r)).lacks ≡ r.lacks
      lacks_at r true = refl
      lacks_at r false = h.lacks r

      go : (r t : Rigid) → Contains rs r → Contains rs t → (b c : Bool) → only p r.place ≡ b → only p t.place ≡ c
          → cond b (moved x r) (k r) ≡ cond c (moved x t) (k t) → r ≡ t
      go r t cr ct true true a b e =
          rigid_same r t (sym (only_same p r.place a) ∙ only_same p t.place b) (ap (λ (z : Rigid). z.name) e) (ap (λ (z : Rigid). z.class) e)
          (ap (λ (z : Rigid). z.lacks) e)
      go r t cr ct true false a b e = absurd (free t (there t ct b) (ap (λ (z : Rigid). z.place) e))
      go r t cr ct false true a b e = absurd (free r (there r cr a) (sym (ap (λ (z : Rigid). z.place) e)))
      go r t cr ct false false a b e = h.apart r t (there r cr a) (there t ct b) e

-- ---- a place that no constant goes to

total : (Rigid → Rigid) → List Rigid → ℕ
total k [] = 0
total k (r ∷ rs) = length (k r).place + total k rs

total_over : (k : Rigid → Rigid) (rs : List Rigid) (r : Rigid) → Contains rs r → length (k r).place ≤ total k rs
unfolding total
total_over k [] r (i, l, e) = absurd (omega arith)
total_over k (t ∷ ts) r (zero, l, e) = (
    let same : length (k t).place ≡ length (k r).place = ap (λ (z : Rigid). length (k z).place) e in
    omega arith)
total_over k (t ∷ ts) r (suc i, l, e) = (
    let h = total_over k ts r (i, omega arith, e) in
    omega arith)

long : (n : ℕ) → length {A = ℕ} (replicate n 0) ≡ n
long zero = refl
long (suc n) = ap suc (long n)

-- of two ways that they may go
pub far : (Rigid → Rigid) → (Rigid → Rigid) → List Rigid → Place
far k l rs = replicate (suc (total k rs + total l rs)) 0

module _ (k l : Rigid → Rigid) (rs : List Rigid) (r : Rigid) (h : Contains rs r) where
  pub far_off : far k l rs ≡ (k r).place → ⊥
  unfolding far
  far_off e =
      let over = total_over k rs r h in
      let same : length {A = ℕ} (replicate (suc (total k rs + total l rs)) 0) ≡ length (k r).place = ap length e in
      let m = long (suc (total k rs + total l rs)) in
      omega arith

  pub far_off_second : far k l rs ≡ (l r).place → ⊥
  unfolding far
  far_off_second e =
      let over = total_over l rs r h in
      let same : length {A = ℕ} (replicate (suc (total k rs + total l rs)) 0) ≡ length (l r).place = ap length e in
      let m = long (suc (total k rs + total l rs)) in
      omega arith

-- ---- other constants

says_with : (ω : Values) (k : Rigid → Rigid) (c : Cell) (t : Ground) → Says ω t c → ((r : Rigid) → c ≡ Constant r → ω.constants r ≡ k r)
    → Says (record { types = ω.types; constants = k }) t c
says_with ω k Open t h same = tt
says_with ω k (Bound w) t h same = h
says_with ω k (Built b ws) t h same = h
says_with ω k (Row fs end) t h same = h
says_with ω k (Constant r) t h same = h ∙ ap variable (same r refl)

pub meets_with : (ω : Values) (k : Rigid → Rigid) (slot : Slot) (t : Ground)
    → Meets ω slot t → ((r : Rigid) → slot.cell ≡ Constant r → ω.constants r ≡ k r)
    → Meets (record { types = ω.types; constants = k }) slot t
meets_with ω k slot t m same = record { cell = says_with ω k slot.cell t m.cell same; kind = m.kind; ground = m.ground }

pub fit_with : (s : Store) (ω : Values) (k : Rigid → Rigid) → Fit ω s → ((r : Rigid) → (k r).class ≡ r.class) → ((r : Rigid) → (k r).lacks ≡ r.lacks)
    → ((r : Rigid) → Contains (constants_of s) r → ω.constants r ≡ k r) → Fit (record { types = ω.types; constants = k }) s
fit_with s ω k f class lacks same = record {
  renames = record {
    class = class;
    lacks = lacks;
    apart = λ r t cr ct e. f.renames.apart r t cr ct (same r cr ∙ (e ∙ sym (same t ct)));
  };
  each = λ v. meets_with ω k (slot_at s v) (ω.types v) (f.each v) (λ r e. same r (constant_there s v r e));
}

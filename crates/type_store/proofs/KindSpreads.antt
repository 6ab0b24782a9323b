-- A step for a kind spreads what is known to what the cell names.
use Rattle.std.proofs.Common.{◌≡◌, ℕ, ◌<◌, List, [], ◌∷◌, ◌++◌, length, set, Bool, true, false, Some, refl, sym, ap, ◌∙◌, subst, arith}
use Rattle.std.specs.Prelude.{◌||◌}
use Rattle.std.specs.Str.{bytes_eq}
use Rattle.std.proofs.lemmas.List.{length-set, append-nil}
use Rattle.elm_type.specs.Types.{Name, Kind, variable}
use Rattle.elm_type.specs.Classes.{meet, is_below}
use Rattle.elm_type.specs.declared.class.Class.{Class}
use Rattle.elm_type.specs.Ground.{contains}
use Rattle.type_store.specs.Store.{Slot, Store, slot_at}
use Rattle.type_store.specs.Solutions.{Ask, InClass, Lacks}
use Rattle.type_store.specs.Steps.{class_asks, lack_asks, with_kind}
use Rattle.type_store.specs.Spreading.{EachSpread, SpreadBut}
use Rattle.type_store.proofs.Turns.{Which, Yes, Not, which, slot_same, slot_other}
use Rattle.type_store.proofs.Classes.{below_itself}
use Rattle.type_store.proofs.KindSteps.{below_both, both_classes, contains_pushed}
use Rattle.type_store.proofs.Spreading.{spread_met, class_cell, lack_cell, Met}

below_first : (b c d : Class) → meet b c ≡ Some d → is_below d b ≡ true
below_first b c d e = (both_classes b c d (variable (record { place = []; name = []; class = d; lacks = [] })) e (below_itself d)).0

-- the kind of one slot takes in what is asked
module _ (s : Store) (v : ℕ) (k : Kind) (a : Ask) (before left : List Ask) (l : v < length s) where
  abbrev t : Store
  t = set s v (with_kind (slot_at s v) k)

  kind_at : slot_at t v ≡ with_kind (slot_at s v) k
  kind_at = slot_same s v (with_kind (slot_at s v) k) l

  -- what holds of the new kind and the old one holds at each variable
  at_each : (P : Kind → Kind → Type 0) → ((x : Kind) → P x x) → P (slot_at s v).kind k → (w : ℕ) → P (slot_at s w).kind (slot_at t w).kind
  at_each P same new w = go (which w v)
    where
      go : Which w v → P (slot_at s w).kind (slot_at t w).kind
      go (Yes e) = subst (λ u. P (slot_at s u).kind (slot_at t u).kind) (sym e) (subst (λ (x : Slot). P (slot_at s v).kind x.kind) (sym kind_at) new)
      go (Not n) = subst (λ (x : Slot). P (slot_at s w).kind x.kind) (sym (slot_other s v w (with_kind (slot_at s v) k) n)) (same (slot_at s w).kind)

  kind_spread : Met t a → is_below k.class (slot_at s v).kind.class ≡ true
      → ((x : Name) → contains x (slot_at s v).kind.lacks ≡ true → contains x k.lacks ≡ true)
      → (SpreadBut t (before ++ left) (slot_at s v).kind (slot_at s v).cell → SpreadBut t (before ++ left) k (slot_at s v).cell)
      → EachSpread s (before ++ a ∷ []) → EachSpread t (before ++ left)
  kind_spread met low more here e w m = go (which w v)
    where
      lower : (w : ℕ) → is_below (slot_at t w).kind.class (slot_at s w).kind.class ≡ true
      lower = at_each (λ old new. is_below new.class old.class ≡ true) (λ x. below_itself x.class) low

      lacks : (w : ℕ) (x : Name) → contains x (slot_at s w).kind.lacks ≡ true → contains x (slot_at t w).kind.lacks ≡ true
      lacks w x = at_each (λ old new. contains x old.lacks ≡ true → contains x new.lacks ≡ true) (λ y h. h) (more x) w

      kept : (u : ℕ) → u < length s → SpreadBut t (before ++ left) (slot_at s u).kind (slot_at s u).cell
      kept u h = spread_met s t before left a met lower lacks (slot_at s u).kind (slot_at s u).cell (e u h)

      go : Which w v → SpreadBut t (before ++ left) (slot_at t w).kind (slot_at t w).cell
      go (Yes q) =
          subst (λ (x : Slot). SpreadBut t (before ++ left) x.kind x.cell) (sym (ap (slot_at t) q ∙ kind_at)) (here (kept v l))
      go (Not n) =
          subst (λ (x : Slot). SpreadBut t (before ++ left) x.kind x.cell) (sym (slot_other s v w (with_kind (slot_at s v) k) n))
          (kept w (omega (arith, m, length-set s v (with_kind (slot_at s v) k))))

-- ---- a class

module _ (s : Store) (v : ℕ) (c : Class) (before left : List Ask) (d : Class) (l : v < length s) (m : meet (slot_at s v).kind.class c ≡ Some d)
    (q : class_asks c (slot_at s v).cell ≡ Some left) where
  abbrev new_class : Kind
  new_class = record { class = d; lacks = (slot_at s v).kind.lacks }

  pub class_spread : EachSpread s (before ++ InClass v c ∷ []) → EachSpread (set s v (with_kind (slot_at s v) new_class)) (before ++ left)
  class_spread = kind_spread s v new_class (InClass v c) before left l
      (ap (λ (x : Slot). is_below x.kind.class c) (slot_same s v (with_kind (slot_at s v) new_class) l) ∙ below_both (slot_at s v).kind.class c d m)
      (below_first (slot_at s v).kind.class c d m) (λ x h. h)
      (class_cell (set s v (with_kind (slot_at s v) new_class)) before left (slot_at s v).kind c d m (slot_at s v).cell q)

pub class_needless : (s : Store) (v : ℕ) (c : Class) (before : List Ask) → is_below (slot_at s v).kind.class c ≡ true → EachSpread s (before ++ InClass v c ∷ []) → EachSpread s before
class_needless s v c before b e w l = subst (λ as_. SpreadBut s as_ (slot_at s w).kind (slot_at s w).cell) (append-nil before)
    (spread_met s s before [] (InClass v c) b (λ u. below_itself (slot_at s u).kind.class) (λ u x h. h) (slot_at s w).kind (slot_at s w).cell (e w l))

-- ---- a field that is lacked

kept_or : (b p q : Bool) → (p ≡ true → q ≡ true) → (b || p) ≡ true → (b || q) ≡ true
kept_or true p q h e = refl
kept_or false p q h e = h e

more_lacked : (x y : Name) (xs : List Name) → contains x xs ≡ true → contains x (xs ++ y ∷ []) ≡ true
more_lacked x y [] h = absurd (let w : false ≡ true = h in cc)
more_lacked x y (z ∷ zs) h = kept_or (bytes_eq x z) (contains x zs) (contains x (zs ++ y ∷ [])) (more_lacked x y zs) h

module _ (s : Store) (v : ℕ) (x : Name) (before left : List Ask) (l : v < length s) (q : lack_asks x (slot_at s v).cell ≡ Some left) where
  abbrev new_lacks : Kind
  new_lacks = record { class = (slot_at s v).kind.class; lacks = (slot_at s v).kind.lacks ++ x ∷ [] }

  pub lack_spread : EachSpread s (before ++ Lacks v x ∷ []) → EachSpread (set s v (with_kind (slot_at s v) new_lacks)) (before ++ left)
  lack_spread = kind_spread s v new_lacks (Lacks v x) before left l
      (ap (λ (y : Slot). contains x y.kind.lacks) (slot_same s v (with_kind (slot_at s v) new_lacks) l) ∙ contains_pushed (slot_at s v).kind.lacks x)
      (below_itself (slot_at s v).kind.class) (λ y h. more_lacked y x (slot_at s v).kind.lacks h)
      (lack_cell (set s v (with_kind (slot_at s v) new_lacks)) before left (slot_at s v).kind x (slot_at s v).cell q)

pub lack_needless : (s : Store) (v : ℕ) (x : Name) (before : List Ask) → contains x (slot_at s v).kind.lacks ≡ true → EachSpread s (before ++ Lacks v x ∷ []) → EachSpread s before
lack_needless s v x before b e w l = subst (λ as_. SpreadBut s as_ (slot_at s w).kind (slot_at s w).cell) (append-nil before)
    (spread_met s s before [] (Lacks v x) b (λ u. below_itself (slot_at s u).kind.class) (λ u y h. h) (slot_at s w).kind (slot_at s w).cell (e w l))

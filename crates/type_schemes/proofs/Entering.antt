-- A variable is entered, as the code does it.
use Rattle.std.proofs.Common.{◌≡◌, ℕ, ◌<◌, ◌≤◌, List, ◌∷◌, length, get_or, Bool, true, false, cond, not, nat_eq, refl, sym, ap, ◌∙◌, subst, arith}
use Rattle.std.specs.List.{AllByRecursion}
use Rattle.std.proofs.lemmas.Bool.{eqb-true}
use Rattle.std.proofs.lemmas.List.Elements.{recursion_from_All}
use Rattle.type_store.specs.declared.slot.Slot as stored
use Rattle.type_store.specs.Store.{Store, slot_at}
use Rattle.type_store.specs.Shape.{IsStore, parts_of}
use Rattle.type_store.specs.Steps.{Leads, is_bound}
use Rattle.type_store.specs.View.{slot_view, store_view}
use Rattle.type_store.proofs.Undoing.{view_or, length_view}
use Rattle.type_schemes.specs.declared.order.Task.{Task}
use Rattle.type_schemes.specs.declared.order.Task.TheVariants.{Enter, Leave}
use Rattle.type_schemes.specs.Ends.{end_of, IsDeep}
use Rattle.type_schemes.specs.Walk.{entered, Walks}
use Rattle.type_schemes.proofs.Ends.{end_is}
use Rattle.type_schemes.proofs.Walking.{passed, known_listed, went_in, same_seen}

-- the slot that the code reads
pub slot_is : (slots : List stored.Slot) (s : Store) (i : ℕ) (d : stored.Slot) → store_view slots ≡ s → i < length s → d ≡ get_or slots i d → slot_at s i ≡ slot_view d
slot_is slots s i d e l h =
    ap (λ t. slot_at t i) (sym e) ∙ (view_or slots i d (omega (arith, ap length e, length_view slots, l)) ∙ ap slot_view (sym h))

module _ (floor : ℕ) (s : Store) (start : ℕ) (older : List ℕ) (stack : List Task) (seen : ℕ → Bool) (whole : IsStore s) (v at : ℕ) (leads : Leads s v at)
    (free : is_bound (slot_at s at).cell ≡ false) (inside : at < length s) (w : Walks floor s start older (Enter v ∷ stack) seen) where
  ends : end_of s v ≡ at
  ends = end_is s whole v at leads free

  pub enter_shallow : (slot_at s at).depth < floor → Walks floor s start older stack seen
  enter_shallow l =
      passed floor s start older stack seen v w
      (λ d. absurd (let e = ap (λ x. (slot_at s x).depth) ends in omega (arith, e, l, d)))

  module _ (seen' : ℕ → Bool) (more : (q : ℕ) → seen' q ≡ cond (nat_eq at q) true (seen q)) where
    pub enter_known : seen at ≡ true → Walks floor s start older stack seen'
    enter_known e =
        same_seen floor s start older stack seen seen' (λ q. more q ∙ go q (nat_eq at q) refl)
        (passed floor s start older stack seen v w (λ d. known_listed floor s start older stack seen v w (ap seen ends ∙ e)))
      where
        go : (q : ℕ) (b : Bool) → nat_eq at q ≡ b → cond b true (seen q) ≡ seen q
        go q true h = sym (ap seen (sym (eqb-true at q h)) ∙ e)
        go q false h = refl

    pub enter_new : seen at ≡ false → floor ≤ (slot_at s at).depth → Walks floor s start older (entered (parts_of (slot_at s at).cell) (Leave at ∷ stack)) seen'
    enter_new new deep =
        subst
        (λ a. seen a ≡ false → ((q : ℕ) → seen' q ≡ cond (nat_eq a q) true (seen q)) → IsDeep floor s a → is_bound (slot_at s a).cell ≡ false → a < length s
        → AllByRecursion (λ p. p < length s) (parts_of (slot_at s a).cell) → Walks floor s start older (entered (parts_of (slot_at s a).cell) (Leave a ∷ stack)) seen')
        ends (λ n m d f i p. went_in floor s start older stack seen v w seen' n m d f i p) new more deep free inside
        (recursion_from_All (λ p. p < length s) (parts_of (slot_at s at).cell) (whole.each at inside).inside)

-- whether the code found it new
pub was_new : (b c : Bool) → c ≡ not b → c ≡ true → b ≡ false
was_new true c e f = absurd (cc)
was_new false c e f = refl

pub was_there : (b c : Bool) → c ≡ not b → c ≡ false → b ≡ true
was_there true c e f = refl
was_there false c e f = absurd (cc)

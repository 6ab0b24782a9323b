-- A constant is let go.
use Rattle.std.proofs.Common.{◌≡◌, ℕ, ◌<◌, ◌≤◌, List, [], ◌∷◌, ◌++◌, length, set, Bool, true, false, Some, None, refl, sym, ap, ◌∙◌, subst, arith}
use Rattle.std.specs.Prelude.{◌||◌}
use Rattle.std.specs.Str.{bytes_eq}
use Rattle.std.specs.List.{All}
use Rattle.std.proofs.lemmas.List.{length-set}
use Rattle.std.proofs.lemmas.List.Elements.{All-head, All-tail, All-weaker, All-nil}
use Rattle.elm_type.specs.Types.{Name, Kind, Rigid}
use Rattle.elm_type.specs.Classes.{is_below, asks}
use Rattle.elm_type.specs.declared.demands.Demand.{Demand}
use Rattle.elm_type.specs.declared.demands.Demand.TheVariants.{Never, Always, OfParts}
use Rattle.elm_type.specs.Ground.{contains}
use Rattle.type_store.specs.Store.{Cell, Open, Bound, Built, Row, Constant, Slot, Store, slot_at, field_names}
use Rattle.type_store.specs.Shape.{AllIn, Demanded, Spread, IsSlot, IsStore, parts_of}
use Rattle.type_store.specs.Loosening.{IsLetGo, IsLoosened, let_go}
use Rattle.type_store.proofs.Turns.{Which, Yes, Not, which, slot_same, slot_other}
use Rattle.type_store.proofs.Names.{same_name}
use Rattle.type_store.proofs.Classes.{below_itself, no}
use Rattle.type_store.proofs.Lacking.{all_in_itself}
use Rattle.type_store.proofs.Settling.{below_again}
use Rattle.type_store.proofs.Resting.{constants_set}

-- ---- a list of names in another

one_in : (x : Name) (ys zs : List Name) → contains x ys ≡ true → AllIn ys zs → contains x zs ≡ true
one_in x [] zs e h = no e
one_in x (y ∷ ys) zs e h = go (bytes_eq x y) refl (λ f. one_in x ys zs f (All-tail (λ n. contains n zs ≡ true) y ys h))
  where
    go : (b : Bool) → bytes_eq x y ≡ b → (contains x ys ≡ true → contains x zs ≡ true) → contains x zs ≡ true
    go true q again = subst (λ n. contains n zs ≡ true) (sym (same_name x y q)) (All-head (λ n. contains n zs ≡ true) y ys h)
    go false q again = again (sym (ap (λ b. b || contains x ys) q) ∙ e)

all_in_again : (xs ys zs : List Name) → AllIn xs ys → AllIn ys zs → AllIn xs zs
all_in_again xs ys zs g h = All-weaker (λ x. contains x ys ≡ true) (λ x. contains x zs ≡ true) (λ x e. one_in x ys zs e h) xs g

module _ (s : Store) (v : ℕ) (r : Rigid) (whole : IsStore s) (l : v < length s) (is : (slot_at s v).cell ≡ Constant r) where
  abbrev loose : Slot
  loose = let_go (slot_at s v) r

  abbrev after : Store
  after = set s v (let_go (slot_at s v) r)

  same_length : length after ≡ length s
  same_length = length-set s v loose

  constant_spread : Spread s (slot_at s v).kind (Constant r)
  constant_spread = subst (Spread s (slot_at s v).kind) is (whole.each v l).spread

  -- no less is known of a variable
  class_kept : (w : ℕ) → is_below (slot_at after w).kind.class (slot_at s w).kind.class ≡ true
  class_kept w = go (which w v)
    where
      go : Which w v → is_below (slot_at (set s v (let_go (slot_at s v) r)) w).kind.class (slot_at s w).kind.class ≡ true
      go (Yes q) =
          subst (λ u. is_below (slot_at (set s v (let_go (slot_at s v) r)) u).kind.class (slot_at s u).kind.class ≡ true) (sym q)
          (subst (λ (x : Slot). is_below x.kind.class (slot_at s v).kind.class ≡ true) (sym (slot_same s v loose l)) constant_spread.0)
      go (Not n) = subst (λ (x : Slot). is_below x.kind.class (slot_at s w).kind.class ≡ true) (sym (slot_other s v w loose n)) (below_itself (slot_at s w).kind.class)

  lacks_kept : (w : ℕ) → AllIn (slot_at s w).kind.lacks (slot_at after w).kind.lacks
  lacks_kept w = go (which w v)
    where
      go : Which w v → AllIn (slot_at s w).kind.lacks (slot_at (set s v (let_go (slot_at s v) r)) w).kind.lacks
      go (Yes q) =
          subst (λ u. AllIn (slot_at s u).kind.lacks (slot_at (set s v (let_go (slot_at s v) r)) u).kind.lacks) (sym q)
          (subst (λ (x : Slot). AllIn (slot_at s v).kind.lacks x.kind.lacks) (sym (slot_same s v loose l)) constant_spread.1)
      go (Not n) = subst (λ (x : Slot). AllIn (slot_at s w).kind.lacks x.kind.lacks) (sym (slot_other s v w loose n)) (all_in_itself (slot_at s w).kind.lacks)

  demanded_on : (d : Demand) (ws : List ℕ) → Demanded s d ws → Demanded after d ws
  demanded_on Never ws q = q
  demanded_on Always ws q = q
  demanded_on (OfParts c) ws q =
      All-weaker (λ w. is_below (slot_at s w).kind.class c ≡ true) (λ w. is_below (slot_at after w).kind.class c ≡ true)
      (λ w p. below_again (slot_at after w).kind.class (slot_at s w).kind.class c (class_kept w) p) ws q

  spread_on : (k : Kind) (c : Cell) → Spread s k c → Spread after k c
  spread_on k Open q = q
  spread_on k (Bound w) q = (
    below_again (slot_at after w).kind.class (slot_at s w).kind.class k.class (class_kept w) q.0,
    all_in_again k.lacks (slot_at s w).kind.lacks (slot_at after w).kind.lacks q.1 (lacks_kept w),
  )
  spread_on k (Built f ws) q = (q.0, demanded_on (asks k.class f (length ws)) ws q.1)
  spread_on k (Row fs None) q = q
  spread_on k (Row fs (Some w)) q =
      (q.0, q.1, all_in_again (k.lacks ++ field_names fs) (slot_at s w).kind.lacks (slot_at after w).kind.lacks q.2 (lacks_kept w))
  spread_on k (Constant t) q = q

  depth_kept : (w : ℕ) → (slot_at after w).depth ≡ (slot_at s w).depth
  depth_kept w = go (which w v)
    where
      go : Which w v → (slot_at (set s v (let_go (slot_at s v) r)) w).depth ≡ (slot_at s w).depth
      go (Yes q) =
          subst (λ u. (slot_at (set s v (let_go (slot_at s v) r)) u).depth ≡ (slot_at s u).depth) (sym q)
          (ap (λ (x : Slot). x.depth) (slot_same s v loose l))
      go (Not n) = ap (λ (x : Slot). x.depth) (slot_other s v w loose n)

  loose_slot : IsSlot after v loose
  loose_slot = record {
    inside = All-nil (λ w. w < length after);
    cell = tt;
    spread = tt;
    levelled = All-nil (λ w. (slot_at after w).depth ≤ (slot_at s v).depth);
  }

  other_slot : (w : ℕ) → w < length s → IsSlot after w (slot_at s w)
  other_slot w i =
      let x = whole.each w i in
      record {
        inside = All-weaker (λ u. u < length s) (λ u. u < length after) (λ u k. omega (arith, k, same_length)) (parts_of (slot_at s w).cell) x.inside;
        cell = x.cell;
        spread = spread_on (slot_at s w).kind (slot_at s w).cell x.spread;
        levelled = All-weaker (λ u. (slot_at s u).depth ≤ (slot_at s w).depth) (λ u. (slot_at after u).depth ≤ (slot_at s w).depth)
            (λ u k. (let y = depth_kept u in omega (arith, y, k))) (parts_of (slot_at s w).cell) x.levelled;
      }

  each_slot : (w : ℕ) → w < length after → IsSlot after w (slot_at after w)
  each_slot w i = go (which w v)
    where
      go : Which w v → IsSlot after w (slot_at (set s v (let_go (slot_at s v) r)) w)
      go (Yes q) =
          subst (λ u. IsSlot after u (slot_at (set s v (let_go (slot_at s v) r)) u)) (sym q)
          (subst (IsSlot after v) (sym (slot_same s v loose l)) loose_slot)
      go (Not n) = subst (IsSlot after w) (sym (slot_other s v w loose n)) (other_slot w (omega (arith, i, same_length)))

  each_rank : (w : ℕ) → All (λ u. whole.ranked.rank u < whole.ranked.rank w) (parts_of (slot_at after w).cell)
  each_rank w = go (which w v)
    where
      go : Which w v → All (λ u. whole.ranked.rank u < whole.ranked.rank w) (parts_of (slot_at (set s v (let_go (slot_at s v) r)) w).cell)
      go (Yes q) =
          subst (λ (x : Slot). All (λ u. whole.ranked.rank u < whole.ranked.rank w) (parts_of x.cell))
          (sym (ap (λ u. slot_at (set s v (let_go (slot_at s v) r)) u) q ∙ slot_same s v loose l)) (All-nil (λ u. whole.ranked.rank u < whole.ranked.rank w))
      go (Not n) = subst (λ (x : Slot). All (λ u. whole.ranked.rank u < whole.ranked.rank w) (parts_of x.cell)) (sym (slot_other s v w loose n)) (whole.ranked.each w)

  loose_whole : IsStore after
  loose_whole = record {
    each = each_slot;
    ranked = record { rank = whole.ranked.rank; each = each_rank };
    once = (constants_set s v loose l (λ t z. absurd (cc))).once whole.once;
  }

-- ---- as the program does it

pub did_loosen : (s new : Store) (v : ℕ) (x : Slot) → IsStore s → v < length s → IsLetGo (slot_at s v) x → new ≡ set s v x → IsLoosened s v new × IsStore new
did_loosen s new v x whole l go e =
    let is : new ≡ set s v (let_go (slot_at s v) go.rigid) = e ∙ ap (set s v) go.now in
    (record { rigid = go.rigid; was = go.was; now = is }, subst IsStore (sym is) (loose_whole s v go.rigid whole l go.was))

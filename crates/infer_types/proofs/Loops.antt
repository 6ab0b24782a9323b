-- Nodes that are written in turn, from the last one on.
use Rattle.std.proofs.Common.{◌≡◌, ℕ, zero, suc, ◌+◌, ◌-◌, ◌<◌, List, [], ◌∷◌, length, map, take, drop, drop-cons}
use Rattle.std.proofs.Common.{get_or, refl, sym, ap, ◌∙◌, subst, arith, append-nil}
use Rattle.std.specs.Prelude.{slice_index}
use Rattle.std.specs.List.{AllByRecursion, AllZip}
use Rattle.std.proofs.lemmas.List.{take-append-drop}
use Rattle.elm_type.specs.Types.{Name, Kind, kind_at}
use Rattle.elm_type.specs.Spelling.{spell, read, type_of, Read, AreSpelled}
use Rattle.elm_type.specs.declared.node.Leaf.TheVariants as leaf
use Rattle.elm_type.specs.declared.node.Node.{Node}
use Rattle.elm_type.specs.declared.node.Node.TheVariants as node
use Rattle.elm_type.proofs.Reading.{read_spelled}
use Rattle.elm_type.specs.Ground.{lacks_all}
use Rattle.type_store.specs.Store.{FieldSlot, Store}
use Rattle.type_store.specs.Shape.{IsStore, AllIn}
use Rattle.type_store.proofs.Lacking.{lacks_part}
use Rattle.type_walks.specs.Links.{Live}
use Rattle.type_walks.proofs.Walking.{rests}
use Rattle.type_walks.specs.TypeStepsLaws.{Lacking}
use Rattle.type_constructs.proofs.Chains.{tells_same, tells_on, all_still}
use Rattle.infer_steps.specs.Codes.{State}
use Rattle.infer_steps.specs.Ready.{Follows}
use Rattle.infer_steps.proofs.Stepping.{follows_itself, follows_on}
use Rattle.infer_steps.proofs.Lacking.{both_walks}
use Rattle.infer_types.specs.Stacks.{names}
use Rattle.infer_types.specs.Writing.{node_names, Waits, CanWrite, Writes, NodeFits, NodeWritten, NodesWritten}
use Rattle.infer_types.proofs.Nodes.{Fitting, read_names, AllFit, fit_type, fit_from}
use Rattle.infer_types.proofs.Waiting.{names_again}

-- ---- one node after the others

pub nothing_written : (leaves : List ℕ) (s : State) → IsStore s.store → NodesWritten leaves [] s [] s
unfolding read
nothing_written leaves s whole = record {
  follows = follows_itself s whole;
  live = tt;
  names = refl;
  typed = λ a links types e live has. record
      { after = links; walk = rests a s.store links; tells = tells_same links; each = tt };
}

pub one_more_written : (leaves : List ℕ) (n : Node) (ns : List Node) (old u new : State) (before after : List FieldSlot)
    → NodesWritten leaves ns old before u → NodeWritten leaves n before u after new → NodesWritten leaves (n ∷ ns) old
    after new
unfolding read
one_more_written leaves n ns old u new before after one two = record {
  follows = follows_on old u new one.follows two.follows;
  live = two.live;
  names = two.names ∙ (ap (λ xs. node_names n xs) one.names ∙ sym (names_again n (read ns)));
  typed = λ a links types e live has. (
      let x = one.typed a links types e live has in
      let y = two.typed a x.after types (read ns) (e ∙ sym one.follows.depth) (x.walk.live live)
      (all_still leaves types x.tells has) x.each in
      record {
        after = y.after;
        walk = both_walks a [] [] old.store u.store new.store links x.after y.after live x.walk y.walk;
        tells = tells_on y.tells x.tells;
        each = y.each;
      });
}

-- ---- which nodes fit

lacking_at : (s : Store) (leaves : List ℕ) (kinds : List Kind) (i : ℕ) (xs : List Name) → i < length kinds
    → AllZip (λ v (k : Kind). Lacking s v k.lacks) leaves kinds → AllIn xs (kind_at kinds i).lacks → Lacking s
    (slice_index leaves i) xs
lacking_at s [] [] i xs l h within = absurd (omega (arith, l))
lacking_at s [] (k ∷ ks) i xs l h within = absurd h
lacking_at s (v ∷ vs) [] i xs l h within = absurd h
lacking_at s (v ∷ vs) (k ∷ ks) zero xs l h within =
    record { each = λ σ f. lacks_part xs k.lacks (σ.types v) within (h.0.each σ f) }
lacking_at s (v ∷ vs) (k ∷ ks) (suc i) xs l h within = lacking_at s vs ks i xs (omega (arith, l)) h.1 within

as_many : {X Y : Type 0} (R : X → Y → Type 0) (xs : List X) (ys : List Y) → AllZip R xs ys → length xs ≡ length ys
as_many R [] [] h = refl
as_many R [] (y ∷ ys) h = absurd h
as_many R (x ∷ xs) [] h = absurd h
as_many R (x ∷ xs) (y ∷ ys) h = ap suc (as_many R xs ys h.1)

node_fits : (s : Store) (leaves : List ℕ) (kinds : List Kind) (n : Node) (xs : List Name)
    → AllZip (λ v (k : Kind). Lacking s v k.lacks) leaves kinds → Fitting kinds n xs → NodeFits s leaves n xs
node_fits s leaves kinds (node.Made h n) xs lacks fits = tt
node_fits s leaves kinds (node.Record n) xs lacks fits = fits
node_fits s leaves kinds (node.Open (leaf.Free i) n) xs lacks fits =
    let many = as_many (λ v (k : Kind). Lacking s v k.lacks) leaves kinds lacks in (
      omega (arith, many, fits.0),
      fits.1,
      lacking_at s leaves kinds i (take n xs) fits.0 lacks fits.2,
    )
node_fits s leaves kinds (node.Open (leaf.Fixed r) n) xs lacks fits = absurd fits
node_fits s leaves kinds (node.Field k) xs lacks fits = tt

pub lacking_later : (old new : State) → Follows old new → (vs : List ℕ) (ks : List Kind)
    → AllByRecursion (Live old.depth old.store) vs
    → AllZip (λ v (k : Kind). Lacking old.store v k.lacks) vs ks → AllZip (λ v (k : Kind). Lacking new.store v k.lacks)
    vs ks
lacking_later old new f [] [] l h = tt
lacking_later old new f [] (k ∷ ks) l h = absurd h
lacking_later old new f (v ∷ vs) [] l h = absurd h
lacking_later old new f (v ∷ vs) (k ∷ ks) l h = (
  record {
    each = λ σ g. (
        let x = f.back σ g in
        ap (lacks_all k.lacks) (x.agree.types v l.0) ∙ h.0.each x.values x.fit);
  },
  lacking_later old new f vs ks l.1 h.1,
)

-- ---- a loop from the last node on

from_last : {X : Type 0} (xs : List X) (i : ℕ) (d : X) → i < length xs
    → drop (length xs - (i + 1)) xs ≡ get_or xs (length xs - 1 - i) d ∷ drop (length xs - i) xs
from_last xs i d l =
    let e : length xs - (i + 1) ≡ length xs - 1 - i = omega arith in
    let f : suc (length xs - 1 - i) ≡ length xs - i = omega arith in
    ap (λ k. drop k xs) e ∙ (drop-cons xs (length xs - 1 - i) d (omega arith) ∙ ap
    (λ k. get_or xs (length xs - 1 - i) d ∷ drop k xs) f)

past_end : {X : Type 0} (xs : List X) → drop (length xs) xs ≡ []
past_end [] = refl
past_end (x ∷ xs) = past_end xs

past_all : {X : Type 0} (xs : List X) → drop (length xs - 0) xs ≡ []
past_all xs = (let e : length xs - 0 ≡ length xs = omega arith in ap (λ k. drop k xs) e ∙ past_end xs)

from_first : {X : Type 0} (xs : List X) → drop (length xs - length xs) xs ≡ xs
from_first xs = let e : length xs - length xs ≡ 0 = omega arith in ap (λ k. drop k xs) e

pub begins : (leaves : List ℕ) (ns : List Node) (s : State) → IsStore s.store
    → NodesWritten leaves (drop (length ns - 0) ns) s [] s
begins leaves ns s whole =
    subst (λ ms. NodesWritten leaves ms s [] s) (sym (past_all ns)) (nothing_written leaves s whole)

all_fit : (kinds : List Kind) (ns : List Node) (k : ℕ) → AllFit kinds ns → AllFit kinds (drop k ns)
all_fit kinds ns k h = fit_from kinds (take k ns) (drop k ns) (subst (AllFit kinds) (sym (take-append-drop k ns)) h)

pub next_fits : (leaves : List ℕ) (ns : List Node) (old u : State) (stack : List FieldSlot) (i : ℕ) (d : Node)
    → i < length ns → AreSpelled ns
    → AllByRecursion (Live old.depth old.store) leaves → CanWrite old.store leaves (type_of ns)
    → NodesWritten leaves (drop (length ns - i) ns) old stack u → NodeFits u.store leaves
    (get_or ns (length ns - 1 - i) d) (names stack)
next_fits leaves ns old u stack i d l spelled live can w =
    let all : AllFit can.kinds ns = subst (AllFit can.kinds) (append-nil (spell (type_of ns)) ∙ spelled)
    (fit_type can.kinds (type_of ns) [] can.below can.formed tt) in
    let here : AllFit can.kinds (get_or ns (length ns - 1 - i) d ∷ drop (length ns - i) ns) = subst (AllFit can.kinds)
    (from_last ns i d l) (all_fit can.kinds ns (length ns - (i + 1)) all) in
    node_fits u.store leaves can.kinds (get_or ns (length ns - 1 - i) d) (names stack)
    (lacking_later old u w.follows leaves can.kinds live can.lacks)
    (subst (Fitting can.kinds (get_or ns (length ns - 1 - i) d)) (sym w.names) here.0)

pub next : (leaves : List ℕ) (ns : List Node) (old u new : State) (before after : List FieldSlot) (i : ℕ) (d : Node)
    → i < length ns
    → NodesWritten leaves (drop (length ns - i) ns) old before u → NodeWritten leaves (get_or ns (length ns - 1 - i) d)
    before u after new
    → NodesWritten leaves (drop (length ns - (i + 1)) ns) old after new
next leaves ns old u new before after i d l one two =
    subst (λ ms. NodesWritten leaves ms old after new) (sym (from_last ns i d l))
    (one_more_written leaves (get_or ns (length ns - 1 - i) d) (drop (length ns - i) ns) old u new before after one two)

-- ---- the whole type

one_read : (ns : List Node) → AreSpelled ns → read ns ≡ ([], type_of ns) ∷ []
unfolding read
one_read ns spelled = ap read (sym (append-nil (spell (type_of ns)) ∙ spelled)) ∙ read_spelled (type_of ns) []

pub ends : (leaves : List ℕ) (ns : List Node) (old new : State) (f : FieldSlot) (fs : List FieldSlot) → AreSpelled ns
    → NodesWritten leaves (drop (length ns - length ns) ns) old (f ∷ fs) new → Writes leaves (type_of ns) old new f.1
ends leaves ns old new f fs spelled w =
    let all : NodesWritten leaves ns old (f ∷ fs) new = subst (λ ms. NodesWritten leaves ms old (f ∷ fs) new)
    (from_first ns) w in
    record {
      follows = all.follows;
      live = all.live.0;
      typed = λ a links types e live has. (
          let x = all.typed a links types e live has in
          let each = subst (λ (rs : Read). AllZip (Waits types x.after) (f ∷ fs) rs) (one_read ns spelled) x.each in
          record { after = x.after; walk = x.walk; tells = x.tells; has = each.0.1 });
    }

pub not_empty : (leaves : List ℕ) (ns : List Node) (old new : State) → AreSpelled ns
    → NodesWritten leaves (drop (length ns - length ns) ns) old [] new → ⊥
not_empty leaves ns old new spelled w =
    let one : [] ≡ [] ∷ [] = w.names ∙ ap (λ ms. read_names ms) (from_first ns) ∙ ap (λ (rs : Read). map (λ r. r.0) rs)
    (one_read ns spelled) in cc

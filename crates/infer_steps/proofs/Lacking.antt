-- Fields that are asked to be absent, one after the other, and what no types meet.
use Rattle.std.proofs.Common.{◌≡◌, ℕ, zero, suc, ◌+◌, ◌<◌, List, [], ◌∷◌, ◌++◌, length, take, drop, get_or, Bool, true, false, refl, sym, ap, ◌∙◌, subst, arith, append_assoc}
use Rattle.std.specs.Prelude.{◌&&◌, All}
use Rattle.std.proofs.lemmas.List.{take_more}
use Rattle.std.proofs.lemmas.List.Elements.{All-head}
use Rattle.elm_base.specs.declared.position.Pos.{Pos}
use Rattle.elm_type.specs.Types.{Name, Made, tuple, int_type}
use Rattle.elm_type.specs.declared.head.Head.TheVariants as head
use Rattle.elm_type.specs.Classes.{Ground}
use Rattle.elm_type.specs.Ground.{lacks, lacks_all, value}
use Rattle.type_items.specs.Items.{Wanted, Item, Lacks, lack_items}
use Rattle.type_store.specs.Store.{Store}
use Rattle.type_store.specs.Shape.{IsStore}
use Rattle.type_store.specs.Solutions.{Values, Fit, Clash, MeetsAsk}
use Rattle.type_store.specs.Solutions as store
use Rattle.type_walks.specs.Regions.{Region, none, either}
use Rattle.type_walks.specs.Links.{Types, Links, Has, AreLive}
use Rattle.type_walks.specs.Walks.{Around, Walk}
use Rattle.type_walks.proofs.Regions.{none_inside, none_apart, either_inside}
use Rattle.type_walks.proofs.Walking.{rests, goes_on, widens}
use Rattle.type_constructs.specs.Passing.{Passes}
use Rattle.type_constructs.specs.Failing.{Bad, Fails, Same}
use Rattle.type_constructs.specs.TypeRefusalsLaws.{FailsSame}
use Rattle.type_constructs.proofs.Passing.{passes_plain}
use Rattle.type_constructs.proofs.Failing.{fails_after, fails_earlier}
use Rattle.type_constructs.specs.Binding.{Typed}
use Rattle.type_constructs.proofs.Chains.{has_still, tells_on}
use Rattle.type_constructs.proofs.Sizes.{lack_sizes}
use Rattle.infer_steps.specs.Codes.{State}
use Rattle.infer_steps.specs.Made.{IsMade, Just, OfHead}
use Rattle.infer_steps.specs.Asked.{AsksLack, RefusesLack, AsksLacks, RefusesLacks, IsNonsense}
use Rattle.infer_steps.proofs.Stepping.{follows_itself, follows_on}

-- ---- two walks where no place is

pub both_walks : (a : Around) (first second : List Item) (s u s' : Store) (before between after : Links) → AreLive a.depth s before
    → Walk a none first s before u between → Walk a none second u between s' after → Walk a none (first ++ second) s before s' after
both_walks a first second s u s' before between after live one two =
    widens a (either none none) none (first ++ second) s s' before after (either_inside none none none (none_inside none) (none_inside none))
    (goes_on a none none first second s u s' before between after (none_apart none) live one two)

pub fails_later : (a : Around) (Q : Region) (first second : List Item) (s u s' : Store) (before between : Links) (bad : Bad)
    → Walk a none first s before u between → Passes a s before none first → Fails a u between Q second bad s'
    → Fails a s before Q (first ++ second) bad s'
fails_later a Q first second s u s' before between bad walk passes fails =
    fails_after a none Q Q first second s u s' before between bad (none_apart Q) (none_inside Q) (record { each = λ r h. h }) walk passes fails

-- ---- fields that are absent

pub lacks_none : (s : State) (pos : Pos) (v : ℕ) → IsStore s.store → AsksLacks s s pos v []
lacks_none s pos v whole = record {
  follows = follows_itself s whole;
  back = λ σ f. (f, refl);
  walk = λ a links t e live h. rests a s.store links;
}

and_true : (a b : Bool) → a ≡ true → b ≡ true → (a && b) ≡ true
and_true true b h k = k
and_true false b h k = h

and_one : (a b : Bool) → (a && b) ≡ true → a ≡ true
and_one true b h = refl
and_one false b h = h

and_two : (a b : Bool) → (a && b) ≡ true → b ≡ true
and_two true b h = h
and_two false b h = absurd cc

lacks_last : (xs : List Name) (x : Name) (t : Ground) → lacks_all xs t ≡ true → lacks x t ≡ true → lacks_all (xs ++ x ∷ []) t ≡ true
lacks_last [] x t h k = and_true (lacks x t) true k refl
lacks_last (y ∷ xs) x t h k =
    and_true (lacks y t) (lacks_all (xs ++ x ∷ []) t) (and_one (lacks y t) (lacks_all xs t) h)
    (lacks_last xs x t (and_two (lacks y t) (lacks_all xs t) h) k)

items_last : (pos : Pos) (t : Wanted) (xs ys : List Name) → lack_items pos t (xs ++ ys) ≡ lack_items pos t xs ++ lack_items pos t ys
items_last pos t [] ys = refl
items_last pos t (x ∷ xs) ys = ap (λ l. Lacks pos t x ∷ l) (items_last pos t xs ys)

pub lacks_more : (old u new : State) (pos : Pos) (v : ℕ) (xs : List Name) (x : Name) → AsksLacks old u pos v xs → AsksLack u new pos v x
    → AsksLacks old new pos v (xs ++ x ∷ [])
lacks_more old u new pos v xs x one two = record {
  follows = follows_on old u new one.follows two.follows;
  back = λ σ f. (
      let b = two.back σ f in
      let c = one.back σ b.0 in
      (c.0, lacks_last xs x (σ.types v) c.1 b.1));
  walk = λ a links t e live h. (
      let w = one.walk a links t e live h in
      let z = two.walk a links t (e ∙ sym one.follows.depth) (w.live live) h in
      subst (λ l. Walk a none l old.store links new.store links) (sym (items_last pos t xs (x ∷ [])))
      (both_walks a (lack_items pos t xs) (lack_items pos t (x ∷ [])) old.store u.store new.store links links links live w z));
}

pub lacks_refused : (old u new : State) (pos : Pos) (v : ℕ) (xs : List Name) (x : Name) (ys : List Name) (bad : Bad) → AsksLacks old u pos v xs
    → RefusesLack u new pos v x bad → RefusesLacks old new pos v (xs ++ x ∷ ys) bad
lacks_refused old u new pos v xs x ys bad one two = record {
  fails = λ a links Q t rest e live h.
      subst (λ l. Fails a old.store links Q l bad new.store)
      (sym (append_assoc (lack_items pos t xs) (lack_items pos t (x ∷ ys)) rest) ∙ ap (λ l. l ++ rest) (sym (items_last pos t xs (x ∷ ys))))
      (fails_later a Q (lack_items pos t xs) (lack_items pos t (x ∷ ys) ++ rest) old.store u.store new.store links links bad (one.walk a links t e live h)
      (passes_plain a old.store links none (lack_items pos t xs) (lack_sizes pos t xs))
      (two.fails a links Q t (lack_items pos t ys ++ rest) h));
}

-- ---- what no types meet

two_heads : (all : Types) → value all int_type ≡ value all (tuple []) → ⊥
two_heads all e = cc

record Both (a : Around) (s s' : Store) (v w : ℕ) (links : Links) : Type 0 where
  after : Links
  walk : Walk a none [] s links s' after
  first_has : Has after v int_type
  second_has : Has after w (tuple [])

pub is_nonsense : FailsSame → (old u new : State) (pos : Pos) (v w : ℕ) → IsStore new.store → IsMade old u v (Just int_type) → IsMade u new w (OfHead head.Tuple [])
    → IsNonsense old new pos (Same pos v w)
is_nonsense fails_same old u new pos v w whole one two = record {
  fails = λ a links Q rest e live. (
      let p = parts a links e live in
      fails_later a Q [] _ old.store new.store new.store links p.after (Same pos v w) p.walk
      (passes_plain a old.store links none [] tt)
      (fails_same a new.store p.after Q v w pos int_type (tuple []) rest whole p.first_has p.second_has clash));
}
  where
    parts : (a : Around) (links : Links) → a.depth ≡ old.depth → AreLive a.depth old.store links → Both a old.store new.store v w links
    parts a links e live =
        let x = one.typed a links int_type e live refl in
        let y = two.typed a x.after (tuple []) (e ∙ sym one.follows.depth) (x.walk.live live) (record { parts = []; has = tt; is = refl }) in
        record {
          after = y.after;
          walk = both_walks a [] [] old.store u.store new.store links x.after y.after live x.walk y.walk;
          first_has = has_still y.tells x.has;
          second_has = y.has;
        }

    clash : Clash new.store (store.Same v w ∷ [])
    clash = record {
      never = λ σ f meets. (
          let a : Around = record { depth = old.depth; constants = [] } in
          let p = parts a [] refl tt in
          let x = p.walk.sound σ f (record { each = λ r c. refl }) in
          let linked = x.linked x.types (λ r h. absurd cc) tt in
          two_heads x.types (sym (p.first_has.same σ x.types linked) ∙ (All-head (MeetsAsk σ) (store.Same v w) [] meets ∙ p.second_has.same σ x.types linked)));
    }

-- ---- in a loop

names_split : (xs : List Name) (i : ℕ) (x : Name) → i < length xs → x ≡ get_or xs i x → xs ≡ take i xs ++ x ∷ drop (suc i) xs
names_split [] i x l is = absurd (omega (arith, l))
names_split (y ∷ xs) zero x l is = ap (λ z. z ∷ xs) (sym is)
names_split (y ∷ xs) (suc i) x l is = ap (λ zs. y ∷ zs) (names_split xs i x (omega (arith, l)) is)

pub lacks_next : (old u new : State) (pos : Pos) (v : ℕ) (xs : List Name) (i : ℕ) (x : Name) → i < length xs → x ≡ get_or xs i x
    → AsksLacks old u pos v (take i xs) → AsksLack u new pos v x → AsksLacks old new pos v (take (i + 1) xs)
lacks_next old u new pos v xs i x l is one two =
    subst (AsksLacks old new pos v) (sym (take_more xs i x l ∙ ap (λ y. take i xs ++ y ∷ []) (sym is))) (lacks_more old u new pos v (take i xs) x one two)

pub lacks_refused_at : (old u new : State) (pos : Pos) (v : ℕ) (xs : List Name) (i : ℕ) (x : Name) (bad : Bad) → i < length xs → x ≡ get_or xs i x
    → AsksLacks old u pos v (take i xs) → RefusesLack u new pos v x bad → RefusesLacks old new pos v xs bad
lacks_refused_at old u new pos v xs i x bad l is one two =
    subst (λ ys. RefusesLacks old new pos v ys bad) (sym (names_split xs i x l is)) (lacks_refused old u new pos v (take i xs) x (drop (suc i) xs) bad one two)

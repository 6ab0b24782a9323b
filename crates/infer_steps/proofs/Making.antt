-- Types that are made in several steps.
use Rattle.std.proofs.Common.{◌++◌, Bool, true, false, Result, Ok, Err, OnOk, subst, ◌≡◌, ℕ, [], ◌∷◌, refl, sym, ◌∙◌}
use Rattle.elm_base.specs.declared.position.Pos.{Pos}
use Rattle.elm_canon.specs.declared.tree.Operator.{Operator}
use Rattle.elm_type.specs.Types.{functions, int_type, bool_type, list_type}
use Rattle.elm_type.specs.declared.class.Class.TheVariants.{Any}
use Rattle.type_items.specs.Items.{Wanted}
use Rattle.type_items.specs.Operations.{computes, compares, operator_type}
use Rattle.type_store.specs.Shape.{IsStore}
use Rattle.type_walks.specs.Links.{Links, AreLive, Has, Tells}
use Rattle.type_walks.specs.Regions.{none, either}
use Rattle.type_walks.specs.Walks.{Around, Walk}
use Rattle.type_walks.proofs.Regions.{none_inside, none_apart, either_inside}
use Rattle.type_walks.proofs.Walking.{rests, goes_on, widens}
use Rattle.type_constructs.specs.Binding.{Typed}
use Rattle.type_constructs.proofs.Chains.{tells_on, has_still}
use Rattle.std.specs.Prelude.{if◌then◌else◌}
use Rattle.elm_type.specs.Classes.{is_any}
use Rattle.elm_type.specs.declared.class.Class.{Class}
use Rattle.type_items.specs.Items.{InClass}
use Rattle.type_constructs.specs.Failing.{Bad, Fails}
use Rattle.infer_steps.specs.Asked.{AsksClass, RefusesClass}
use Rattle.infer_steps.specs.Codes.{State}
use Rattle.infer_steps.specs.Made.{IsMade, Just, OfList, OfFunctions}
use Rattle.infer_steps.proofs.Stepping.{follows_itself, follows_on}
use Rattle.infer_steps.specs.Operators.{OfComputing, OfComparing, OfConsing, OfDividing, OfOperator, AsksClassItems, RefusesClassItems}

-- what is to be made, of a part that is made before
record Split (A B : Links → Wanted → Type 0) (m : ℕ) (links : Links) (t : Wanted) : Type 0 where
  pub type : Wanted
  pub first : A links type
  pub second : (after : Links) → Tells after links → Has after m type → B after t

module _ (A B C : Links → Wanted → Type 0) (m : ℕ) (split : (links : Links) (t : Wanted) → C links t → Split A B m links t) (old u new : State) (v : ℕ)
    (one : IsMade old u m A) (two : IsMade u new v B) where
  typed_over : (a : Around) (links : Links) (t : Wanted) → a.depth ≡ old.depth → AreLive a.depth old.store links → C links t
      → Typed a t old.store links new.store v
  typed_over a links t e live c =
      let s = split links t c in
      let first = one.typed a links s.type e live s.first in
      let second = two.typed a first.after t (e ∙ sym one.follows.depth) (first.walk.live live) (s.second first.after first.tells first.has) in
      record {
        after = second.after;
        walk =
            widens a (either none none) none [] old.store new.store links second.after (either_inside none none none (none_inside none) (none_inside none))
            (goes_on a none none [] [] old.store u.store new.store links first.after second.after (none_apart none) live first.walk second.walk);
        tells = tells_on second.tells first.tells;
        has = second.has;
      }

  made_over : IsMade old new v C
  made_over = record { follows = follows_on old u new one.follows two.follows; live = two.live; typed = typed_over }

-- the same, said in other words
made_as : (A C : Links → Wanted → Type 0) (old new : State) (v : ℕ) → ((links : Links) (t : Wanted) → C links t → A links t) → IsMade old new v A → IsMade old new v C
made_as A C old new v f m = record { follows = m.follows; live = m.live; typed = λ a links t e live c. m.typed a links t e live (f links t c) }

pub computed : (old new : State) (v w : ℕ) → IsMade old new v (OfFunctions (w ∷ w ∷ []) w) → IsMade old new v (OfComputing w)
computed old new v w m = made_as (OfFunctions (w ∷ w ∷ []) w) (OfComputing w) old new v
    (λ links t c. record { parameters = c.operand ∷ c.operand ∷ []; result = c.operand; has = (c.has, (c.has, tt)); result_has = c.has; is = c.is }) m

pub compared : (old u new : State) (v w m : ℕ) → IsMade old u m (Just bool_type) → IsMade u new v (OfFunctions (w ∷ w ∷ []) m) → IsMade old new v (OfComparing w)
compared old u new v w m one two = made_over (Just bool_type) (OfFunctions (w ∷ w ∷ []) m) (OfComparing w) m
    (λ links t c. record {
      type = bool_type;
      first = refl;
      second = λ after tells has. (
          let still = has_still tells c.has in
          record { parameters = c.operand ∷ c.operand ∷ []; result = bool_type; has = (still, (still, tt)); result_has = has; is = c.is });
    }) old u new v one two

pub consed : (old u new : State) (v w m : ℕ) → IsMade old u m (OfList w) → IsMade u new v (OfFunctions (w ∷ m ∷ []) m) → IsMade old new v (OfConsing w)
consed old u new v w m one two = made_over (OfList w) (OfFunctions (w ∷ m ∷ []) m) (OfConsing w) m
    (λ links t c. record {
      type = list_type c.operand;
      first = record { item = c.operand; has = c.has; is = refl };
      second = λ after tells has. record {
        parameters = c.operand ∷ list_type c.operand ∷ [];
        result = list_type c.operand;
        has = (has_still tells c.has, (has, tt));
        result_has = has;
        is = c.is;
      };
    }) old u new v one two

pub divided : (old u new : State) (v m : ℕ) → IsMade old u m (Just int_type) → IsMade u new v (OfComputing m) → IsMade old new v OfDividing
divided old u new v m one two = made_over (Just int_type) (OfComputing m) OfDividing m
    (λ links t c. record { type = int_type; first = refl; second = λ after tells has. record { operand = int_type; has = has; is = c } }) old u new v one two

-- ---- classes

-- that of all types asks nothing
pub asked_nothing : (s : State) (pos : Pos) (v : ℕ) → IsStore s.store → AsksClassItems s s pos v Any
asked_nothing s pos v whole = record { follows = follows_itself s whole; walk = λ a links t e live h. rests a s.store links }

-- ---- the type of an operator

pub operator_computes : (op : Operator) (old new : State) (v w : ℕ) → ((a : Wanted) → operator_type op a ≡ computes a) → IsMade old new v (OfComputing w)
    → IsMade old new v (OfOperator op w)
operator_computes op old new v w is m = made_as (OfComputing w) (OfOperator op w) old new v
    (λ links t c. record { operand = c.operand; has = c.has; is = c.is ∙ is c.operand }) m

pub operator_compares : (op : Operator) (old new : State) (v w : ℕ) → ((a : Wanted) → operator_type op a ≡ compares a) → IsMade old new v (OfComparing w)
    → IsMade old new v (OfOperator op w)
operator_compares op old new v w is m = made_as (OfComparing w) (OfOperator op w) old new v
    (λ links t c. record { operand = c.operand; has = c.has; is = c.is ∙ is c.operand }) m

pub operator_conses : (op : Operator) (old new : State) (v w : ℕ) → ((a : Wanted) → operator_type op a ≡ functions (a ∷ list_type a ∷ []) (list_type a))
    → IsMade old new v (OfConsing w) → IsMade old new v (OfOperator op w)
operator_conses op old new v w is m = made_as (OfConsing w) (OfOperator op w) old new v
    (λ links t c. record { operand = c.operand; has = c.has; is = c.is ∙ is c.operand }) m

pub operator_divides : (op : Operator) (old new : State) (v w : ℕ) → ((a : Wanted) → operator_type op a ≡ computes int_type) → IsMade old new v OfDividing
    → IsMade old new v (OfOperator op w)
operator_divides op old new v w is m = made_as OfDividing (OfOperator op w) old new v (λ links t c. c.is ∙ is c.operand) m

pub asked_items : (old new : State) (pos : Pos) (v : ℕ) (c : Class) → is_any c ≡ false → AsksClass old new pos v c → AsksClassItems old new pos v c
asked_items old new pos v c e m = record {
  follows = m.follows;
  walk = λ a links t d live has.
      subst (λ (b : Bool). Walk a none (if b then [] else InClass pos t c ∷ []) old.store links new.store links) (sym e) (m.walk a links t d live has);
}

pub refused_items : (old new : State) (pos : Pos) (v : ℕ) (c : Class) (bad : Bad) → is_any c ≡ false → RefusesClass old new pos v c bad
    → RefusesClassItems old new pos v c bad
refused_items old new pos v c bad e m = record {
  fails = λ a links Q t rest has.
      subst (λ (b : Bool). Fails a old.store links Q ((if b then [] else InClass pos t c ∷ []) ++ rest) bad new.store) (sym e) (m.fails a links Q t rest has);
}

pub ok_on : {A E P Q : Type 0} (r : Result A E) → OnOk r P → (P → Q) → OnOk r Q
ok_on (Ok x) p f = f p
ok_on (Err e) p f = tt

-- Order.
use Rattle.std.proofs.Common.{◌≡◌, ℤ, Bool, true, false, refl, sym, ap, ◌∙◌, subst, ◌⊎◌, inl, inr}
use Rattle.std.specs.Prelude.{if◌then◌else◌, List, ℕ}
use Rattle.std.specs.declared.cmp.Ordering.{Ordering}
use Rattle.std.specs.declared.cmp.Ordering.TheVariants.{Less, Equal, Greater}
use Rattle.std.specs.Ordering.{nat_cmp, int_cmp, is_eq, ordering_reverse}
use Rattle.std.specs.Cmp.Lexicographic.{slice_cmp}
use Rattle.std.proofs.lemmas.Cmp.{int_cmp_total, nat_list_cmp_total}
use Rattle.runs.specs.Ends.{End, Val, Crashed, OutOfFuel, Unsafe, Stuck, then_do}
use Rattle.runs.specs.Numbers.{is_number}
use Rattle.elm_canon.specs.declared.unions.Tag.TheVariants.{Number, Truth, Blank}
use Rattle.elm_meaning.specs.Seen.{Seen, FunctionS, IntS, TextS, TagS, RecordS, DictS, OddS, WireS, Seens, NoSeen}
use Rattle.elm_meaning.specs.Seen.{MoreSeen, see, same_count}
use Rattle.elm_meaning.specs.Equal.{equal, equal_all}
use Rattle.elm_meaning.specs.Order.{or_then, compare, compare_all}
use Rattle.emit_laws.specs.Comparing.{OrderTurns, OrderChains, LevelsAlike, EqualByOrder}
use Rattle.emit_laws.proofs.Tests.{number_Decides, turned, number_by_order, text_by_order, count_turned, count_chain}
use Rattle.emit_laws.proofs.Equality.{Alike, alike}

-- ---- turned around

-- an order is turned
abbrev Turns : End Ordering → End Ordering → Type 0
Turns (Val o) p = p ≡ Val (ordering_reverse o)
Turns (Crashed t) p = Unit {0}
Turns OutOfFuel p = Unit {0}
Turns Unsafe p = Unit {0}
Turns Stuck p = Unit {0}

then_turns : (a b r s : End Ordering) → Turns a b → Turns r s → Turns (then_do a (λ o. or_then o r)) (then_do b (λ o. or_then o s))
then_turns (Val Less) b r s h k = ap (λ z. then_do z (λ o. or_then o s)) h
then_turns (Val Equal) b r s h k = subst (λ z. Turns r (then_do z (λ o. or_then o s))) (sym h) k
then_turns (Val Greater) b r s h k = ap (λ z. then_do z (λ o. or_then o s)) h
then_turns (Crashed t) b r s h k = tt
then_turns OutOfFuel b r s h k = tt
then_turns Unsafe b r s h k = tt
then_turns Stuck b r s h k = tt

-- an order as it is turned
value_turns : (o p : Ordering) → p ≡ ordering_reverse o → Turns (Val o) (Val p)
value_turns o p e = ap (λ z. Val z) e

by_turns : (b c : Bool) (m n : Bool) (a z : End Ordering) (o p : Ordering) → b ≡ c → m ≡ n → Turns a z → p ≡ ordering_reverse o
    → Turns (if b then (if m then a else Stuck) else Val o) (if c then (if n then z else Stuck) else Val p)
by_turns true true true true a z o p e f h g = h
by_turns true true true false a z o p e f h g = absurd (let w : true ≡ false = f in cc)
by_turns true true false n a z o p e f h g = tt
by_turns true false m n a z o p e f h g = absurd (let w : true ≡ false = e in cc)
by_turns false true m n a z o p e f h g = absurd (let w : false ≡ true = e in cc)
by_turns false false m n a z o p e f h g = value_turns o p g

mutual
  compare_turns : (x y : Seen) → Turns (compare x y) (compare y x)
  compare_turns (IntS m) (IntS n) = value_turns (int_cmp m n) (int_cmp n m) (int_cmp_total.antisymm n m)
  compare_turns (TextS s) (TextS t) = value_turns (slice_cmp nat_cmp s t) (slice_cmp nat_cmp t s) (nat_list_cmp_total.antisymm t s)
  compare_turns (TagS (Number j) xs) (TagS (Number k) ys) =
      by_turns (is_number j k) (is_number k j) (same_count xs ys) (same_count ys xs) (compare_all xs ys) (compare_all ys xs) (int_cmp j k) (int_cmp k j)
      (turned is_number number_Decides j k) (count_turned xs ys) (all_turn xs ys) (int_cmp_total.antisymm k j)
  compare_turns _ _ = tt

  all_turn : (xs ys : Seens) → Turns (compare_all xs ys) (compare_all ys xs)
  all_turn NoSeen NoSeen = refl
  all_turn NoSeen (MoreSeen y ys) = tt
  all_turn (MoreSeen x xs) NoSeen = tt
  all_turn (MoreSeen x xs) (MoreSeen y ys) =
      then_turns (compare x y) (compare y x) (compare_all xs ys) (compare_all ys xs) (compare_turns x y) (all_turn xs ys)

pub order_turns : OrderTurns
order_turns v w o e = subst (λ z. Turns z (compare (see w) (see v))) e (compare_turns (see v) (see w))

-- ---- equality tells the same

abbrev Agrees : End Ordering → End Bool → Type 0
Agrees (Val o) b = b ≡ Val (is_eq o)
Agrees (Crashed t) b = Unit {0}
Agrees OutOfFuel b = Unit {0}
Agrees Unsafe b = Unit {0}
Agrees Stuck b = Unit {0}

then_agrees : (a r : End Ordering) (b s : End Bool) → Agrees a b → Agrees r s → Agrees (then_do a (λ o. or_then o r)) (then_do b (λ same. if same then s else Val false))
then_agrees (Val Less) r b s h k = ap (λ z. then_do z (λ same. if same then s else Val false)) h
then_agrees (Val Equal) r b s h k = subst (λ z. Agrees r (then_do z (λ same. if same then s else Val false))) (sym h) k
then_agrees (Val Greater) r b s h k = ap (λ z. then_do z (λ same. if same then s else Val false)) h
then_agrees (Crashed t) r b s h k = tt
then_agrees OutOfFuel r b s h k = tt
then_agrees Unsafe r b s h k = tt
then_agrees Stuck r b s h k = tt

by_agrees : (b m : Bool) (a : End Ordering) (z : End Bool) (o : Ordering) → b ≡ is_eq o → Agrees a z
    → Agrees (if b then (if m then a else Stuck) else Val o) (if b then (if m then z else Stuck) else Val false)
by_agrees true true a z o e h = h
by_agrees true false a z o e h = tt
by_agrees false m a z o e h = ap (λ w. Val w) e

mutual
  agrees : (x y : Seen) → Agrees (compare x y) (equal x y)
  agrees (IntS m) (IntS n) = ap (λ w. Val w) (number_by_order m n)
  agrees (TextS s) (TextS t) = ap (λ w. Val w) (text_by_order s t)
  agrees (TagS (Number j) xs) (TagS (Number k) ys) =
      by_agrees (is_number j k) (same_count xs ys) (compare_all xs ys) (equal_all xs ys) (int_cmp j k) (number_by_order j k) (all_agree xs ys)
  agrees _ _ = tt

  all_agree : (xs ys : Seens) → Agrees (compare_all xs ys) (equal_all xs ys)
  all_agree NoSeen NoSeen = refl
  all_agree NoSeen (MoreSeen y ys) = tt
  all_agree (MoreSeen x xs) NoSeen = tt
  all_agree (MoreSeen x xs) (MoreSeen y ys) =
      then_agrees (compare x y) (compare_all xs ys) (equal x y) (equal_all xs ys) (agrees x y) (all_agree xs ys)

pub equal_by_order : EqualByOrder
equal_by_order v w o e = subst (λ z. Agrees z (equal (see v) (see w))) e (agrees (see v) (see w))

-- ---- what has the same place looks the same

level : (x y : Seen) → compare x y ≡ Val Equal → x ≡ y
level x y e =
    let f : equal x y ≡ Val true = subst (λ z. Agrees z (equal x y)) e (agrees x y) in
    subst (Alike x y) f (alike x y)

pub levels_alike : LevelsAlike
levels_alike u v w e = ap (λ z. compare z (see w)) (level (see u) (see v) e)

-- ---- what is before what is before a value

-- a list of parts is before another by its first part, or by the others
first_before : (a r : End Ordering) → then_do a (λ o. or_then o r) ≡ Val Less → (a ≡ Val Less) ⊎ ((a ≡ Val Equal) × (r ≡ Val Less))
first_before (Val Less) r e = inl refl
first_before (Val Equal) r e = inr (refl, e)
first_before (Val Greater) r e = absurd cc
first_before (Crashed t) r e = absurd cc
first_before OutOfFuel r e = absurd cc
first_before Unsafe r e = absurd cc
first_before Stuck r e = absurd cc

by_first : (a r : End Ordering) → a ≡ Val Less → then_do a (λ o. or_then o r) ≡ Val Less
by_first a r e = ap (λ z. then_do z (λ o. or_then o r)) e

by_others : (a r : End Ordering) → a ≡ Val Equal → r ≡ Val Less → then_do a (λ o. or_then o r) ≡ Val Less
by_others a r e f = ap (λ z. then_do z (λ o. or_then o r)) e ∙ f

-- a constructor with its fields is before another by its number, or by its fields
abbrev Numbered : Bool → Bool → End Ordering → Ordering → End Ordering
Numbered b m a o = if b then (if m then a else Stuck) else Val o

number_before : (b m : Bool) (a : End Ordering) (o : Ordering) → Numbered b m a o ≡ Val Less
    → (o ≡ Less) ⊎ ((b ≡ true) × ((m ≡ true) × (a ≡ Val Less)))
number_before true true a o e = inr (refl, (refl, e))
number_before true false a o e = absurd cc
number_before false m a o e = inl cc

by_number : (b m : Bool) (a : End Ordering) (o : Ordering) → b ≡ is_eq o → o ≡ Less → Numbered b m a o ≡ Val Less
by_number b m a o e f =
    let g : b ≡ false = e ∙ ap is_eq f in
    ap (λ z. Numbered z m a o) g ∙ ap (λ z. Val z) f

by_fields : (b m : Bool) (a : End Ordering) (o : Ordering) → b ≡ true → m ≡ true → a ≡ Val Less → Numbered b m a o ≡ Val Less
by_fields b m a o e f g = ap (λ z. Numbered z m a o) e ∙ ap (λ z. Numbered true z a o) f ∙ g

-- what is compared of a constructor with a number
abbrev tagged : ℤ → Seens → ℤ → Seens → End Ordering
tagged j xs k ys = Numbered (is_number j k) (same_count xs ys) (compare_all xs ys) (int_cmp j k)

is_stuck : {X : Type 0} → Stuck ≡ Val Less → X
is_stuck e = absurd (let w : Stuck ≡ Val Less = e in cc)

int_chain : (m : ℤ) (y z : Seen) → compare (IntS m) y ≡ Val Less → compare y z ≡ Val Less → compare (IntS m) z ≡ Val Less
int_chain m (IntS n) (IntS k) e f =
    let g : int_cmp m n ≡ Less = cc in
    let h : int_cmp n k ≡ Less = cc in
    ap (λ w. Val w) (int_cmp_total.trans m n k g h)
int_chain m (IntS n) _ e f = is_stuck f
int_chain m _ z e f = is_stuck e

text_chain : (s : List ℕ) (y z : Seen) → compare (TextS s) y ≡ Val Less → compare y z ≡ Val Less → compare (TextS s) z ≡ Val Less
text_chain s (TextS t) (TextS u) e f =
    let g : slice_cmp nat_cmp s t ≡ Less = cc in
    let h : slice_cmp nat_cmp t u ≡ Less = cc in
    ap (λ w. Val w) (nat_list_cmp_total.trans s t u g h)
text_chain s (TextS t) _ e f = is_stuck f
text_chain s _ z e f = is_stuck e

-- a constructor with fields for which the same holds
tag_chain : (j : ℤ) (xs : Seens) → ((ys zs : Seens) → compare_all xs ys ≡ Val Less → compare_all ys zs ≡ Val Less → compare_all xs zs ≡ Val Less)
    → (y z : Seen) → compare (TagS (Number j) xs) y ≡ Val Less → compare y z ≡ Val Less → compare (TagS (Number j) xs) z ≡ Val Less
tag_chain j xs fields (TagS (Number k) ys) (TagS (Number l) zs) e f =
    elim (number_before (is_number j k) (same_count xs ys) (compare_all xs ys) (int_cmp j k) e) as (λ _. tagged j xs l zs ≡ Val Less) [
      | inl g ↦ elim (number_before (is_number k l) (same_count ys zs) (compare_all ys zs) (int_cmp k l) f) as (λ _. tagged j xs l zs ≡ Val Less) [
        | inl h ↦ by_number (is_number j l) (same_count xs zs) (compare_all xs zs) (int_cmp j l) (number_by_order j l) (int_cmp_total.trans j k l g h)
        | inr h ↦ by_number (is_number j l) (same_count xs zs) (compare_all xs zs) (int_cmp j l) (number_by_order j l) (subst (λ i. int_cmp j i ≡ Less) ((number_Decides k l).0 h.0) g)
      ]
      | inr g ↦ elim (number_before (is_number k l) (same_count ys zs) (compare_all ys zs) (int_cmp k l) f) as (λ _. tagged j xs l zs ≡ Val Less) [
        | inl h ↦ by_number (is_number j l) (same_count xs zs) (compare_all xs zs) (int_cmp j l) (number_by_order j l) (subst (λ i. int_cmp i l ≡ Less) (sym ((number_Decides j k).0 g.0)) h)
        | inr h ↦ by_fields (is_number j l) (same_count xs zs) (compare_all xs zs) (int_cmp j l)
            ((number_Decides j l).1 ((number_Decides j k).0 g.0 ∙ (number_Decides k l).0 h.0))
            (count_chain xs ys zs g.1.0 h.1.0) (fields ys zs g.1.1 h.1.1)
      ]
    ]
tag_chain j xs fields (TagS (Number k) ys) _ e f = is_stuck f
tag_chain j xs fields _ z e f = is_stuck e

mutual
  chain : (x y z : Seen) → compare x y ≡ Val Less → compare y z ≡ Val Less → compare x z ≡ Val Less
  chain (IntS m) y z e f = int_chain m y z e f
  chain (TextS s) y z e f = text_chain s y z e f
  chain (TagS (Number j) xs) y z e f = tag_chain j xs (λ ys zs. all_chain xs ys zs) y z e f
  chain (TagS (Truth b) xs) y z e f = is_stuck e
  chain (TagS Blank xs) y z e f = is_stuck e
  chain FunctionS y z e f = is_stuck e
  chain (RecordS ks xs) y z e f = is_stuck e
  chain (DictS xs) y z e f = is_stuck e
  chain OddS y z e f = is_stuck e
  chain (WireS w) y z e f = is_stuck e

  all_chain : (xs ys zs : Seens) → compare_all xs ys ≡ Val Less → compare_all ys zs ≡ Val Less → compare_all xs zs ≡ Val Less
  all_chain NoSeen NoSeen zs e f = absurd (let w : Val Equal ≡ Val Less = e in cc)
  all_chain NoSeen (MoreSeen y ys) zs e f = is_stuck e
  all_chain (MoreSeen x xs) NoSeen zs e f = is_stuck e
  all_chain (MoreSeen x xs) (MoreSeen y ys) NoSeen e f = is_stuck f
  all_chain (MoreSeen x xs) (MoreSeen y ys) (MoreSeen z zs) e f =
      elim (first_before (compare x y) (compare_all xs ys) e) as (λ _. then_do (compare x z) (λ o. or_then o (compare_all xs zs)) ≡ Val Less) [
        | inl g ↦ elim (first_before (compare y z) (compare_all ys zs) f) as (λ _. then_do (compare x z) (λ o. or_then o (compare_all xs zs)) ≡ Val Less) [
          | inl h ↦ by_first (compare x z) (compare_all xs zs) (chain x y z g h)
          | inr h ↦ by_first (compare x z) (compare_all xs zs) (subst (λ i. compare x i ≡ Val Less) (level y z h.0) g)
        ]
        | inr g ↦ elim (first_before (compare y z) (compare_all ys zs) f) as (λ _. then_do (compare x z) (λ o. or_then o (compare_all xs zs)) ≡ Val Less) [
          | inl h ↦ by_first (compare x z) (compare_all xs zs) (subst (λ i. compare i z ≡ Val Less) (sym (level x y g.0)) h)
          | inr h ↦ by_others (compare x z) (compare_all xs zs) (subst (λ i. compare i z ≡ Val Equal) (sym (level x y g.0)) h.0) (all_chain xs ys zs g.1 h.1)
        ]
      ]

pub order_chains : OrderChains
order_chains u v w e f = chain (see u) (see v) (see w) e f

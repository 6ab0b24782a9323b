-- Equality and order of values. Wherever two values have an order, it is that of a line: turned around it is the other
-- order, what is before what is before a value is before it, and equal values are in the same place; and == tells the
-- same as the order. Equal values look the same wherever values are compared.
use Rattle.std.specs.Prelude.{◌≡◌, Bool, true, false, ◌&&◌}
use Rattle.std.specs.declared.cmp.Ordering.{Ordering}
use Rattle.std.specs.declared.cmp.Ordering.TheVariants.{Less, Equal}
use Rattle.std.specs.Ordering.{ordering_reverse, is_eq}
use Rattle.runs.specs.Ends.{Val}
use Rattle.elm_meaning.specs.Values.{Value}
use Rattle.elm_meaning.specs.Seen.{Seen, FunctionS, IntS, TextS, TagS, RecordS, DictS, OddS, WireS, Seens, NoSeen}
use Rattle.elm_meaning.specs.Seen.{MoreSeen, see}
use Rattle.elm_meaning.specs.Equal.{equals}
use Rattle.elm_meaning.specs.Order.{compares}

-- ---- order

abbrev pub OrderTurns : Type 0
OrderTurns = (v w : Value) (o : Ordering) → compares v w ≡ Val o → compares w v ≡ Val (ordering_reverse o)

abbrev pub OrderChains : Type 0
OrderChains = (u v w : Value) → compares u v ≡ Val Less → compares v w ≡ Val Less → compares u w ≡ Val Less

abbrev pub LevelsAlike : Type 0
LevelsAlike = (u v w : Value) → compares u v ≡ Val Equal → compares u w ≡ compares v w

abbrev pub EqualByOrder : Type 0
EqualByOrder = (v w : Value) (o : Ordering) → compares v w ≡ Val o → equals v w ≡ Val (is_eq o)

-- ---- equality

-- no function is reached, nor what begins as a dictionary and is none
abbrev mutual
  pub is_plain : Seen → Bool
  is_plain FunctionS = false
  is_plain (IntS n) = true
  is_plain (TextS t) = true
  is_plain (TagS tag xs) = are_plain xs
  is_plain (RecordS ks xs) = are_plain xs
  is_plain (DictS xs) = are_plain xs
  is_plain OddS = false
  is_plain (WireS w) = true

  pub are_plain : Seens → Bool
  are_plain NoSeen = true
  are_plain (MoreSeen x xs) = is_plain x && are_plain xs

abbrev pub EqualsItself : Type 0
EqualsItself = (v : Value) → is_plain (see v) ≡ true → equals v v ≡ Val true

abbrev pub EqualTurns : Type 0
EqualTurns = (v w : Value) (b : Bool) → equals v w ≡ Val b → equals w v ≡ Val b

abbrev pub EqualsAlike : Type 0
EqualsAlike = (v w : Value) → equals v w ≡ Val true → see v ≡ see w

-- Classes above a class.
use Rattle.std.proofs.Common.{◌≡◌, Bool, true, false, refl, nat_eq}
use Rattle.std.specs.Prelude.{if◌then◌else◌, ◌||◌, ◌&&◌, not}
use Rattle.elm_type.specs.Types.{Closed, Over, Made, Record, NoField, MoreField, count}
use Rattle.elm_type.specs.Classes.{Ground, is_below, is_any, demand_met, is_int, is_char, is_string, is_list, is_tuple, meets, all_meet}
use Rattle.elm_type.specs.declared.class.Class.{Class}
use Rattle.elm_type.specs.declared.class.Class.TheVariants.{Any, Number, Comparable, Appendable, CompAppend}
use Rattle.elm_type.specs.declared.demands.Demand.TheVariants.{Never, Always, OfParts}

pub no : {X : Type 0} → false ≡ true → X
no e = absurd (let w : false ≡ true = e in cc)

pub below_itself : (c : Class) → is_below c c ≡ true
below_itself Any = refl
below_itself Number = refl
below_itself Comparable = refl
below_itself Appendable = refl
below_itself CompAppend = refl

pub below_any : (c : Class) → is_below c Any ≡ true
below_any Any = refl
below_any Number = refl
below_any Comparable = refl
below_any Appendable = refl
below_any CompAppend = refl

pub meets_any : (g : Ground) → meets Any g ≡ true
meets_any (Made h ts) = refl
meets_any (Record NoField Closed) = refl
meets_any (Record NoField (Over r)) = below_any r.class
meets_any (Record (MoreField k t fs) end) = refl

pub any_meets : (c : Class) (g : Ground) → is_any c ≡ true → meets c g ≡ true
any_meets Any g e = meets_any g
any_meets Number g e = no e
any_meets Comparable g e = no e
any_meets Appendable g e = no e
any_meets CompAppend g e = no e

-- by what holds of the head and of the count of parts: a number (i), a character or a text (c, s), a list (l), a tuple
-- (u); no parts (z), one part (o)
number_comparable : (i c s l u z o : Bool) (p : Class → Bool) → demand_met (if i && z then Always else Never) p ≡ true
    → demand_met (if (i || (c || s)) && z then Always else (if (l && o) || (u && not z) then OfParts Comparable else Never)) p ≡ true
number_comparable true c s l u true o p e = refl
number_comparable true c s l u false o p e = no e
number_comparable false c s l u z o p e = no e

both_comparable : (i c s l u z o : Bool) (p : Class → Bool) → demand_met (if s && z then Always else (if l && o then OfParts Comparable else Never)) p ≡ true
    → demand_met (if (i || (c || s)) && z then Always else (if (l && o) || (u && not z) then OfParts Comparable else Never)) p ≡ true
both_comparable true c s l u true o p e = refl
both_comparable false true s l u true o p e = refl
both_comparable false false true l u true o p e = refl
both_comparable false false false true u true true p e = e
both_comparable false false false true u true false p e = no e
both_comparable false false false false u true o p e = no e
both_comparable true c true true u false true p e = e
both_comparable true c true true u false false p e = no e
both_comparable true c true false u false o p e = no e
both_comparable true c false true u false true p e = e
both_comparable true c false true u false false p e = no e
both_comparable true c false false u false o p e = no e
both_comparable false c true true u false true p e = both_false c p e
  where
    both_false : (c : Bool) (p : Class → Bool) → p Comparable ≡ true → demand_met (if (c || true) && false then Always else OfParts Comparable) p ≡ true
    both_false true p e = e
    both_false false p e = e
both_comparable false c true true u false false p e = no e
both_comparable false c true false u false o p e = no e
both_comparable false c false true u false true p e = both_false c p e
  where
    both_false : (c : Bool) (p : Class → Bool) → p Comparable ≡ true → demand_met (if (c || false) && false then Always else OfParts Comparable) p ≡ true
    both_false true p e = e
    both_false false p e = e
both_comparable false c false true u false false p e = no e
both_comparable false c false false u false o p e = no e

both_appendable : (s l z o : Bool) (p : Class → Bool) → demand_met (if s && z then Always else (if l && o then OfParts Comparable else Never)) p ≡ true
    → demand_met (if (s && z) || (l && o) then Always else Never) p ≡ true
both_appendable true l true o p e = refl
both_appendable true true false true p e = refl
both_appendable true true false false p e = no e
both_appendable true false false o p e = no e
both_appendable false true z true p e = refl
both_appendable false true z false p e = no e
both_appendable false false z o p e = no e

number_below : (c : Class) → is_below c Number ≡ true → is_below c Comparable ≡ true
number_below Any e = e
number_below Number e = refl
number_below Comparable e = refl
number_below Appendable e = e
number_below CompAppend e = refl

both_below : (c : Class) → is_below c CompAppend ≡ true → (is_below c Comparable ≡ true) × (is_below c Appendable ≡ true)
both_below Any e = no e
both_below Number e = no e
both_below Comparable e = no e
both_below Appendable e = no e
both_below CompAppend e = (refl, refl)

number_meets : (g : Ground) → meets Number g ≡ true → meets Comparable g ≡ true
number_meets (Made h ts) e =
    number_comparable (is_int h) (is_char h) (is_string h) (is_list h) (is_tuple h) (nat_eq (count ts) 0) (nat_eq (count ts) 1) (λ d. all_meet d ts) e
number_meets (Record NoField Closed) e = no e
number_meets (Record NoField (Over r)) e = number_below r.class e
number_meets (Record (MoreField k t fs) end) e = no e

both_meet : (g : Ground) → meets CompAppend g ≡ true → (meets Comparable g ≡ true) × (meets Appendable g ≡ true)
both_meet (Made h ts) e = (
  both_comparable (is_int h) (is_char h) (is_string h) (is_list h) (is_tuple h) (nat_eq (count ts) 0) (nat_eq (count ts) 1) (λ d. all_meet d ts) e,
  both_appendable (is_string h) (is_list h) (nat_eq (count ts) 0) (nat_eq (count ts) 1) (λ d. all_meet d ts) e,
)
both_meet (Record NoField Closed) e = no e
both_meet (Record NoField (Over r)) e = both_below r.class e
both_meet (Record (MoreField k t fs) end) e = no e

-- what meets a class meets those above it
pub below_meets : (c d : Class) (g : Ground) → is_below c d ≡ true → meets c g ≡ true → meets d g ≡ true
below_meets c Any g b e = meets_any g
below_meets Number Number g b e = e
below_meets Number Comparable g b e = number_meets g e
below_meets Number Appendable g b e = no b
below_meets Number CompAppend g b e = no b
below_meets Comparable Comparable g b e = e
below_meets Comparable Number g b e = no b
below_meets Comparable Appendable g b e = no b
below_meets Comparable CompAppend g b e = no b
below_meets Appendable Appendable g b e = e
below_meets Appendable Number g b e = no b
below_meets Appendable Comparable g b e = no b
below_meets Appendable CompAppend g b e = no b
below_meets CompAppend Comparable g b e = (both_meet g e).0
below_meets CompAppend Appendable g b e = (both_meet g e).1
below_meets CompAppend CompAppend g b e = e
below_meets CompAppend Number g b e = no b
below_meets Any Number g b e = no b
below_meets Any Comparable g b e = no b
below_meets Any Appendable g b e = no b
below_meets Any CompAppend g b e = no b

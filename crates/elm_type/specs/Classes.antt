-- Classes: what meets them. (Elm guide: types, constrained type variables.)
use Rattle.std.specs.Prelude.{◌≡◌, ℕ, not, Bool, true, false, ◌&&◌, ◌||◌, Option, Some, None, nat_eq, if◌then◌else◌}
use Rattle.std.specs.Prelude.{codes}
use Rattle.std.specs.Str.{bytes_eq}
use Rattle.elm_type.specs.Types.{Name, Closed, Over, ElmType, ElmTypes, Made, Record, NoType, MoreType, NoField}
use Rattle.elm_type.specs.Types.{MoreField, count, Rigid}
use Rattle.elm_type.specs.declared.class.Class.{Class}
use Rattle.elm_type.specs.declared.class.Class.TheVariants.{Any, Number, Comparable, Appendable, CompAppend}
use Rattle.elm_type.specs.declared.head.Head.{Head}
use Rattle.elm_type.specs.declared.head.Head.TheVariants as head
use Rattle.elm_type.specs.declared.demands.Demand.{Demand}
use Rattle.elm_type.specs.declared.demands.Demand.TheVariants.{Never, Always, OfParts}

-- the greatest class below both; None where no type meets both
abbrev pub meet : Class → Class → Option Class
meet Any d = Some d
meet Number Any = Some Number
meet Number Number = Some Number
meet Number Comparable = Some Number
meet Number Appendable = None
meet Number CompAppend = None
meet Comparable Any = Some Comparable
meet Comparable Number = Some Number
meet Comparable Comparable = Some Comparable
meet Comparable Appendable = Some CompAppend
meet Comparable CompAppend = Some CompAppend
meet Appendable Any = Some Appendable
meet Appendable Number = None
meet Appendable Comparable = Some CompAppend
meet Appendable Appendable = Some Appendable
meet Appendable CompAppend = Some CompAppend
meet CompAppend Any = Some CompAppend
meet CompAppend Number = None
meet CompAppend Comparable = Some CompAppend
meet CompAppend Appendable = Some CompAppend
meet CompAppend CompAppend = Some CompAppend

-- what meets the first class meets the second
abbrev pub is_below : Class → Class → Bool
is_below c Any = true
is_below Number Number = true
is_below Number Comparable = true
is_below Comparable Comparable = true
is_below Appendable Appendable = true
is_below CompAppend Comparable = true
is_below CompAppend Appendable = true
is_below CompAppend CompAppend = true
is_below _ _ = false

-- a named type of this module and name
abbrev pub is_named : Name → Name → Head → Bool
is_named m x (head.Named n y) = bytes_eq n m && bytes_eq y x
is_named m x head.Function = false
is_named m x head.Tuple = false

abbrev pub is_int : Head → Bool
is_int h = is_named (codes "Basics") (codes "Int") h

abbrev pub is_char : Head → Bool
is_char h = is_named (codes "Char") (codes "Char") h

abbrev pub is_string : Head → Bool
is_string h = is_named (codes "String") (codes "String") h

abbrev pub is_list : Head → Bool
is_list h = is_named (codes "List") (codes "List") h

abbrev pub is_tuple : Head → Bool
is_tuple (head.Named m x) = false
is_tuple head.Function = false
is_tuple head.Tuple = true

-- what a class asks of a type with this head and so many parts: () is no comparable type
abbrev pub asks : Class → Head → ℕ → Demand
asks Any h n = Always
asks Number h n = if is_int h && nat_eq n 0 then Always else Never
asks Comparable h n =
    if (is_int h || (is_char h || is_string h)) && nat_eq n 0 then Always
    else (if (is_list h && nat_eq n 1) || (is_tuple h && not (nat_eq n 0)) then OfParts Comparable else Never)
asks Appendable h n = if (is_string h && nat_eq n 0) || (is_list h && nat_eq n 1) then Always else Never
asks CompAppend h n = if is_string h && nat_eq n 0 then Always else (if is_list h && nat_eq n 1 then OfParts Comparable else Never)

-- the outermost form of a type that is no variable
pub data TypeHead : Type 0 where
  MadeHead : Head → ℕ → TypeHead
  RecordHead : TypeHead

abbrev pub is_any : Class → Bool
is_any Any = true
is_any Number = false
is_any Comparable = false
is_any Appendable = false
is_any CompAppend = false

abbrev pub is_met : Demand → Bool
is_met Never = false
is_met Always = true
is_met (OfParts c) = true

-- whether some type with that head meets the class
abbrev pub allows : Class → TypeHead → Bool
allows c (MadeHead h n) = is_met (asks c h n)
allows c RecordHead = is_any c

-- ---- ground types: their variables are rigid constants

abbrev pub Ground : Type 0
Ground = ElmType Rigid

abbrev pub demand_met : Demand → (Class → Bool) → Bool
demand_met Never parts = false
demand_met Always parts = true
demand_met (OfParts c) parts = parts c

-- whether a ground type meets a class
abbrev mutual
  pub meets : Class → Ground → Bool
  meets c (Made h ts) = demand_met (asks c h (count ts)) (λ d. all_meet d ts)
  meets c (Record NoField (Over r)) = is_below r.class c
  meets c (Record NoField Closed) = is_any c
  meets c (Record (MoreField k t fs) end) = is_any c

  pub all_meet : Class → ElmTypes Rigid → Bool
  all_meet c NoType = true
  all_meet c (MoreType t ts) = meets c t && all_meet c ts

-- ---- what the tables mean

abbrev pub meets_some : Option Class → Ground → Bool
meets_some None t = false
meets_some (Some c) t = meets c t

-- a type meets two classes exactly when it meets the class that `meet` gives
abbrev pub MeetsBoth : Type 0
MeetsBoth = (c d : Class) (t : Ground) → (meets c t && meets d t) ≡ meets_some (meet c d) t

abbrev pub head_of : Ground → Option TypeHead
head_of (Made h ts) = Some (MadeHead h (count ts))
head_of (Record NoField (Over r)) = None
head_of (Record NoField Closed) = Some RecordHead
head_of (Record (MoreField k t fs) end) = Some RecordHead

-- a type that meets the class has a head that the class allows, and each head that a class allows is that of such a
-- type
pub record AllowsSome : Type 0 where
  pub allowed : (c : Class) (t : Ground) (h : TypeHead) → head_of t ≡ Some h → meets c t ≡ true → allows c h ≡ true
  pub some : (c : Class) (h : TypeHead) → allows c h ≡ true → (t : Ground) × (head_of t ≡ Some h) × (meets c t ≡ true)

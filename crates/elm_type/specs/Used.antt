-- What is kept while names are given: which are used, and how far each class has come.
use Rattle.std.specs.Prelude.{◌≡◌, ℕ, ◌<◌, ◌≤◌, List, [], length, true, codes}
use Rattle.std.specs.Str.{bytes_eq}
use Rattle.std.specs.HashSet as bag
use Rattle.std.specs.HashSet.{HashSet}
use Rattle.elm_type.specs.Types.{Name}
use Rattle.elm_type.specs.declared.class.Class.{Class}
use Rattle.elm_type.specs.declared.class.Class.TheVariants.{Any, Number, Comparable, Appendable, CompAppend}
use Rattle.elm_type.specs.Naming.{candidate, is_used}
use Rattle.elm_type.specs.declared.naming.Counters.{Counters}

-- what a name of a class begins with
abbrev pub stem : Class → Name
stem Any = []
stem Number = codes "number"
stem Comparable = codes "comparable"
stem Appendable = codes "appendable"
stem CompAppend = codes "compappend"

abbrev pub counter : Class → Counters → ℕ
counter Any k = k.any
counter Number k = k.number
counter Comparable k = k.comparable
counter Appendable k = k.appendable
counter CompAppend k = k.compappend

abbrev pub with_counter : Class → ℕ → Counters → Counters
with_counter Any n k = record k { any = n }
with_counter Number n k = record k { number = n }
with_counter Comparable n k = record k { comparable = n }
with_counter Appendable n k = record k { appendable = n }
with_counter CompAppend n k = record k { compappend = n }

-- the names of a class before the n-th are used
pub record Reached (used : List Name) (c : Class) (n : ℕ) : Type 0 where
  pub below : n ≤ length used
  pub passed : (m : ℕ) → m < n → is_used used (candidate c m) ≡ true

abbrev pub SameNames : {S : Type 0} → HashSet Name S → List Name → Type 0
SameNames names used = (x : Name) → bag.contains bytes_eq names x ≡ is_used used x

pub record Kept {S : Type 0} (names : HashSet Name S) (next : Counters) (used : List Name) : Type 0 where
  pub has : SameNames names used
  pub reached : (c : Class) → Reached used c (counter c next)

-- Order: < and the others, and `compare`. (elm/core 1.0.5: Basics.) Numbers are compared as numbers, texts and
-- characters by their units, tuples and lists by their parts from left to right, [] before ::. Values of other types,
-- and of different ones, have no rule.
use Rattle.std.specs.Prelude.{ℤ, pos, negsuc}
use Rattle.std.specs.declared.cmp.Ordering.{Ordering}
use Rattle.std.specs.declared.cmp.Ordering.TheVariants.{Less, Equal, Greater}
use Rattle.std.specs.Ordering.{nat_cmp, int_cmp}
use Rattle.std.specs.Cmp.Lexicographic.{slice_cmp}
use Rattle.runs.specs.Ends.{End, Val, Stuck, then_do}
use Rattle.elm_canon.specs.declared.unions.Tag.TheVariants.{Number}
use Rattle.elm_meaning.specs.Values.{Value}
use Rattle.elm_meaning.specs.Seen.{Seen, IntS, TextS, TagS, Seens, NoSeen, MoreSeen, see}
use Rattle.elm_meaning.specs.Equal.{by_tags}

-- where the first parts are equal, the rest decides
abbrev pub or_then : Ordering → End Ordering → End Ordering
or_then Equal rest = rest
or_then order rest = Val order

-- the fields of one constructor are compared in turn; of two, the one that is declared first comes first
abbrev mutual
  pub compare : Seen → Seen → End Ordering
  compare (IntS m) (IntS n) = Val (int_cmp m n)
  compare (TextS s) (TextS t) = Val (slice_cmp nat_cmp s t)
  compare (TagS (Number j) xs) (TagS (Number k) ys) =
      by_tags (Number j) (Number k) xs ys (compare_all xs ys) (Val (int_cmp j k))
  compare _ _ = Stuck

  pub compare_all : Seens → Seens → End Ordering
  compare_all NoSeen NoSeen = Val Equal
  compare_all (MoreSeen x xs) (MoreSeen y ys) = then_do (compare x y) (λ order. or_then order (compare_all xs ys))
  compare_all _ _ = Stuck

abbrev pub compares : Value → Value → End Ordering
compares v w = compare (see v) (see w)

-- -1, 0 or 1
abbrev pub order_number : Ordering → ℤ
order_number Less = negsuc 0
order_number Equal = pos 0
order_number Greater = pos 1

-- The plan that a table's rows hold.
use Rattle.std.specs.Prelude.{ℕ, zero, suc, ◌-◌, ◌/◌, ◌%◌, nat_eq, Bool, true, false, cond, ◌==◌, nat_lt, List, [], ◌∷◌}
use Rattle.std.specs.Prelude.{get_or, slice_get, map, Option, Some, None}
use Rattle.parse_machine.specs.declared.table.Token.{Token}
use Rattle.parse_machine.specs.declared.table.Rule.{Rule}
use Rattle.parse_machine.specs.declared.table.Row.{Row}
use Rattle.parse_machine.specs.Grammar.{Production, ◌⟶◌, Place, inside, leading}
use Rattle.parse_machine.specs.Plan.{Look, beyond, level, outside, look, or_else, Plan, Choice, choice, chosen}
use Rattle.parse_machine.specs.declared.choice.Choice as declared

abbrev pub production_of : Rule → Production
production_of r = r.left ⟶ r.right.now

abbrev pub grammar_of : List Rule → List Production
grammar_of rs = map production_of rs

abbrev pub number : ℕ → Option ℕ
number n = cond (n == 0) None (Some (n - 1))

-- the lowest bits of a number, the first the lowest
abbrev pub bits : ℕ → ℕ → List Bool
bits zero m = []
bits (suc n) m = nat_eq (m % 2) 1 ∷ bits n (m / 2)

abbrev pub cell : List ℕ → ℕ → Option ℕ
cell xs k = number (get_or xs k 0)

abbrev pub takes_row : Option Row → Look → Option ℕ
takes_row (Some r) (beyond k) = cell r.beyond k
takes_row (Some r) (level k) = cell r.level k
takes_row (Some r) outside = None
takes_row None l = None

abbrev pub empty_row : Option Row → Option ℕ
empty_row (Some r) = number r.empty
empty_row None = None

abbrev pub follows_row : Option Row → Look → Bool
follows_row (Some r) (beyond k) = get_or (bits 64 r.follows) k false
follows_row (Some r) (level k) = get_or (bits 64 r.follows_level) k false
follows_row (Some r) outside = true
follows_row None l = false

abbrev pub plain_row : Option Row → Bool
plain_row (Some r) = r.plain
plain_row None = false

abbrev pub rank_row : Option Row → ℕ
rank_row (Some r) = r.rank
rank_row None = 0

abbrev pub short_row : Option Row → ℕ
short_row (Some r) = r.short
short_row None = 0

abbrev pub height_row : Option Row → ℕ
height_row (Some r) = r.height
height_row None = 0

abbrev pub plan_of : List Row → Plan
plan_of rows = record {
  takes = λ n l. takes_row (slice_get rows n) l;
  empty = λ n. empty_row (slice_get rows n);
  follows = λ n l. follows_row (slice_get rows n) l;
  plain = λ n. plain_row (slice_get rows n);
  rank = λ n. rank_row (slice_get rows n);
  short = λ n. short_row (slice_get rows n);
  height = λ n. height_row (slice_get rows n);
}

abbrev pub place : Bool → Place
place true = leading
place false = inside

abbrev pub choice_of : declared.Choice → Choice
choice_of c = choice c.rule (place c.leading) c.column

-- the production of a part, and of a line
abbrev pub part_row : Option Row → Place → ℕ → List Token → Option ℕ
part_row r m c [] = empty_row r
part_row r m c (t ∷ ts) = or_else (takes_row r (look m c t)) (empty_row r)

abbrev pub line_row : Option Row → Place → ℕ → List Token → Option ℕ
line_row r m c [] = None
line_row r inside c (t ∷ ts) = cond (t.column == c) (takes_row r (beyond t.class)) None
line_row r leading c (t ∷ ts) = None

abbrev pub own_row : Option Row → Token → Option Choice
own_row r t = chosen inside t.column (takes_row r (level t.class))

abbrev pub block_row : Option Row → Place → ℕ → List Token → Option Choice
block_row r m c [] = None
block_row r inside c (t ∷ ts) = cond (nat_lt c t.column) (own_row r t) None
block_row r leading c (t ∷ ts) = None

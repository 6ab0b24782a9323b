-- Whether a table is a plan for a grammar: a test that computes.
use Rattle.std.specs.Prelude.{ℕ, zero, suc, ◌-◌, Bool, true, false, not, ◌&&◌, ◌||◌, nat_lt, nat_eq, List, [], ◌∷◌}
use Rattle.std.specs.Prelude.{length, slice_get, Option, Some, None}
use Rattle.parse_machine.specs.declared.table.Symbol.{Symbol}
use Rattle.parse_machine.specs.declared.table.Symbol.TheVariants.{Word, Part, Line, Block}
use Rattle.parse_machine.specs.declared.table.Row.{Row}
use Rattle.parse_machine.specs.Grammar.{Production, ◌⟶◌, production}
use Rattle.parse_machine.specs.Rows.{bits}

-- ---- sets of looks

-- a flag for each class, right of the column and in it; a class after the end is out
pub record Looks : Type 0 where
  pub right : List Bool
  pub equal : List Bool

abbrev pub implied : List Bool → List Bool → Bool
implied [] ys = true
implied (x ∷ xs) [] = not x && implied xs []
implied (x ∷ xs) (y ∷ ys) = (not x || y) && implied xs ys

abbrev pub disjoint : List Bool → List Bool → Bool
disjoint [] ys = true
disjoint (x ∷ xs) [] = true
disjoint (x ∷ xs) (y ∷ ys) = not (x && y) && disjoint xs ys

-- the cells that name a production, and those that name this one
abbrev pub marks : List ℕ → List Bool
marks [] = []
marks (x ∷ xs) = not (nat_eq x 0) ∷ marks xs

abbrev pub equals : ℕ → List ℕ → List Bool
equals q [] = []
equals q (x ∷ xs) = nat_eq x q ∷ equals q xs

abbrev pub has_one : List Bool → Bool
has_one [] = false
has_one (x ∷ xs) = x || has_one xs

abbrev pub subset : Looks → Looks → Bool
subset A B = implied A.right B.right && implied A.equal B.equal

-- ---- what the rows say

abbrev pub cells : Option Row → List ℕ
cells (Some r) = r.beyond
cells None = []

abbrev pub level_cells : Option Row → List ℕ
level_cells (Some r) = r.level
level_cells None = []

abbrev pub empty_cell : Option Row → ℕ
empty_cell (Some r) = r.empty
empty_cell None = 0

abbrev pub followers : Option Row → Looks
followers (Some r) = record { right = bits 64 r.follows; equal = bits 64 r.follows_level }
followers None = record { right = []; equal = [] }

abbrev pub is_plain : Option Row → Bool
is_plain (Some r) = r.plain
is_plain None = false

abbrev pub rank_cell : Option Row → ℕ
rank_cell (Some r) = r.rank
rank_cell None = 0

abbrev pub height_cell : Option Row → ℕ
height_cell (Some r) = r.height
height_cell None = 0

abbrev pub no_cell : Option Row → Bool
no_cell o = nat_eq (empty_cell o) 0

-- the looks that may begin a symbol
abbrev pub openers : List Row → Symbol → Looks
openers rows (Word set) = record { right = bits 64 set; equal = [] }
openers rows (Part n) = record {
  right = marks (cells (slice_get rows n));
  equal =
      marks (level_cells (slice_get rows n));
}
openers rows (Line n) = record { right = []; equal = marks (cells (slice_get rows n)) }
openers rows (Block n) = record { right = marks (level_cells (slice_get rows n)); equal = [] }

-- those at which n takes the production that q names
abbrev pub takers : List Row → ℕ → ℕ → Looks
takers rows q n = record {
  right = equals q (cells (slice_get rows n));
  equal =
      equals q (level_cells (slice_get rows n));
}

-- these looks may come after the symbol
abbrev pub allows : List Row → Symbol → Looks → Bool
allows rows (Word k) A = true
allows rows (Part n) A = subset A (followers (slice_get rows n))
allows rows (Line n) A = subset A (followers (slice_get rows n))
allows rows (Block n) A =
    implied A.right (followers (slice_get rows n)).right && implied A.right (followers (slice_get rows n)).equal

abbrev pub vanishing : List Row → Symbol → Bool
vanishing rows (Part n) = not (no_cell (slice_get rows n))
vanishing rows s = false

-- what the last symbols of a production of n begin with may come after s
abbrev pub ahead : List Row → Symbol → ℕ → List Symbol → Bool
ahead rows s n [] = allows rows s (followers (slice_get rows n))
ahead rows s n (t ∷ ts) = allows rows s (openers rows t) && (not (vanishing rows t) || ahead rows s n ts)

abbrev pub full : List Row → Symbol → Bool
full rows (Word k) = true
full rows (Part n) = no_cell (slice_get rows n)
full rows (Line n) = no_cell (slice_get rows n)
full rows (Block n) = no_cell (slice_get rows n)

abbrev pub fits : List Row → Symbol → Bool
fits rows (Word set) = has_one (bits 64 set)
fits rows (Part n) = nat_lt n (length rows)
fits rows (Line n) = nat_lt n (length rows) && is_plain (slice_get rows n) && no_cell (slice_get rows n)
fits rows (Block n) =
    nat_lt n (length rows) && no_cell (slice_get rows n) && implied (marks (cells (slice_get rows n))) []

abbrev pub starts : List Row → List Symbol → Bool
starts rows (Word k ∷ ss) = true
starts rows (Part n ∷ ss) = is_plain (slice_get rows n)
starts rows _ = false

abbrev pub orderly : List Row → ℕ → List Symbol → Bool
orderly rows n [] = true
orderly rows n (s ∷ ss) = fits rows s && ahead rows s n ss && orderly rows n ss

abbrev pub ranked : List Row → ℕ → Symbol → Bool
ranked rows h (Word k) = true
ranked rows h (Part n) = nat_lt (rank_cell (slice_get rows n)) h
ranked rows h (Line n) = nat_lt (rank_cell (slice_get rows n)) h
ranked rows h (Block n) = nat_lt (rank_cell (slice_get rows n)) h

abbrev pub lower : List Row → ℕ → Symbol → Bool
lower rows h (Word k) = true
lower rows h (Part n) = nat_lt (height_cell (slice_get rows n)) h
lower rows h (Line n) = nat_lt (height_cell (slice_get rows n)) h
lower rows h (Block n) = nat_lt (height_cell (slice_get rows n)) h

abbrev pub all_lower : List Row → ℕ → List Symbol → Bool
all_lower rows h [] = true
all_lower rows h (s ∷ ss) = lower rows h s && all_lower rows h ss

-- ---- each production, and each row

abbrev pub heads : List Row → ℕ → ℕ → List Symbol → Bool
heads rows p n [] = nat_eq (empty_cell (slice_get rows n)) (suc p)
heads rows p n (s ∷ ss) =
    subset (openers rows s) (takers rows (suc p) n) && subset (takers rows (suc p) n) (openers rows s) && full rows s
    && ranked rows (rank_cell (slice_get rows n)) s

abbrev pub rule_planned : List Row → ℕ → Production → Bool
rule_planned rows p (n ⟶ r) =
    heads rows p n r && (not (is_plain (slice_get rows n)) || starts rows r) && orderly rows n r

abbrev pub rules_planned : List Row → ℕ → List Production → Bool
rules_planned rows p [] = true
rules_planned rows p (x ∷ xs) = rule_planned rows p x && rules_planned rows (suc p) xs

abbrev pub is_some_of : ℕ → Option Production → Bool
is_some_of n (Some (m ⟶ (s ∷ ss))) = nat_eq m n
is_some_of n _ = false

abbrev pub is_none_of : ℕ → Option Production → Bool
is_none_of n (Some (m ⟶ [])) = nat_eq m n
is_none_of n _ = false

abbrev pub is_short_of : List Row → ℕ → ℕ → Option Production → Bool
is_short_of rows h n (Some (m ⟶ r)) = nat_eq m n && all_lower rows h r
is_short_of rows h n None = false

abbrev pub all_named : List Production → ℕ → List ℕ → Bool
all_named g n [] = true
all_named g n (x ∷ xs) = (nat_eq x 0 || is_some_of n (production g (x - 1))) && all_named g n xs

abbrev pub empty_planned : List Production → Row → ℕ → Bool
empty_planned g r n =
    nat_eq r.empty 0 ||
    (is_none_of n (production g (r.empty - 1)) && disjoint (bits 64 r.follows) (marks r.beyond)
    && disjoint (bits 64 r.follows_level) (marks r.level))

abbrev pub row_planned : List Production → List Row → ℕ → Row → Bool
row_planned g rows n r =
    all_named g n r.beyond && all_named g n r.level && empty_planned g r n
    && is_short_of rows r.height n (production g r.short)

abbrev pub rows_planned : List Production → List Row → ℕ → List Row → Bool
rows_planned g rows n [] = true
rows_planned g rows n (r ∷ rs) = row_planned g rows n r && rows_planned g rows (suc n) rs

-- the table of rows decides by one token among the productions
abbrev pub planned : List Production → List Row → Bool
planned g rows = rules_planned rows 0 g && rows_planned g rows 0 rows

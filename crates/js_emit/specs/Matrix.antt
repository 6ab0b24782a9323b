-- Rows of patterns over columns: what they ask of the parts of a value, and what is left of them once one part has been
-- looked at. The tree of tests that chooses a branch is defined by these.
use Rattle.std.specs.Prelude.{ℕ, zero, suc, ◌+◌, List, [], ◌∷◌, ◌++◌, replicate, Bool, true, false, if◌then◌else◌, ◌&&◌}
use Rattle.std.specs.Prelude.{◌==◌, Option, Some, None}
use Rattle.std.specs.Str.{bytes_eq}
use Rattle.runs.specs.Numbers.{is_number}
use Rattle.elm_canon.specs.declared.unions.Alternative.{Alternative}
use Rattle.elm_canon.specs.Unions.{Union, alternatives}
use Rattle.elm_canon.specs.declared.tree.Literal.{Literal}
use Rattle.elm_canon.specs.declared.tree.Literal.TheVariants as literal
use Rattle.elm_canon.specs.Tree.{Pattern, Anything, Named, As, Exactly, Construct, FieldsOf, LocatedPattern, Patterns}
use Rattle.elm_canon.specs.Tree.{NoPattern, MorePattern, Branches, NoBranch, MoreBranch}
use Rattle.elm_meaning.specs.Seen.{same_tag}

-- ---- what a pattern asks for

pub data Test : Type 0 where
  Literally : Literal → Test
  Tagged : Union → Alternative → Test

-- nothing, or a test and then its parts
pub data Ask : Type 0 where
  Nothing : Ask
  First : Test → List Pattern → Ask

abbrev pub list_of : Patterns → List Pattern
list_of NoPattern = []
list_of (MorePattern p ps) = p ∷ list_of ps

abbrev pub ask : Pattern → Ask
ask Anything = Nothing
ask (Named x) = Nothing
ask (As p x) = ask p
ask (Exactly l) = First (Literally l) []
ask (Construct u a ps) = First (Tagged u a) (list_of ps)
ask (FieldsOf xs) = Nothing
ask (LocatedPattern place p) = ask p

-- ---- tests

-- the units of a text or a character
abbrev pub units_of : Literal → List ℕ
units_of (literal.Int n) = []
units_of (literal.Char s) = s
units_of (literal.Text s) = s

abbrev pub same_literal : Literal → Literal → Bool
same_literal (literal.Int m) (literal.Int n) = is_number m n
same_literal (literal.Int m) l = false
same_literal l (literal.Int n) = false
same_literal l m = bytes_eq (units_of l) (units_of m)

abbrev pub same_test : Test → Test → Bool
same_test (Literally l) (Literally m) = same_literal l m
same_test (Tagged u a) (Tagged v b) = same_tag a.tag b.tag && (a.arity == b.arity)
same_test _ _ = false

abbrev pub has_test : Test → List Test → Bool
has_test t [] = false
has_test t (u ∷ us) = if same_test t u then true else has_test t us

abbrev pub tests_of_union : Union → List Alternative → List Test
tests_of_union u [] = []
tests_of_union u (a ∷ others) = Tagged u a ∷ tests_of_union u others

-- the second may stand in one column with the first: both literals, or constructors of one union
abbrev pub is_alike : Test → Test → Bool
is_alike (Literally l) (Literally m) = true
is_alike (Tagged u a) t = has_test t (tests_of_union u (alternatives u))
is_alike _ _ = false

abbrev pub have_all : List Test → List Test → Bool
have_all ts [] = true
have_all ts (u ∷ us) = has_test u ts && have_all ts us

-- no other value is possible
abbrev pub is_whole : Test → List Test → Bool
is_whole (Literally l) ts = false
is_whole (Tagged u a) ts = have_all ts (tests_of_union u (alternatives u))

abbrev pub arity_of : Test → ℕ
arity_of (Literally l) = 0
arity_of (Tagged u a) = a.arity

-- ---- rows

-- the patterns of its columns, and its branch
pub record Row : Type 0 where
  pub patterns : List Pattern
  pub branch : ℕ

-- a row for each branch, from that number on
abbrev pub rows_from : ℕ → Branches → List Row
rows_from i NoBranch = []
rows_from i (MoreBranch p e bs) = record { patterns = p ∷ []; branch = i } ∷ rows_from (suc i) bs

-- what the pattern leaves to look at where the test holds; none, where it cannot match
abbrev pub left_by : Test → Ask → Option (List Pattern)
left_by t Nothing = Some (replicate (arity_of t) Anything)
left_by t (First u ps) = if same_test t u then Some ps else None

-- what it leaves where no test of the column holds
abbrev pub left_over : Ask → Option (List Pattern)
left_over Nothing = Some []
left_over (First u ps) = None

abbrev pub in_place : Option (List Pattern) → List Pattern → Option (List Pattern)
in_place None ps = None
in_place (Some qs) ps = Some (qs ++ ps)

abbrev pub after_one : Pattern → Option (List Pattern) → Option (List Pattern)
after_one p None = None
after_one p (Some ps) = Some (p ∷ ps)

-- the patterns with what is left of the column's in its place
abbrev pub narrowed : (Ask → Option (List Pattern)) → ℕ → List Pattern → Option (List Pattern)
narrowed left column [] = Some []
narrowed left zero (p ∷ ps) = in_place (left (ask p)) ps
narrowed left (suc column) (p ∷ ps) = after_one p (narrowed left column ps)

abbrev pub keep : Option (List Pattern) → ℕ → List Row → List Row
keep None branch rows = rows
keep (Some ps) branch rows = record { patterns = ps; branch = branch } ∷ rows

abbrev pub narrow : (Ask → Option (List Pattern)) → ℕ → List Row → List Row
narrow left column [] = []
narrow left column (row ∷ rows) = keep (narrowed left column row.patterns) row.branch (narrow left column rows)

-- the tests of a column that are alike the first, in order of occurrence, each once
abbrev pub add_test : Test → Ask → List Test → List Test
add_test first Nothing ts = ts
add_test first (First t ps) ts = if is_alike first t then (if has_test t ts then ts else ts ++ t ∷ []) else ts

abbrev pub ask_at : ℕ → List Pattern → Ask
ask_at column [] = Nothing
ask_at zero (p ∷ ps) = ask p
ask_at (suc column) (p ∷ ps) = ask_at column ps

abbrev pub tests_in : Test → ℕ → List Test → List Row → List Test
tests_in first column ts [] = ts
tests_in first column ts (row ∷ rows) =
    tests_in first column (add_test first (ask_at column row.patterns) ts) rows

-- ---- how many tests the patterns ask for; no path through the tree is longer

abbrev mutual
  pub size : Pattern → ℕ
  size (As p x) = size p
  size (Exactly l) = 1
  size (Construct u a ps) = suc (sizes ps)
  size (LocatedPattern place p) = size p
  size _ = 0

  pub sizes : Patterns → ℕ
  sizes NoPattern = 0
  sizes (MorePattern p ps) = size p + sizes ps

abbrev pub list_size : List Pattern → ℕ
list_size [] = 0
list_size (p ∷ ps) = size p + list_size ps

abbrev pub rows_size : List Row → ℕ
rows_size [] = 0
rows_size (row ∷ rows) = list_size row.patterns + rows_size rows

-- Candidates that no row begins with leave something out, or not, all alike: the first of them speaks for the others.
use Rattle.std.proofs.Common.{◌≡◌, ℕ, zero, suc, ◌+◌, ◌≤◌, List, [], ◌∷◌, Bool, true, false, ◌||◌, Option, Some, None}
use Rattle.std.proofs.Common.{map, if◌then◌else◌, refl, sym, ap, ◌∙◌, arith}
use Rattle.std.specs.Prelude.{option_map, is_some}
use Rattle.pattern_check.specs.Shapes.{Head, arity_of, same_head}
use Rattle.pattern_check.specs.Missing.{candidates, has_head}
use Rattle.pattern_check.specs.Flat.{Part, append_open, put_list, lists_where, list_heads, tail_of, or_list}
use Rattle.pattern_check.specs.Flat.{first_list, first_head, first_part, found_at, found_in, is_open_list, some_open_list}
use Rattle.pattern_check.specs.Search.{try_with, work_of_list, work_with, work_at, work_in, tried}
use Rattle.pattern_check.proofs.Searching.{found_passed, open_found, open_work}

-- the rows that are open in the column, without it
abbrev open_rows : List (List Part) → List (List Part)
open_rows [] = []
open_rows ([] ∷ rows) = open_rows rows
open_rows ((None ∷ ps) ∷ rows) = ps ∷ open_rows rows
open_rows ((Some h ∷ ps) ∷ rows) = open_rows rows

neither : (a b : Bool) → (a || b) ≡ false → (a ≡ false) × (b ≡ false)
neither true b e = absurd cc
neither false b e = (refl, e)

absent_where : (c : Head) (rows : List (List Part)) → has_head c (list_heads rows) ≡ false →
    lists_where c rows ≡ map (append_open (arity_of c)) (open_rows rows)
absent_where c [] e = refl
absent_where c ([] ∷ rows) e = absent_where c rows e
absent_where c ((None ∷ ps) ∷ rows) e = ap (λ z. append_open (arity_of c) ps ∷ z) (absent_where c rows e)
absent_where c ((Some h ∷ ps) ∷ rows) e =
    let k = neither (same_head h c) (has_head c (list_heads rows)) e in
    ap (λ b. put_list (if b then Some ps else None) (lists_where c rows)) k.0 ∙ absent_where c rows k.1

-- ---- rows after open columns

open_append : (n : ℕ) (ps : List Part) → is_open_list (append_open n ps) ≡ is_open_list ps
open_append zero ps = refl
open_append (suc n) ps = open_append n ps

some_append : (n : ℕ) (rows : List (List Part)) → some_open_list (map (append_open n) rows) ≡ some_open_list rows
some_append n [] = refl
some_append n (ps ∷ rows) =
    ap (λ b. b || some_open_list (map (append_open n) rows)) (open_append n ps) ∙ ap (λ b. is_open_list ps || b) (some_append n rows)

no_heads : (n : ℕ) (rows : List (List Part)) → list_heads (map (append_open (suc n)) rows) ≡ []
no_heads n [] = refl
no_heads n (ps ∷ rows) = no_heads n rows

tails : (n : ℕ) (rows : List (List Part)) → map tail_of (map (append_open (suc n)) rows) ≡ map (append_open n) rows
tails n [] = refl
tails n (ps ∷ rows) = ap (λ z. append_open n ps ∷ z) (tails n rows)

none_open : (rows : List (List Part)) → map (append_open zero) rows ≡ rows
none_open [] = refl
none_open (ps ∷ rows) = ap (λ z. ps ∷ z) (none_open rows)

some_map : (f : List Part → List Part) (o : Option (List Part)) → is_some (option_map f o) ≡ is_some o
some_map f None = refl
some_map f (Some ps) = refl

at_same : (b n : ℕ) (q : List Part) (rows : List (List Part)) →
    is_some (found_at (found_in b) (append_open n q) (map (append_open n) rows)) ≡ is_some (found_at (found_in b) q rows)
at_same b zero q rows = ap (λ z. is_some (found_at (found_in b) q z)) (none_open rows)
at_same b (suc n) q rows =
    let all = map (append_open (suc n)) rows in
    ap is_some (found_passed b (append_open n q) all (no_heads n rows))
    ∙ some_map (λ ps. None ∷ ps) (found_at (found_in b) (append_open n q) (map tail_of all))
    ∙ ap (λ z. is_some (found_at (found_in b) (append_open n q) z)) (tails n rows)
    ∙ at_same b n q rows

in_same : (b n : ℕ) (q : List Part) (rows : List (List Part)) →
    is_some (found_in b (append_open n q) (map (append_open n) rows)) ≡ is_some (found_in b q rows)
in_same zero n q rows = refl
in_same (suc b) n q rows =
    ap (λ z. is_some (if z then None else found_at (found_in b) (append_open n q) (map (append_open n) rows))) (some_append n rows)
    ∙ by (some_open_list rows)
  where
    by : (z : Bool) → is_some (if z then None else found_at (found_in b) (append_open n q) (map (append_open n) rows))
        ≡ is_some (if z then None else found_at (found_in b) q rows)
    by true = refl
    by false = at_same b n q rows

-- what a candidate finds that no row begins with does not depend on it
absent_finds : (b : ℕ) (q : List Part) (rows : List (List Part)) (c : Head) → has_head c (list_heads rows) ≡ false →
    is_some (try_with b false q rows c) ≡ is_some (found_in b q (open_rows rows))
absent_finds b q rows c e =
    some_map (λ ps. Some c ∷ ps) (found_in b (append_open (arity_of c) q) (lists_where c rows))
    ∙ ap (λ z. is_some (found_in b (append_open (arity_of c) q) z)) (absent_where c rows e)
    ∙ in_same b (arity_of c) q (open_rows rows)

none_is : (o : Option (List Part)) → is_some o ≡ false → o ≡ None
none_is None e = refl
none_is (Some ps) e = absurd cc

-- where one such candidate found nothing
skipped : (b : ℕ) (q : List Part) (rows : List (List Part)) → is_some (found_in b q (open_rows rows)) ≡ false →
    (cs : List Head) → first_list (try_with b false q rows) (tried true (list_heads rows) cs) ≡ first_list (try_with b false q rows) cs
skipped b q rows e [] = refl
skipped b q rows e (c ∷ cs) = by (has_head c (list_heads rows)) refl (skipped b q rows e cs)
  where
    by : (z : Bool) → has_head c (list_heads rows) ≡ z →
        first_list (try_with b false q rows) (tried true (list_heads rows) cs) ≡ first_list (try_with b false q rows) cs →
        first_list (try_with b false q rows) (if z then c ∷ tried true (list_heads rows) cs else tried true (list_heads rows) cs)
        ≡ or_list (try_with b false q rows c) (first_list (try_with b false q rows) cs)
    by true k others = ap (or_list (try_with b false q rows c)) others
    by false k others =
        others
        ∙ ap (λ o. or_list o (first_list (try_with b false q rows) cs)) (sym (none_is (try_with b false q rows c) (absent_finds b q rows c k ∙ e)))

-- the candidates that are tried find what all of them find
pub tried_finds : (b : ℕ) (q : List Part) (rows : List (List Part)) (cs : List Head) →
    first_list (try_with b false q rows) (tried false (list_heads rows) cs) ≡ first_list (try_with b false q rows) cs
tried_finds b q rows [] = refl
tried_finds b q rows (c ∷ cs) = by (has_head c (list_heads rows)) refl (tried_finds b q rows cs)
  where
    on : (o : Option (List Part)) → (is_some o ≡ is_some (found_in b q (open_rows rows))) →
        or_list o (first_list (try_with b false q rows) (tried true (list_heads rows) cs)) ≡ or_list o (first_list (try_with b false q rows) cs)
    on None e = skipped b q rows (sym e) cs
    on (Some ps) e = refl

    by : (z : Bool) → has_head c (list_heads rows) ≡ z →
        first_list (try_with b false q rows) (tried false (list_heads rows) cs) ≡ first_list (try_with b false q rows) cs →
        first_list (try_with b false q rows) (if z then c ∷ tried false (list_heads rows) cs else c ∷ tried true (list_heads rows) cs)
        ≡ or_list (try_with b false q rows c) (first_list (try_with b false q rows) cs)
    by true k others = ap (or_list (try_with b false q rows c)) others
    by false k others = on (try_with b false q rows c) (absent_finds b q rows c k)

-- they are no more work
pub tried_work : (work : Head → ℕ) (seen : Bool) (hs cs : List Head) → work_of_list work (tried seen hs cs) ≤ work_of_list work cs
tried_work work seen hs [] = omega arith
tried_work work seen hs (c ∷ cs) = by (has_head c hs) seen (λ seen. tried_work work seen hs cs)
  where
    by : (z seen : Bool) → ((seen : Bool) → work_of_list work (tried seen hs cs) ≤ work_of_list work cs) →
        work_of_list work (if z then c ∷ tried seen hs cs else (if seen then tried true hs cs else c ∷ tried true hs cs))
        ≤ suc (work c) + work_of_list work cs
    by true seen others = omega (arith, others seen)
    by false true others = omega (arith, others true)
    by false false others = omega (arith, others true)

-- ---- a column in which candidates are tried

pub tried_found : (b n : ℕ) (q q2 : List Part) (rows : List (List Part)) (c : Head) (all cs : List Head) →
    first_part q ≡ Some None → q2 ≡ tail_of q → first_head (list_heads rows) ≡ Some c →
    ((hs : List Head) → list_heads rows ≡ c ∷ hs → all ≡ candidates c hs) → cs ≡ tried false (list_heads rows) all →
    option_map (append_open n) (or_list None (first_list (try_with b false q2 rows) cs))
    ≡ option_map (append_open n) (found_at (found_in b) q rows)
tried_found b n q q2 rows c all cs e f h g k =
    ap (λ z. option_map (append_open n) (first_list (try_with b false q2 rows) z)) k
    ∙ ap (option_map (append_open n)) (tried_finds b q2 rows all)
    ∙ open_found b n q q2 rows c all e f h g

pub tried_light : (b : ℕ) (q q2 : List Part) (rows : List (List Part)) (c : Head) (all cs : List Head) →
    first_part q ≡ Some None → q2 ≡ tail_of q → first_head (list_heads rows) ≡ Some c →
    ((hs : List Head) → list_heads rows ≡ c ∷ hs → all ≡ candidates c hs) → cs ≡ tried false (list_heads rows) all →
    work_of_list (work_with (work_in b) false q2 rows) cs ≤ work_at (work_in b) q rows
tried_light b q q2 rows c all cs e f h g k =
    let a = tried_work (work_with (work_in b) false q2 rows) false (list_heads rows) all in
    omega (arith, a, ap (work_of_list (work_with (work_in b) false q2 rows)) k, open_work b q q2 rows c all e f h g)

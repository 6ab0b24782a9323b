-- A table that passes the test is a plan.
use Rattle.std.proofs.Common.{◌≡◌, ℕ, zero, suc, ◌+◌, ◌-◌, ◌/◌, ◌%◌, ◌^◌, ◌<◌, Bool, true, false, cond, not, ◌&&◌, ◌||◌}
use Rattle.std.proofs.Common.{nat_lt, nat_eq, List, [], ◌∷◌, Option, Some, None, ◌⊎◌, inl, inr, refl, sym, ◌∙◌, ap}
use Rattle.std.proofs.Common.{subst, arith, length, get_or, slice_get, div-one}
use Rattle.std.proofs.lemmas.Nat.{shr-shr}
use Rattle.parse_machine.specs.declared.table.Symbol.{Symbol}
use Rattle.parse_machine.specs.declared.table.Symbol.TheVariants.{Word, Part, Line, Block}
use Rattle.parse_machine.specs.declared.table.Row.{Row}
use Rattle.parse_machine.specs.Grammar.{Production, ◌⟶◌, production, Is, leading}
use Rattle.parse_machine.specs.Plan.{Look, beyond, level, outside, Opens, Full, Vanishes, Follows, After, Precedes}
use Rattle.parse_machine.specs.Plan.{Fits, Starts, Orderly, Ends, IsPlanned, Lower, AllLower, Ranked}
use Rattle.parse_machine.specs.Rows.{plan_of, number, cell, takes_row, empty_row, follows_row, bits, plain_row}
use Rattle.parse_machine.specs.Rows.{rank_row, short_row, height_row}
use Rattle.parse_machine.specs.Planned.{Looks, implied, disjoint, marks, equals, has_one, subset, cells, level_cells}
use Rattle.parse_machine.specs.Planned.{empty_cell, followers, is_plain, rank_cell, height_cell, no_cell, openers}
use Rattle.parse_machine.specs.Planned.{takers, allows, vanishing, ahead, full, fits, starts, orderly, ranked, lower}
use Rattle.parse_machine.specs.Planned.{all_lower, heads, rule_planned, rules_planned, is_some_of, is_none_of}
use Rattle.parse_machine.specs.Planned.{is_short_of, all_named, empty_planned, row_planned, rows_planned, planned}
use Rattle.parse_machine.proofs.Opening.{lt_true, true_lt, eq_true, true_eq, not_eq}

and_true : (a b : Bool) → (a && b) ≡ true → (a ≡ true) × (b ≡ true)
and_true true b e = (refl, e)
and_true false b e = absurd cc

or_true : (a b : Bool) → (a || b) ≡ true → (a ≡ true) ⊎ (b ≡ true)
or_true true b e = inl refl
or_true false b e = inr e

not_true : (a : Bool) → not a ≡ true → a ≡ false
not_true true e = absurd cc
not_true false e = refl

-- ---- lists of flags

implied_at : (xs ys : List Bool) → implied xs ys ≡ true → (k : ℕ) → get_or xs k false ≡ true → get_or ys k false ≡ true
implied_at [] ys e k h = absurd cc
implied_at (x ∷ xs) [] e zero h = absurd (let a = not_true x (and_true (not x) (implied xs []) e).0 in cc)
implied_at (x ∷ xs) [] e (suc k) h = implied_at xs [] (and_true (not x) (implied xs []) e).1 k h
implied_at (x ∷ xs) (y ∷ ys) e zero h =
    elim (or_true (not x) y (and_true (not x || y) (implied xs ys) e).0) [
      | inl a ↦ absurd
          (let b = not_true x a in cc)
      | inr b ↦ b
    ]
implied_at (x ∷ xs) (y ∷ ys) e (suc k) h = implied_at xs ys (and_true (not x || y) (implied xs ys) e).1 k h

disjoint_at : (xs ys : List Bool) → disjoint xs ys ≡ true → (k : ℕ) → get_or xs k false ≡ true →
    get_or ys k false ≡ true → ⊥
disjoint_at [] ys e k h j = cc
disjoint_at (x ∷ xs) [] e k h j = cc
disjoint_at (x ∷ xs) (y ∷ ys) e zero h j = let a =
    not_true (x && y) (and_true (not (x && y)) (disjoint xs ys) e).0 in let b : (x && y) ≡ true = rw (h, j) refl in cc
disjoint_at (x ∷ xs) (y ∷ ys) e (suc k) h j = disjoint_at xs ys (and_true (not (x && y)) (disjoint xs ys) e).1 k h j

named_not_zero : (x p : ℕ) → number x ≡ Some p → not (nat_eq x 0) ≡ true
named_not_zero x p e = go (nat_eq x 0) e
  where
    go : (b : Bool) → cond b None (Some (x - 1)) ≡ Some p → not b ≡ true
    go true q = absurd cc
    go false q = refl

marks_at : (xs : List ℕ) (k p : ℕ) → cell xs k ≡ Some p → get_or (marks xs) k false ≡ true
marks_at [] k p e = absurd cc
marks_at (x ∷ xs) zero p e = named_not_zero x p e
marks_at (x ∷ xs) (suc k) p e = marks_at xs k p e

not_marked : (xs : List ℕ) (k : ℕ) → (get_or (marks xs) k false ≡ true → ⊥) → cell xs k ≡ None
not_marked xs k h = go (cell xs k) refl
  where
    go : (o : Option ℕ) → cell xs k ≡ o → cell xs k ≡ None
    go None e = e
    go (Some p) e = absurd (h (marks_at xs k p e))

number_suc : (p : ℕ) → number (suc p) ≡ Some p
number_suc p = rw (not_eq (suc p) 0 (λ q. omega arith)) (ap (λ z. Some z) (let e : suc p - 1 ≡ p = omega arith in e))

equals_at : (p : ℕ) (xs : List ℕ) (k : ℕ) → get_or (equals (suc p) xs) k false ≡ true → cell xs k ≡ Some p
equals_at p [] k e = absurd cc
equals_at p (x ∷ xs) zero e = ap number (eq_true x (suc p) e) ∙ number_suc p
equals_at p (x ∷ xs) (suc k) e = equals_at p xs k e

equals_from : (p : ℕ) (xs : List ℕ) (k : ℕ) → cell xs k ≡ Some p → get_or (equals (suc p) xs) k false ≡ true
equals_from p [] k e = absurd cc
equals_from p (zero ∷ xs) zero e = absurd cc
equals_from p (suc q ∷ xs) zero e =
    let f : Some q ≡ Some p = sym (number_suc q) ∙ e in
    let w : q ≡ p = cc in
    true_eq (suc q) (suc p) (ap suc w)
equals_from p (x ∷ xs) (suc k) e = equals_from p xs k e

marked : (xs : List ℕ) (k : ℕ) → get_or (marks xs) k false ≡ true → (p : ℕ) × (cell xs k ≡ Some p)
marked [] k e = absurd cc
marked (zero ∷ xs) zero e = absurd cc
marked (suc q ∷ xs) zero e = (q, number_suc q)
marked (x ∷ xs) (suc k) e = marked xs k e

-- ---- sets of classes

halves : (set k : ℕ) → set / 2 / 2 ^ k ≡ set / 2 ^ suc k
halves set k =
    let e : 1 + k ≡ suc k = omega arith in
    shr-shr set 1 k ∙ ap (λ z. set / 2 ^ z) e

bits_at : (n set k : ℕ) → k < n → (set / 2 ^ k) % 2 ≡ 1 → get_or (bits n set) k false ≡ true
bits_at zero set k h e = absurd (omega arith)
bits_at (suc n) set zero h e = true_eq (set % 2) 1 (sym (ap (λ z. z % 2) (div-one set)) ∙ e)
bits_at (suc n) set (suc k) h e = bits_at n (set / 2) k (omega arith) (ap (λ z. z % 2) (halves set k) ∙ e)

at_bits : (n set k : ℕ) → get_or (bits n set) k false ≡ true → (k < n) × ((set / 2 ^ k) % 2 ≡ 1)
at_bits zero set k e = absurd cc
at_bits (suc n) set zero e = (omega arith, ap (λ z. z % 2) (div-one set) ∙ eq_true (set % 2) 1 e)
at_bits (suc n) set (suc k) e =
    let h = at_bits n (set / 2) k e in
    (below h.0, sym (ap (λ z. z % 2) (halves set k)) ∙ h.1)
  where
    below : k < n → suc k < suc n
    below h = omega arith

has_one_at : (xs : List Bool) → has_one xs ≡ true → (k : ℕ) × (get_or xs k false ≡ true)
has_one_at [] e = absurd cc
has_one_at (x ∷ xs) e = elim (or_true x (has_one xs) e) [ inl a ↦ (zero, a) | inr b ↦ later (has_one_at xs b) ]
  where
    later : (k : ℕ) × (get_or xs k false ≡ true) → (k : ℕ) × (get_or (x ∷ xs) k false ≡ true)
    later h = (suc h.0, h.1)

-- ---- sets of looks

abbrev Has : Looks → Look → Type 0
Has A (beyond k) = get_or A.right k false ≡ true
Has A (level k) = get_or A.equal k false ≡ true
Has A outside = Unit {0}

subset_at : (A B : Looks) → subset A B ≡ true → (l : Look) → Has A l → Has B l
subset_at A B e (beyond k) h =
    implied_at A.right B.right (and_true (implied A.right B.right) (implied A.equal B.equal) e).0 k h
subset_at A B e (level k) h =
    implied_at A.equal B.equal (and_true (implied A.right B.right) (implied A.equal B.equal) e).1 k h
subset_at A B e outside h = tt

beyond_is : (o : Option Row) (k : ℕ) → takes_row o (beyond k) ≡ cell (cells o) k
beyond_is (Some r) k = refl
beyond_is None k = refl

level_is : (o : Option Row) (k : ℕ) → takes_row o (level k) ≡ cell (level_cells o) k
level_is (Some r) k = refl
level_is None k = refl

outside_is : (o : Option Row) → takes_row o outside ≡ None
outside_is (Some r) = refl
outside_is None = refl

empty_is : (o : Option Row) → empty_row o ≡ number (empty_cell o)
empty_is (Some r) = refl
empty_is None = refl

opens_has : (rows : List Row) (s : Symbol) (l : Look) → Opens (plan_of rows) s l → Has (openers rows s) l
opens_has rows (Word set) l h = subst (λ z. Has (openers rows (Word set)) z) (sym h.1) (bits_at 64 set h.0 h.2.0 h.2.1)
opens_has rows (Part n) (beyond k) h =
    marks_at (cells (slice_get rows n)) k h.0 (sym (beyond_is (slice_get rows n) k) ∙ h.1)
opens_has rows (Part n) (level k) h =
    marks_at (level_cells (slice_get rows n)) k h.0 (sym (level_is (slice_get rows n) k) ∙ h.1)
opens_has rows (Part n) outside h = tt
opens_has rows (Line n) l h =
    subst (λ z. Has (openers rows (Line n)) z) (sym h.1)
    (marks_at (cells (slice_get rows n)) h.0 h.2 (sym (beyond_is (slice_get rows n) h.0) ∙ h.3))
opens_has rows (Block n) l h =
    subst (λ z. Has (openers rows (Block n)) z) (sym h.1)
    (marks_at (level_cells (slice_get rows n)) h.0 h.2 (sym (level_is (slice_get rows n) h.0) ∙ h.3))

opens_somewhere : (rows : List Row) (s : Symbol) → Opens (plan_of rows) s outside → ⊥
opens_somewhere rows (Word set) h = let e : outside ≡ beyond h.0 = h.1 in cc
opens_somewhere rows (Part n) h = let e = outside_is (slice_get rows n) in let q : None ≡ Some h.0 = sym e ∙ h.1 in cc
opens_somewhere rows (Line n) h = let e : outside ≡ level h.0 = h.1 in cc
opens_somewhere rows (Block n) h = let e : outside ≡ beyond h.0 = h.1 in cc

has_opens : (rows : List Row) (s : Symbol) (l : Look) → (l ≡ outside → ⊥) → Has (openers rows s) l →
    Opens (plan_of rows) s l
has_opens rows s outside other h = absurd (other refl)
has_opens rows (Word set) (beyond k) other h = (k, refl, at_bits 64 set k h)
has_opens rows (Word set) (level k) other h = absurd (let e : false ≡ true = h in cc)
has_opens rows (Part n) (beyond k) other h = let m =
    marked (cells (slice_get rows n)) k h in (m.0, beyond_is (slice_get rows n) k ∙ m.1)
has_opens rows (Part n) (level k) other h = let m =
    marked (level_cells (slice_get rows n)) k h in (m.0, level_is (slice_get rows n) k ∙ m.1)
has_opens rows (Line n) (beyond k) other h = absurd (let e : false ≡ true = h in cc)
has_opens rows (Line n) (level k) other h = let m =
    marked (cells (slice_get rows n)) k h in (k, refl, m.0, beyond_is (slice_get rows n) k ∙ m.1)
has_opens rows (Block n) (beyond k) other h = let m =
    marked (level_cells (slice_get rows n)) k h in (k, refl, m.0, level_is (slice_get rows n) k ∙ m.1)
has_opens rows (Block n) (level k) other h = absurd (let e : false ≡ true = h in cc)

takes_takers : (rows : List Row) (p n : ℕ) (l : Look) → takes_row (slice_get rows n) l ≡ Some p →
    Has (takers rows (suc p) n) l
takes_takers rows p n (beyond k) e =
    equals_from p (cells (slice_get rows n)) k (sym (beyond_is (slice_get rows n) k) ∙ e)
takes_takers rows p n (level k) e =
    equals_from p (level_cells (slice_get rows n)) k (sym (level_is (slice_get rows n) k) ∙ e)
takes_takers rows p n outside e = tt

takes_seen : (rows : List Row) (p n : ℕ) (l : Look) → takes_row (slice_get rows n) l ≡ Some p → l ≡ outside → ⊥
takes_seen rows p n l e q =
    let f : None ≡ Some p = sym (outside_is (slice_get rows n)) ∙ (ap (takes_row (slice_get rows n)) (sym q) ∙ e) in
    cc

takers_take : (rows : List Row) (p n : ℕ) (s : Symbol) (l : Look) → Has (takers rows (suc p) n) l →
    Opens (plan_of rows) s l → takes_row (slice_get rows n) l ≡ Some p
takers_take rows p n s (beyond k) h o = beyond_is (slice_get rows n) k ∙ equals_at p (cells (slice_get rows n)) k h
takers_take rows p n s (level k) h o = level_is (slice_get rows n) k ∙ equals_at p (level_cells (slice_get rows n)) k h
takers_take rows p n s outside h o = absurd (opens_somewhere rows s o)

follows_has : (rows : List Row) (n : ℕ) (l : Look) → Follows (plan_of rows) n l → Has (followers (slice_get rows n)) l
follows_has rows n l h = go (slice_get rows n) refl l h
  where
    go : (o : Option Row) → slice_get rows n ≡ o → (l : Look) → Follows (plan_of rows) n l → Has (followers o) l
    go None e (beyond k) h = sym (ap (λ z. follows_row z (beyond k)) e) ∙ h
    go None e (level k) h = sym (ap (λ z. follows_row z (level k)) e) ∙ h
    go (Some r) e (beyond k) h = sym (ap (λ z. follows_row z (beyond k)) e) ∙ h
    go (Some r) e (level k) h = sym (ap (λ z. follows_row z (level k)) e) ∙ h
    go o e outside h = tt

has_follows : (rows : List Row) (n : ℕ) (l : Look) → Has (followers (slice_get rows n)) l → Follows (plan_of rows) n l
has_follows rows n l h = go (slice_get rows n) refl l h
  where
    go : (o : Option Row) → slice_get rows n ≡ o → (l : Look) → Has (followers o) l → Follows (plan_of rows) n l
    go None e (beyond k) h = absurd (let q : false ≡ true = h in cc)
    go None e (level k) h = absurd (let q : false ≡ true = h in cc)
    go None e outside h = tt
    go (Some r) e (beyond k) h = ap (λ z. follows_row z (beyond k)) e ∙ h
    go (Some r) e (level k) h = ap (λ z. follows_row z (level k)) e ∙ h
    go (Some r) e outside h = tt

-- ---- what may come after

precedes : (rows : List Row) (s : Symbol) (A : Looks) (l : Look) → allows rows s A ≡ true → Has A l →
    Precedes (plan_of rows) s l
precedes rows (Word k) A l e h = tt
precedes rows (Part n) A l e h = has_follows rows n l (subset_at A (followers (slice_get rows n)) e l h)
precedes rows (Line n) A l e h = has_follows rows n l (subset_at A (followers (slice_get rows n)) e l h)
precedes rows (Block n) A (beyond k) e h =
    let F = followers (slice_get rows n) in
    let p = and_true (implied A.right F.right) (implied A.right F.equal) e in (
      has_follows rows n (beyond k) (implied_at A.right F.right p.0 k h),
      has_follows rows n (level k)
          (implied_at A.right F.equal p.1 k h),
    )
precedes rows (Block n) A (level k) e h = tt
precedes rows (Block n) A outside e h = tt

vanishes_so : (rows : List Row) (s : Symbol) → Vanishes (plan_of rows) s → not (vanishing rows s) ≡ true → ⊥
vanishes_so rows (Word k) v e = v
vanishes_so rows (Line n) v e = v
vanishes_so rows (Block n) v e = v
vanishes_so rows (Part n) v e = go (nat_eq (empty_cell (slice_get rows n)) 0) refl e
  where
    go : (b : Bool) → nat_eq (empty_cell (slice_get rows n)) 0 ≡ b → not (not b) ≡ true → ⊥
    go false q r = cc
    go true q r = let w : number (empty_cell (slice_get rows n)) ≡ None = rw q refl in let u : None ≡ Some v.0 =
        sym w ∙ (sym (empty_is (slice_get rows n)) ∙ v.1) in cc

ahead_is : (rows : List Row) (s : Symbol) (n : ℕ) (ss : List Symbol) (l : Look) → ahead rows s n ss ≡ true →
    After (plan_of rows) n ss l → Precedes (plan_of rows) s l
ahead_is rows s n [] l e h = precedes rows s (followers (slice_get rows n)) l e (follows_has rows n l h)
ahead_is rows s n (t ∷ ts) l e h =
    let p = and_true (allows rows s (openers rows t)) (not (vanishing rows t) || ahead rows s n ts) e in
    elim h [
      | inl o ↦ precedes rows s (openers rows t) l p.0 (opens_has rows t l o)
      | inr w ↦ elim (or_true (not (vanishing rows t)) (ahead rows s n ts) p.1) [
        | inl q ↦ absurd
            (vanishes_so rows t w.0 q)
        | inr q ↦ ahead_is rows s n ts l q w.1
      ]
    ]

no_cell_is : (rows : List Row) (n : ℕ) → no_cell (slice_get rows n) ≡ true → empty_row (slice_get rows n) ≡ None
no_cell_is rows n e = empty_is (slice_get rows n) ∙ (let w : number (empty_cell (slice_get rows n)) ≡ None =
    rw e refl in w)

full_is : (rows : List Row) (s : Symbol) → full rows s ≡ true → Full (plan_of rows) s
full_is rows (Word k) e = tt
full_is rows (Part n) e = no_cell_is rows n e
full_is rows (Line n) e = no_cell_is rows n e
full_is rows (Block n) e = no_cell_is rows n e

plain_is : (o : Option Row) → plain_row o ≡ is_plain o
plain_is (Some r) = refl
plain_is None = refl

rank_is : (o : Option Row) → rank_row o ≡ rank_cell o
rank_is (Some r) = refl
rank_is None = refl

height_is : (o : Option Row) → height_row o ≡ height_cell o
height_is (Some r) = refl
height_is None = refl

starts_is : (rows : List Row) (ss : List Symbol) → starts rows ss ≡ true → Starts (plan_of rows) leading ss
starts_is rows [] e = absurd cc
starts_is rows (Word k ∷ ss) e = tt
starts_is rows (Part n ∷ ss) e = plain_is (slice_get rows n) ∙ e
starts_is rows (Line n ∷ ss) e = absurd cc
starts_is rows (Block n ∷ ss) e = absurd cc

ranked_is : (rows : List Row) (h : ℕ) (s : Symbol) → ranked rows h s ≡ true → Ranked (plan_of rows) h s
ranked_is rows h (Word k) e = tt
ranked_is rows h (Part n) e = let a = lt_true (rank_cell (slice_get rows n)) h e in let b =
    rank_is (slice_get rows n) in omega arith
ranked_is rows h (Line n) e = let a = lt_true (rank_cell (slice_get rows n)) h e in let b =
    rank_is (slice_get rows n) in omega arith
ranked_is rows h (Block n) e = let a = lt_true (rank_cell (slice_get rows n)) h e in let b =
    rank_is (slice_get rows n) in omega arith

lower_is : (rows : List Row) (h : ℕ) (s : Symbol) → lower rows h s ≡ true → Lower (plan_of rows) h s
lower_is rows h (Word k) e = tt
lower_is rows h (Part n) e = let a = lt_true (height_cell (slice_get rows n)) h e in let b =
    height_is (slice_get rows n) in omega arith
lower_is rows h (Line n) e = let a = lt_true (height_cell (slice_get rows n)) h e in let b =
    height_is (slice_get rows n) in omega arith
lower_is rows h (Block n) e = let a = lt_true (height_cell (slice_get rows n)) h e in let b =
    height_is (slice_get rows n) in omega arith

all_lower_is : (rows : List Row) (h : ℕ) (ss : List Symbol) → all_lower rows h ss ≡ true → AllLower (plan_of rows) h ss
all_lower_is rows h [] e = tt
all_lower_is rows h (s ∷ ss) e = let p =
    and_true (lower rows h s) (all_lower rows h ss) e in (lower_is rows h s p.0, all_lower_is rows h ss p.1)

-- ---- each production, and each row

rule_at : (rows : List Row) (g : List Production) (p i : ℕ) (x : Production) → rules_planned rows i g ≡ true →
    production g p ≡ Some x → rule_planned rows (i + p) x ≡ true
rule_at rows [] p i x e q = absurd cc
rule_at rows (y ∷ ys) zero i x e q =
    let h = (and_true (rule_planned rows i y) (rules_planned rows (suc i) ys) e).0 in
    let same : y ≡ x = cc in
    let at : i ≡ i + 0 = omega arith in
    subst (λ z. rule_planned rows z x ≡ true) at (subst (λ z. rule_planned rows i z ≡ true) same h)
rule_at rows (y ∷ ys) (suc p) i x e q =
    let h = rule_at rows ys p (suc i) x (and_true (rule_planned rows i y) (rules_planned rows (suc i) ys) e).1 q in
    let at : suc i + p ≡ i + suc p = omega arith in
    subst (λ z. rule_planned rows z x ≡ true) at h

row_at : (g : List Production) (rows rs : List Row) (n i : ℕ) (r : Row) → rows_planned g rows i rs ≡ true →
    slice_get rs n ≡ Some r → row_planned g rows (i + n) r ≡ true
row_at g rows [] n i r e q = absurd cc
row_at g rows (y ∷ ys) zero i r e q =
    let h = (and_true (row_planned g rows i y) (rows_planned g rows (suc i) ys) e).0 in
    let same : y ≡ r = cc in
    let at : i ≡ i + 0 = omega arith in
    subst (λ z. row_planned g rows z r ≡ true) at (subst (λ z. row_planned g rows i z ≡ true) same h)
row_at g rows (y ∷ ys) (suc n) i r e q =
    let h = row_at g rows ys n (suc i) r (and_true (row_planned g rows i y) (rows_planned g rows (suc i) ys) e).1 q in
    let at : suc i + n ≡ i + suc n = omega arith in
    subst (λ z. row_planned g rows z r ≡ true) at h

named_so : (x p : ℕ) → number x ≡ Some p → (nat_eq x 0 ≡ false) × (x - 1 ≡ p)
named_so x p e = go (nat_eq x 0) refl e
  where
    go : (b : Bool) → nat_eq x 0 ≡ b → cond b None (Some (x - 1)) ≡ Some p → (nat_eq x 0 ≡ false) × (x - 1 ≡ p)
    go true q r = absurd cc
    go false q r = (q, cc)

some_of : (g : List Production) (n p : ℕ) → is_some_of n (production g p) ≡ true →
    (s : Symbol) × (ss : List Symbol) × Is g p n (s ∷ ss)
some_of g n p e = go (production g p) refl e
  where
    go : (o : Option Production) → production g p ≡ o → is_some_of n o ≡ true →
        (s : Symbol) × (ss : List Symbol) × Is g p n (s ∷ ss)
    go None q r = absurd cc
    go (Some (m ⟶ [])) q r = absurd cc
    go (Some (m ⟶ (s ∷ ss))) q r = (s, ss, q ∙ ap (λ z. Some (z ⟶ (s ∷ ss))) (eq_true m n r))

none_of : (g : List Production) (n p : ℕ) → is_none_of n (production g p) ≡ true → Is g p n []
none_of g n p e = go (production g p) refl e
  where
    go : (o : Option Production) → production g p ≡ o → is_none_of n o ≡ true → Is g p n []
    go None q r = absurd cc
    go (Some (m ⟶ [])) q r = q ∙ ap (λ z. Some (z ⟶ [])) (eq_true m n r)
    go (Some (m ⟶ (s ∷ ss))) q r = absurd cc

named_at : (g : List Production) (n : ℕ) (xs : List ℕ) (k p : ℕ) → all_named g n xs ≡ true → cell xs k ≡ Some p →
    is_some_of n (production g p) ≡ true
named_at g n [] k p e q = absurd cc
named_at g n (x ∷ xs) (suc k) p e q =
    named_at g n xs k p (and_true (nat_eq x 0 || is_some_of n (production g (x - 1))) (all_named g n xs) e).1 q
named_at g n (x ∷ xs) zero p e q =
    let w = named_so x p q in
    elim (or_true (nat_eq x 0) (is_some_of n (production g (x - 1)))
    (and_true (nat_eq x 0 || is_some_of n (production g (x - 1))) (all_named g n xs) e).0) [
      | inl a ↦ absurd (let c = w.0 in cc)
      | inr b ↦ subst (λ z. is_some_of n (production g z) ≡ true) w.1 b
    ]

row_exists : (rows : List Row) (n : ℕ) → n < length rows → (r : Row) × (slice_get rows n ≡ Some r)
row_exists [] n h = absurd (omega arith)
row_exists (r ∷ rows) zero h = (r, refl)
row_exists (r ∷ rows) (suc n) h = row_exists rows n (omega arith)

-- what the test says of one row
record RowSays (g : List Production) (rows : List Row) (n : ℕ) (r : Row) : Type 0 where
  beyond_named : all_named g n r.beyond ≡ true
  level_named : all_named g n r.level ≡ true
  empties : empty_planned g r n ≡ true
  shorts : is_short_of rows r.height n (production g r.short) ≡ true

row_says : (g : List Production) (rows : List Row) → rows_planned g rows 0 rows ≡ true → (n : ℕ) (r : Row) →
    slice_get rows n ≡ Some r → RowSays g rows n r
row_says g rows e n r q =
    let at : 0 + n ≡ n = omega arith in
    let a = subst (λ z. row_planned g rows z r ≡ true) at (row_at g rows rows n 0 r e q) in
    let b = and_true (all_named g n r.beyond && all_named g n r.level && empty_planned g r n) _ a in
    let d = and_true (all_named g n r.beyond && all_named g n r.level) (empty_planned g r n) b.0 in
    let f = and_true (all_named g n r.beyond) (all_named g n r.level) d.0 in
    record { beyond_named = f.0; level_named = f.1; empties = d.1; shorts = b.1 }

taken_is : (g : List Production) (rows : List Row) → rows_planned g rows 0 rows ≡ true → (n p : ℕ) (l : Look) →
    takes_row (slice_get rows n) l ≡ Some p → is_some_of n (production g p) ≡ true
taken_is g rows e n p l h = go (slice_get rows n) refl l h
  where
    go : (o : Option Row) → slice_get rows n ≡ o → (l : Look) → takes_row o l ≡ Some p →
        is_some_of n (production g p) ≡ true
    go None q l h = absurd cc
    go (Some r) q outside h = absurd cc
    go (Some r) q (beyond k) h = named_at g n r.beyond k p (row_says g rows e n r q).beyond_named h
    go (Some r) q (level k) h = named_at g n r.level k p (row_says g rows e n r q).level_named h

-- what the test says of a production with nothing in it
record EmptySays (g : List Production) (rows : List Row) (n p : ℕ) : Type 0 where
  empty_at : Is g p n []
  beyond_apart : (k : ℕ) → Follows (plan_of rows) n (beyond k) → takes_row (slice_get rows n) (beyond k) ≡ None
  level_apart : (k : ℕ) → Follows (plan_of rows) n (level k) → takes_row (slice_get rows n) (level k) ≡ None

empty_says : (g : List Production) (rows : List Row) → rows_planned g rows 0 rows ≡ true → (n p : ℕ) →
    empty_row (slice_get rows n) ≡ Some p → EmptySays g rows n p
empty_says g rows e n p h = go (slice_get rows n) refl h
  where
    go : (o : Option Row) → slice_get rows n ≡ o → empty_row o ≡ Some p → EmptySays g rows n p
    go None q h = absurd cc
    go (Some r) q h =
        (let w = named_so r.empty p h in
        let says = row_says g rows e n r q in
        let rest :
        (is_none_of n (production g (r.empty - 1)) && disjoint (bits 64 r.follows) (marks r.beyond)
        && disjoint (bits 64 r.follows_level) (marks r.level)) ≡ true =
        elim (or_true (nat_eq r.empty 0) _ says.empties) [ inl a ↦ absurd (let c = w.0 in cc) | inr b ↦ b ] in
        let a = and_true
        (is_none_of n (production g (r.empty - 1)) && disjoint (bits 64 r.follows) (marks r.beyond)) _ rest in
        let b = and_true (is_none_of n (production g (r.empty - 1)))
        (disjoint (bits 64 r.follows) (marks r.beyond)) a.0 in
        record {
          empty_at = none_of g n p (subst (λ z. is_none_of n (production g z) ≡ true) w.1 b.0);
          beyond_apart =
              λ k f. ap (λ z. takes_row z (beyond k)) q ∙ not_marked r.beyond k
              (disjoint_at (bits 64 r.follows) (marks r.beyond) b.1 k (sym (ap (λ z. follows_row z (beyond k)) q) ∙ f));
          level_apart =
              λ k f. ap (λ z. takes_row z (level k)) q ∙ not_marked r.level k
              (disjoint_at (bits 64 r.follows_level) (marks r.level) a.1 k
              (sym (ap (λ z. follows_row z (level k)) q) ∙ f));
        })

ends_is : (g : List Production) (rows : List Row) → rows_planned g rows 0 rows ≡ true → (n : ℕ) →
    nat_lt n (length rows) ≡ true → Ends g (plan_of rows) n
ends_is g rows e n h =
    let x = row_exists rows n (lt_true n (length rows) h) in
    go x.0 x.1 (production g x.0.short) refl (row_says g rows e n x.0 x.1).shorts
  where
    go : (r : Row) → slice_get rows n ≡ Some r → (o : Option Production) → production g r.short ≡ o →
        is_short_of rows r.height n o ≡ true → Ends g (plan_of rows) n
    go r q None f s = absurd cc
    go r q (Some (m ⟶ t)) f s =
        (let p = and_true (nat_eq m n) (all_lower rows r.height t) s in
        let i : Is g r.short n t = f ∙ ap (λ z. Some (z ⟶ t)) (eq_true m n p.0) in
        let low = all_lower_is rows r.height t p.1 in (
          t,
          subst (λ z. Is g (short_row z) n t) (sym q) i,
          subst (λ z. AllLower (plan_of rows) (height_row z) t)
              (sym q) low,
        ))

fits_is : (g : List Production) (rows : List Row) → rows_planned g rows 0 rows ≡ true → (s : Symbol) →
    fits rows s ≡ true → Fits g (plan_of rows) s
fits_is g rows e (Word set) h = let x = has_one_at (bits 64 set) h in (x.0, at_bits 64 set x.0 x.1)
fits_is g rows e (Part n) h = ends_is g rows e n h
fits_is g rows e (Line n) h =
    let a = and_true (nat_lt n (length rows) && is_plain (slice_get rows n)) (no_cell (slice_get rows n)) h in
    let b = and_true (nat_lt n (length rows)) (is_plain (slice_get rows n)) a.0 in
    (ends_is g rows e n b.0, plain_is (slice_get rows n) ∙ b.1, no_cell_is rows n a.1)
fits_is g rows e (Block n) h =
    let a = and_true (nat_lt n (length rows) && no_cell (slice_get rows n))
    (implied (marks (cells (slice_get rows n))) []) h in
    let b = and_true (nat_lt n (length rows)) (no_cell (slice_get rows n)) a.0 in (
      ends_is g rows e n b.0,
      no_cell_is rows n b.1,
      λ k. beyond_is (slice_get rows n) k ∙ not_marked (cells (slice_get rows n)) k (λ q. let w : false ≡ true =
          implied_at (marks (cells (slice_get rows n))) [] a.1 k q in cc),
    )

orderly_is : (g : List Production) (rows : List Row) → rows_planned g rows 0 rows ≡ true →
    (n : ℕ) (ss : List Symbol) → orderly rows n ss ≡ true → Orderly g (plan_of rows) n ss
orderly_is g rows e n [] h = tt
orderly_is g rows e n (s ∷ ss) h =
    let a = and_true (fits rows s && ahead rows s n ss) (orderly rows n ss) h in
    let b = and_true (fits rows s) (ahead rows s n ss) a.0 in
    (fits_is g rows e s b.0, (λ l f. ahead_is rows s n ss l b.1 f), orderly_is g rows e n ss a.1)

-- what the test says of one production
record RuleSays (rows : List Row) (p n : ℕ) (r : List Symbol) : Type 0 where
  head_is : heads rows p n r ≡ true
  plain_starts : (not (is_plain (slice_get rows n)) || starts rows r) ≡ true
  order : orderly rows n r ≡ true

rule_says : (g : List Production) (rows : List Row) → rules_planned rows 0 g ≡ true → (p n : ℕ) (r : List Symbol) →
    Is g p n r → RuleSays rows p n r
rule_says g rows e p n r i =
    let at : 0 + p ≡ p = omega arith in
    let a = subst (λ z. rule_planned rows z (n ⟶ r) ≡ true) at (rule_at rows g p 0 (n ⟶ r) e i) in
    let b = and_true (heads rows p n r && (not (is_plain (slice_get rows n)) || starts rows r)) (orderly rows n r) a in
    let d = and_true (heads rows p n r) (not (is_plain (slice_get rows n)) || starts rows r) b.0 in
    record { head_is = d.0; plain_starts = d.1; order = b.1 }

-- what the head of a production says
record HeadSays (rows : List Row) (p n : ℕ) (s : Symbol) : Type 0 where
  taken_by : subset (openers rows s) (takers rows (suc p) n) ≡ true
  opened_by : subset (takers rows (suc p) n) (openers rows s) ≡ true
  fullness : full rows s ≡ true
  rank_falls : ranked rows (rank_cell (slice_get rows n)) s ≡ true

head_says : (rows : List Row) (p n : ℕ) (s : Symbol) (ss : List Symbol) → heads rows p n (s ∷ ss) ≡ true →
    HeadSays rows p n s
head_says rows p n s ss h =
    let taken = subset (openers rows s) (takers rows (suc p) n) in
    let opened = subset (takers rows (suc p) n) (openers rows s) in
    let a = and_true (taken && opened && full rows s) (ranked rows (rank_cell (slice_get rows n)) s) h in
    let b = and_true (taken && opened) (full rows s) a.0 in
    let d = and_true taken opened b.0 in
    record { taken_by = d.0; opened_by = d.1; fullness = b.1; rank_falls = a.1 }

apart_is : (g : List Production) (rows : List Row) → rows_planned g rows 0 rows ≡ true → (n p : ℕ) (l : Look) →
    empty_row (slice_get rows n) ≡ Some p → Follows (plan_of rows) n l → takes_row (slice_get rows n) l ≡ None
apart_is g rows e n p (beyond k) h f = (empty_says g rows e n p h).beyond_apart k f
apart_is g rows e n p (level k) h f = (empty_says g rows e n p h).level_apart k f
apart_is g rows e n p outside h f = outside_is (slice_get rows n)

pub planned-is : (g : List Production) (rows : List Row) → planned g rows ≡ true → IsPlanned g (plan_of rows)
planned-is g rows e =
    let a = and_true (rules_planned rows 0 g) (rows_planned g rows 0 rows) e in
    record {
      opening = λ p n s ss l i o.
          let h = head_says rows p n s ss (rule_says g rows a.0 p n (s ∷ ss) i).head_is in
          takers_take rows p n s l
          (subset_at (openers rows s) (takers rows (suc p) n) h.taken_by l (opens_has rows s l o)) o;
      opened = λ p n s ss l i t.
          let h = head_says rows p n s ss (rule_says g rows a.0 p n (s ∷ ss) i).head_is in
          has_opens rows s l (takes_seen rows p n l t)
          (subset_at (takers rows (suc p) n) (openers rows s) h.opened_by l (takes_takers rows p n l t));
      vanishing =
          λ p n i. empty_is (slice_get rows n) ∙ ap number
          (eq_true (empty_cell (slice_get rows n)) (suc p) (rule_says g rows a.0 p n [] i).head_is) ∙ number_suc p;
      firm = λ p n s ss i. full_is rows s
          (head_says rows p n s ss (rule_says g rows a.0 p n (s ∷ ss) i).head_is).fullness;
      taken = λ n p l h. some_of g n p (taken_is g rows a.1 n p l h);
      vanished = λ n p h. (empty_says g rows a.1 n p h).empty_at;
      nowhere = λ n. outside_is (slice_get rows n);
      apart = λ n p l h f. apart_is g rows a.1 n p l h f;
      plainly =
          λ p n r i h. elim
          (or_true (not (is_plain (slice_get rows n))) (starts rows r) (rule_says g rows a.0 p n r i).plain_starts) [
            | inl q ↦ absurd (let w = not_true (is_plain (slice_get rows n)) q in let v =
                plain_is (slice_get rows n) in let u : true ≡ false = sym h ∙ (v ∙ w) in cc)
            | inr q ↦ starts_is rows r q
          ];
      orderly = λ p n r i. orderly_is g rows a.1 n r (rule_says g rows a.0 p n r i).order;
      falling =
          λ p n s ss i. subst (λ z. Ranked (plan_of rows) z s) (sym (rank_is (slice_get rows n)))
          (ranked_is rows (rank_cell (slice_get rows n)) s
          (head_says rows p n s ss (rule_says g rows a.0 p n (s ∷ ss) i).head_is).rank_falls);
    }

-- a nonterminal that has a row has derivations
pub start_ends : (g : List Production) (rows : List Row) → planned g rows ≡ true → (n : ℕ) → n < length rows →
    Ends g (plan_of rows) n
start_ends g rows e n h =
    ends_is g rows (and_true (rules_planned rows 0 g) (rows_planned g rows 0 rows) e).1 n (true_lt n (length rows) h)

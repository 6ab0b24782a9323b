-- The tree of tests gives the branch that the rows pick.
use Rattle.std.proofs.Common.{◌≡◌, ℕ, zero, suc, ℤ, List, [], ◌∷◌, ◌++◌, Bool, true, false, nat_eq, refl, sym, ap, ◌∙◌}
use Rattle.std.specs.Prelude.{if◌then◌else◌, ◌&&◌, ◌||◌}
use Rattle.std.proofs.lemmas.Slice.Eq.{bytes_eq-Decides}
use Rattle.runs.specs.Ends.{End, Val, Crashed, OutOfFuel, Unsafe, Stuck}
use Rattle.elm_canon.specs.declared.unions.Tag.{Tag}
use Rattle.elm_canon.specs.declared.unions.Alternative.{Alternative}
use Rattle.elm_canon.specs.Unions.{Union, alternatives}
use Rattle.elm_canon.specs.declared.tree.Literal.{Literal}
use Rattle.elm_canon.specs.declared.tree.Literal.TheVariants as literal
use Rattle.elm_canon.specs.Tree.{Pattern, Anything, Named, As, Exactly, Construct, FieldsOf, LocatedPattern, Patterns}
use Rattle.elm_meaning.specs.Values.{Value, IntV, TextV, TagV, RecordV, CloV, KnownV, WireV, Values}
use Rattle.runs.specs.Numbers.{is_number}
use Rattle.elm_meaning.specs.Seen.{same_tag}
use Rattle.elm_meaning.specs.Match.{is_literal, is_of, is_of_one}
use Rattle.js_emit.specs.Matrix.{Test, Literally, Tagged, Ask, Nothing, First, ask, same_test, has_test, tests_of_union, is_alike, have_all, is_whole, Row, left_by, left_over, ask_at, add_test, tests_in}
use Rattle.emit_laws.proofs.Rows.{both, fit, KeptAt, EachKept, Holds, meets, Fails, kept_by_test, kept_by_rest, number_itself, literal_same, of_parts, is_of_both, test_parts, test_both, both_true}

-- Kinds: a value that the rows look at is of the kind that the test asks for.
pub data Kinded : Test → Value → Type 0 where
  kind_int : {i n : ℤ} → Kinded (Literally (literal.Int i)) (IntV n)
  kind_char : {s t : List ℕ} → Kinded (Literally (literal.Char s)) (TextV t)
  kind_text : {s t : List ℕ} → Kinded (Literally (literal.Text s)) (TextV t)
  kind_tag : {u : Union} {a : Alternative} {tag : Tag} {vs : Values} → is_of_one tag vs (alternatives u) ≡ true → Kinded (Tagged u a) (TagV tag vs)

-- what both give, the first gives
pub first_gives : (o p : End Bool) (b : Bool) → both o p ≡ Val b → (c : Bool) × (o ≡ Val c)
first_gives (Val c) p b e = (c, refl)
first_gives (Crashed t) p b e = absurd (cc)
first_gives OutOfFuel p b e = absurd (cc)
first_gives Unsafe p b e = absurd (cc)
first_gives Stuck p b e = absurd (cc)

literal_kind : (l : Literal) (v : Value) (b : Bool) → is_literal l v ≡ Val b → Kinded (Literally l) v
literal_kind (literal.Int i) (IntV n) b e = kind_int
literal_kind (literal.Char s) (TextV t) b e = kind_char
literal_kind (literal.Text s) (TextV t) b e = kind_text
literal_kind (literal.Int i) (TextV t) b e = absurd (cc)
literal_kind (literal.Int i) (TagV t vs) b e = absurd (cc)
literal_kind (literal.Int i) (RecordV fs) b e = absurd (cc)
literal_kind (literal.Int i) (CloV env ps c) b e = absurd (cc)
literal_kind (literal.Int i) (KnownV k vs) b e = absurd (cc)
literal_kind (literal.Int i) (WireV w) b e = absurd (cc)
literal_kind (literal.Char i) (IntV t) b e = absurd (cc)
literal_kind (literal.Char i) (TagV t vs) b e = absurd (cc)
literal_kind (literal.Char i) (RecordV fs) b e = absurd (cc)
literal_kind (literal.Char i) (CloV env ps c) b e = absurd (cc)
literal_kind (literal.Char i) (KnownV k vs) b e = absurd (cc)
literal_kind (literal.Char i) (WireV w) b e = absurd (cc)
literal_kind (literal.Text i) (IntV t) b e = absurd (cc)
literal_kind (literal.Text i) (TagV t vs) b e = absurd (cc)
literal_kind (literal.Text i) (RecordV fs) b e = absurd (cc)
literal_kind (literal.Text i) (CloV env ps c) b e = absurd (cc)
literal_kind (literal.Text i) (KnownV k vs) b e = absurd (cc)
literal_kind (literal.Text i) (WireV w) b e = absurd (cc)

abbrev pub Asks : Pattern → Value → Ask → Type 0
Asks p v Nothing = fit p v ≡ Val true
Asks p v (First t qs) = (b : Bool) → fit p v ≡ Val b → Kinded t v

construct_kind : (u : Union) (a : Alternative) (ps : Patterns) (v : Value) (b : Bool) → fit (Construct u a ps) v ≡ Val b → Kinded (Tagged u a) v
construct_kind u a ps (TagV tag vs) b e = go (is_of_one tag vs (alternatives u)) _ refl e
  where
    go : (one : Bool) (o : End Bool) → is_of_one tag vs (alternatives u) ≡ one → (if one then o else Stuck) ≡ Val b → Kinded (Tagged u a) (TagV tag vs)
    go true o is e = kind_tag is
    go false o is e = absurd (cc)
construct_kind u a ps (IntV n) b e = absurd (cc)
construct_kind u a ps (TextV t) b e = absurd (cc)
construct_kind u a ps (RecordV fs) b e = absurd (cc)
construct_kind u a ps (CloV env qs c) b e = absurd (cc)
construct_kind u a ps (KnownV k vs) b e = absurd (cc)
construct_kind u a ps (WireV w) b e = absurd (cc)

-- a pattern that asks for nothing fits; one that asks for something looks at the value's kind
pub asks : (p : Pattern) (v : Value) → Asks p v (ask p)
asks Anything v = refl
asks (Named x) v = refl
asks (As p x) v = asks p v
asks (Exactly l) v = λ b e. literal_kind l v b e
asks (Construct u a ps) v = λ b e. construct_kind u a ps v b e
asks (FieldsOf xs) v = refl
asks (LocatedPattern place p) v = asks p v

-- Tests of a column.

abbrev pub Each : (Test → Type 0) → List Test → Type 0
Each P [] = Unit {0}
Each P (t ∷ ts) = P t × Each P ts

abbrev pub NoneMeets : Value → List Test → Type 0
NoneMeets v ts = Each (λ u. meets u v ≡ Val true → ⊥) ts

meets_by_same : (t u : Test) (v : Value) → same_test t u ≡ true → meets t v ≡ Val true → meets u v ≡ Val true
meets_by_same (Literally l) (Literally m) v s e = literal_same l m v e s
meets_by_same (Tagged w a) (Tagged x b) (TagV tag vs) s e =
    let p = of_parts tag vs a (val_same e) in
    let q = test_parts a b s in
    ap (λ b. Val b) (is_of_both tag vs b (p.0 ∙ q.0) (p.1 ∙ q.1))
  where
    val_same : {a b : Bool} → Val a ≡ Val b → a ≡ b
    val_same e = cc
meets_by_same (Literally l) (Tagged x b) v s e = absurd (cc)
meets_by_same (Tagged w a) (Literally m) v s e = absurd (cc)
meets_by_same (Tagged w a) (Tagged x b) (IntV n) s e = absurd (cc)
meets_by_same (Tagged w a) (Tagged x b) (TextV t) s e = absurd (cc)
meets_by_same (Tagged w a) (Tagged x b) (RecordV fs) s e = absurd (cc)
meets_by_same (Tagged w a) (Tagged x b) (CloV env ps c) s e = absurd (cc)
meets_by_same (Tagged w a) (Tagged x b) (KnownV k vs) s e = absurd (cc)
meets_by_same (Tagged w a) (Tagged x b) (WireV y) s e = absurd (cc)

-- a test that stands there is not met, where none is
none_has : (v : Value) (ts : List Test) → NoneMeets v ts → (t : Test) → has_test t ts ≡ true → meets t v ≡ Val true → ⊥
none_has v [] none t h e = absurd (cc)
none_has v (u ∷ ts) none t h e = go (same_test t u) refl h (λ h. none_has v ts none.1 t h e)
  where
    go : (b : Bool) → same_test t u ≡ b → (if b then true else has_test t ts) ≡ true → (has_test t ts ≡ true → ⊥) → ⊥
    go true is h rest = none.0 (meets_by_same t u v is e)
    go false is h rest = rest h

-- the value's own constructor is one of the union's
own_test : (u w : Union) (tag : Tag) (vs : Values) (b : Alternative) (as' : List Alternative) → is_of_one tag vs as' ≡ true → is_of tag vs b ≡ true → has_test (Tagged w b) (tests_of_union u as') ≡ true
own_test u w tag vs b [] one is = absurd (cc)
own_test u w tag vs b (a ∷ as') one is = go (same_tag b.tag a.tag && nat_eq b.arity a.arity) (is_of tag vs a) refl refl one (own_test u w tag vs b as')
  where
    go : (same this : Bool) → (same_tag b.tag a.tag && nat_eq b.arity a.arity) ≡ same → is_of tag vs a ≡ this → (this || is_of_one tag vs as') ≡ true → (is_of_one tag vs as' ≡ true → is_of tag vs b ≡ true → has_test (Tagged w b) (tests_of_union u as') ≡ true) → (if same then true else has_test (Tagged w b) (tests_of_union u as')) ≡ true
    go true this s i one rest = refl
    go false false s i one rest = rest one is
    go false true s i one rest =
        let p = of_parts tag vs a i in
        let q = of_parts tag vs b is in
        let e = test_both b a (sym q.0 ∙ p.0) (sym q.1 ∙ p.1) in
        absurd (cc)

pub literal_apart : (l : Literal) (u : Union) (as' : List Alternative) → has_test (Literally l) (tests_of_union u as') ≡ false
literal_apart l u [] = refl
literal_apart l u (a ∷ as') = literal_apart l u as'

-- a test that the value meets is alike the first
met_alike : {first : Test} {v : Value} → Kinded first v → (t : Test) → meets t v ≡ Val true → is_alike first t ≡ true
met_alike kind_int (Literally m) e = refl
met_alike kind_char (Literally m) e = refl
met_alike kind_text (Literally m) e = refl
met_alike kind_int (Tagged u a) e = absurd (cc)
met_alike kind_char (Tagged u a) e = absurd (cc)
met_alike kind_text (Tagged u a) e = absurd (cc)
met_alike (kind_tag {u} {tag} {vs} one) (Tagged w b) e = own_test u w tag vs b (alternatives u) one (val_same e)
  where
    val_same : {a b : Bool} → Val a ≡ Val b → a ≡ b
    val_same e = cc
met_alike (kind_tag one) (Literally (literal.Int i)) e = absurd (cc)
met_alike (kind_tag one) (Literally (literal.Char i)) e = absurd (cc)
met_alike (kind_tag one) (Literally (literal.Text i)) e = absurd (cc)

-- a test that the column has, where it is alike the first, is not met, where none is
not_met : (first : Test) (v : Value) → Kinded first v → (ts : List Test) → NoneMeets v ts → (t : Test) → (is_alike first t ≡ true → has_test t ts ≡ true) → meets t v ≡ Val true → ⊥
not_met first v k ts none t has e = none_has v ts none t (has (met_alike k t e)) e

-- where each constructor of the union is tested, one is met
some_met : (u : Union) (tag : Tag) (vs : Values) (ts : List Test) → NoneMeets (TagV tag vs) ts → (as' : List Alternative) → is_of_one tag vs as' ≡ true → have_all ts (tests_of_union u as') ≡ true → ⊥
some_met u tag vs ts none [] one w = absurd (cc)
some_met u tag vs ts none (b ∷ as') one w =
    let both = both_true (has_test (Tagged u b) ts) (have_all ts (tests_of_union u as')) w in
    go (is_of tag vs b) refl one both.0 (λ one. some_met u tag vs ts none as' one both.1)
  where
    go : (this : Bool) → is_of tag vs b ≡ this → (this || is_of_one tag vs as') ≡ true → has_test (Tagged u b) ts ≡ true → (is_of_one tag vs as' ≡ true → ⊥) → ⊥
    go true is one has rest = none_has (TagV tag vs) ts none (Tagged u b) has (ap (λ b. Val b) is)
    go false is one has rest = rest one

pub whole_met : {first : Test} {v : Value} → Kinded first v → (ts : List Test) → is_whole first ts ≡ true → NoneMeets v ts → ⊥
whole_met kind_int ts w none = absurd (cc)
whole_met kind_char ts w none = absurd (cc)
whole_met kind_text ts w none = absurd (cc)
whole_met (kind_tag {u} {tag} {vs} one) ts w none = some_met u tag vs ts none (alternatives u) one w

-- The tests of a column have each that is alike the first.

has_more : (t : Test) (ts us : List Test) → has_test t ts ≡ true → has_test t (ts ++ us) ≡ true
has_more t [] us h = absurd (cc)
has_more t (x ∷ ts) us h = go (same_test t x) h (has_more t ts us)
  where
    go : (b : Bool) → (if b then true else has_test t ts) ≡ true → (has_test t ts ≡ true → has_test t (ts ++ us) ≡ true) → (if b then true else has_test t (ts ++ us)) ≡ true
    go true h rest = refl
    go false h rest = rest h

test_itself : (t : Test) → same_test t t ≡ true
test_itself (Literally (literal.Int i)) = literal_itself' i
  where
    literal_itself' : (i : ℤ) → is_number i i ≡ true
    literal_itself' i = number_itself i
test_itself (Literally (literal.Char s)) = (bytes_eq-Decides s s).1 refl
test_itself (Literally (literal.Text s)) = (bytes_eq-Decides s s).1 refl
test_itself (Tagged u a) = test_both a a refl refl

has_last : (t : Test) (ts : List Test) → has_test t (ts ++ t ∷ []) ≡ true
has_last t [] = ap (λ b. if b then true else false) (test_itself t)
has_last t (x ∷ ts) = go (same_test t x) (has_last t ts)
  where
    go : (b : Bool) → has_test t (ts ++ t ∷ []) ≡ true → (if b then true else has_test t (ts ++ t ∷ [])) ≡ true
    go true h = refl
    go false h = h

added_keeps : (first t : Test) (a : Ask) (ts : List Test) → has_test t ts ≡ true → has_test t (add_test first a ts) ≡ true
added_keeps first t Nothing ts h = h
added_keeps first t (First u ps) ts h = go (is_alike first u) (has_test u ts)
  where
    go : (b c : Bool) → has_test t (if b then (if c then ts else ts ++ u ∷ []) else ts) ≡ true
    go true true = h
    go true false = has_more t ts (u ∷ []) h
    go false c = h

added_has : (first t : Test) (ps : List Pattern) (ts : List Test) → is_alike first t ≡ true → has_test t (add_test first (First t ps) ts) ≡ true
added_has first t ps ts alike = go (is_alike first t) (has_test t ts) alike refl
  where
    go : (b c : Bool) → b ≡ true → has_test t ts ≡ c → has_test t (if b then (if c then ts else ts ++ t ∷ []) else ts) ≡ true
    go true true e f = f
    go true false e f = has_last t ts
    go false c e f = absurd (cc)

all_keep : (first t : Test) (column : ℕ) (rows : List Row) (ts : List Test) → has_test t ts ≡ true → has_test t (tests_in first column ts rows) ≡ true
all_keep first t column [] ts h = h
all_keep first t column (row ∷ rows) ts h = all_keep first t column rows (add_test first (ask_at column row.patterns) ts) (added_keeps first t (ask_at column row.patterns) ts h)

abbrev pub Covered : Test → List Test → Ask → Type 0
Covered first ts Nothing = Unit {0}
Covered first ts (First t ps) = is_alike first t ≡ true → has_test t ts ≡ true

abbrev pub EachCovered : Test → List Test → ℕ → List Row → Type 0
EachCovered first ts column [] = Unit {0}
EachCovered first ts column (row ∷ rows) = Covered first ts (ask_at column row.patterns) × EachCovered first ts column rows

pub covers : (first : Test) (column : ℕ) (rows : List Row) (ts : List Test) → EachCovered first (tests_in first column ts rows) column rows
covers first column [] ts = tt
covers first column (row ∷ rows) ts = (go (ask_at column row.patterns), covers first column rows (add_test first (ask_at column row.patterns) ts))
  where
    go : (a : Ask) → Covered first (tests_in first column (add_test first a ts) rows) a
    go Nothing = tt
    go (First t ps) = λ alike. all_keep first t column rows (add_test first (First t ps) ts) (added_has first t ps ts alike)

-- Each of them is alike the first.
abbrev pub Alike : Test → List Test → Type 0
Alike first ts = Each (λ u. is_alike first u ≡ true) ts

alike_last : (first u : Test) (ts : List Test) → Alike first ts → is_alike first u ≡ true → Alike first (ts ++ u ∷ [])
alike_last first u [] each e = (e, tt)
alike_last first u (t ∷ ts) each e = (each.0, alike_last first u ts each.1 e)

pub tests_alike : (first : Test) (column : ℕ) (rows : List Row) (ts : List Test) → Alike first ts → Alike first (tests_in first column ts rows)
tests_alike first column [] ts each = each
tests_alike first column (row ∷ rows) ts each = tests_alike first column rows (add_test first (ask_at column row.patterns) ts) (go (ask_at column row.patterns))
  where
    inner : (u : Test) (b c : Bool) → is_alike first u ≡ b → Alike first (if b then (if c then ts else ts ++ u ∷ []) else ts)
    inner u true true e = each
    inner u true false e = alike_last first u ts each e
    inner u false c e = each

    go : (a : Ask) → Alike first (add_test first a ts)
    go Nothing = each
    go (First u ps) = inner u (is_alike first u) (has_test u ts) refl

-- what is left is kept, where none is met
fails_at : (first : Test) (v : Value) → Kinded first v → (ts : List Test) → NoneMeets v ts → (a : Ask) → Covered first ts a → Fails v a
fails_at first v k ts none Nothing c = tt
fails_at first v k ts none (First t ps) c = not_met first v k ts none t c

at_by_rest : (v : Value) (column : ℕ) (ps : List Pattern) → Fails v (ask_at column ps) → KeptAt left_over v [] column ps
at_by_rest v column [] f = tt
at_by_rest v zero (p ∷ ps) f = kept_by_rest v p f
at_by_rest v (suc column) (p ∷ ps) f = at_by_rest v column ps f

pub each_by_rest : (first : Test) (v : Value) → Kinded first v → (ts : List Test) → NoneMeets v ts → (column : ℕ) (rows : List Row) → EachCovered first ts column rows → EachKept left_over v [] column rows
each_by_rest first v k ts none column [] c = tt
each_by_rest first v k ts none column (row ∷ rows) c =
    (at_by_rest v column row.patterns (fails_at first v k ts none (ask_at column row.patterns) c.0), each_by_rest first v k ts none column rows c.1)

at_by_test : {t : Test} {v : Value} {fs : List Value} → Holds t v fs → (column : ℕ) (ps : List Pattern) → KeptAt (left_by t) v fs column ps
at_by_test h column [] = tt
at_by_test h zero (p ∷ ps) = kept_by_test h p
at_by_test h (suc column) (p ∷ ps) = at_by_test h column ps

pub each_by_test : {t : Test} {v : Value} {fs : List Value} → Holds t v fs → (column : ℕ) (rows : List Row) → EachKept (left_by t) v fs column rows
each_by_test h column [] = tt
each_by_test h column (row ∷ rows) = (at_by_test h column row.patterns, each_by_test h column rows)

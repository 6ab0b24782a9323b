-- What rows of patterns pick of values, and that it is kept where a column is narrowed.
use Rattle.std.proofs.Common.{◌≡◌, ℕ, zero, suc, pos, negsuc, List, [], ◌∷◌, ◌++◌, Bool, true, false, nat_eq, refl, sym, ap, ◌∙◌, subst, Option, Some, None}
use Rattle.std.specs.Prelude.{if◌then◌else◌, ◌&&◌, replicate}
use Rattle.std.specs.Str.{bytes_eq}
use Rattle.std.proofs.lemmas.Bool.{eqb-true}
use Rattle.std.proofs.lemmas.Bool.Decides.{Decides-eqb}
use Rattle.std.proofs.lemmas.Slice.Eq.{bytes_eq-Decides}
use Rattle.runs.specs.Ends.{End, Val, Crashed, OutOfFuel, Unsafe, Stuck, then_do}
use Rattle.elm_canon.specs.declared.unions.Tag.{Tag}
use Rattle.elm_canon.specs.declared.unions.Tag.TheVariants.{Number, Truth, Blank}
use Rattle.elm_canon.specs.declared.unions.Alternative.{Alternative}
use Rattle.elm_canon.specs.Unions.{Union, alternatives}
use Rattle.elm_canon.specs.declared.tree.Literal.{Literal}
use Rattle.elm_canon.specs.declared.tree.Literal.TheVariants as literal
use Rattle.elm_canon.specs.Tree.{Pattern, Anything, Named, As, Exactly, Construct, FieldsOf, LocatedPattern, Patterns, NoPattern, MorePattern}
use Rattle.elm_meaning.specs.Values.{Value, IntV, TextV, TagV, RecordV, CloV, KnownV, WireV, Values, NoValue, MoreValue, count_of}
use Rattle.runs.specs.Numbers.{is_number}
use Rattle.elm_meaning.specs.Seen.{same_tag}
use Rattle.elm_meaning.specs.Match.{is_literal, is_of, is_of_one}
use Rattle.js_emit.specs.Matrix.{Test, Literally, Tagged, Ask, Nothing, First, ask, list_of, same_literal, same_test, arity_of, Row, left_by, left_over, in_place, after_one, narrowed, keep, narrow}

-- both, from left to right
abbrev pub both : End Bool → End Bool → End Bool
both o p = then_do o (λ t. if t then p else Val false)

abbrev mutual
  -- the pattern matches
  pub fit : Pattern → Value → End Bool
  fit Anything v = Val true
  fit (Named x) v = Val true
  fit (As p x) v = fit p v
  fit (Exactly l) v = is_literal l v
  fit (Construct u a ps) (TagV tag vs) = if is_of_one tag vs (alternatives u) then (if is_of tag vs a then fit_all ps vs else Val false) else Stuck
  fit (Construct u a ps) v = Stuck
  fit (FieldsOf xs) v = Val true
  fit (LocatedPattern place p) v = fit p v

  pub fit_all : Patterns → Values → End Bool
  fit_all NoPattern NoValue = Val true
  fit_all (MorePattern p ps) (MoreValue v vs) = both (fit p v) (fit_all ps vs)
  fit_all _ _ = Stuck

abbrev pub fit_row : List Pattern → List Value → End Bool
fit_row [] [] = Val true
fit_row (p ∷ ps) (v ∷ vs) = both (fit p v) (fit_row ps vs)
fit_row _ _ = Stuck

abbrev pub values : Values → List Value
values NoValue = []
values (MoreValue v vs) = v ∷ values vs

abbrev pub pick_by : End Bool → ℕ → End ℕ → End ℕ
pick_by o k rest = then_do o (λ t. if t then Val k else rest)

-- the branch of the first row that fits
abbrev pub pick : List Row → List Value → End ℕ
pick [] vs = Stuck
pick (row ∷ rows) vs = pick_by (fit_row row.patterns vs) row.branch (pick rows vs)

-- what the first gives the second gives
abbrev pub Gives : {A : Type 0} → End A → End A → Type 0
Gives {A} o q = (a : A) → o ≡ Val a → q ≡ Val a

pub stuck_gives : {A : Type 0} {q : End A} → Gives Stuck q
stuck_gives a e = absurd (cc)

pub both_gives : (o : End Bool) {p q : End Bool} → Gives p q → Gives (both o p) (both o q)
both_gives (Val true) g = g
both_gives (Val false) g = λ a e. e
both_gives (Crashed t) g = λ a e. absurd (cc)
both_gives OutOfFuel g = λ a e. absurd (cc)
both_gives Unsafe g = λ a e. absurd (cc)
both_gives Stuck g = λ a e. absurd (cc)

-- nothing but false comes of it
both_false : (o p : End Bool) → Gives o (Val false) → Gives (both o p) (Val false)
both_false (Val true) p g = λ a e. let f = g true refl in absurd (cc)
both_false (Val false) p g = λ a e. e
both_false (Crashed t) p g = λ a e. absurd (cc)
both_false OutOfFuel p g = λ a e. absurd (cc)
both_false Unsafe p g = λ a e. absurd (cc)
both_false Stuck p g = λ a e. absurd (cc)

then_false : (o : End Bool) {p : End Bool} → Gives p (Val false) → Gives (both o p) (Val false)
then_false (Val true) g = g
then_false (Val false) g = λ a e. e
then_false (Crashed t) g = λ a e. absurd (cc)
then_false OutOfFuel g = λ a e. absurd (cc)
then_false Unsafe g = λ a e. absurd (cc)
then_false Stuck g = λ a e. absurd (cc)

pick_gives : (o q : End Bool) (k : ℕ) {r s : End ℕ} → Gives o q → Gives r s → Gives (pick_by o k r) (pick_by q k s)
pick_gives (Val t) q k {r} {s} g h = subst (λ z. Gives (pick_by (Val t) k r) (pick_by z k s)) (sym (g t refl)) (same t)
  where
    same : (t : Bool) → Gives (if t then Val k else r) (if t then Val k else s)
    same true = λ a e. e
    same false = h
pick_gives (Crashed t) q k g h = λ a e. absurd (cc)
pick_gives OutOfFuel q k g h = λ a e. absurd (cc)
pick_gives Unsafe q k g h = λ a e. absurd (cc)
pick_gives Stuck q k g h = λ a e. absurd (cc)

pick_dropped : (o : End Bool) (k : ℕ) {r s : End ℕ} → Gives o (Val false) → Gives r s → Gives (pick_by o k r) s
pick_dropped (Val true) k g h = λ a e. let f = g true refl in absurd (cc)
pick_dropped (Val false) k g h = h
pick_dropped (Crashed t) k g h = λ a e. absurd (cc)
pick_dropped OutOfFuel k g h = λ a e. absurd (cc)
pick_dropped Unsafe k g h = λ a e. absurd (cc)
pick_dropped Stuck k g h = λ a e. absurd (cc)

-- Narrowing.

-- what is left of a pattern, for the value v with the parts fs
abbrev pub Kept : Value → List Value → Pattern → Option (List Pattern) → Type 0
Kept v fs p (Some qs) = (ps : List Pattern) (vs : List Value) → Gives (both (fit p v) (fit_row ps vs)) (fit_row (qs ++ ps) (fs ++ vs))
Kept v fs p None = Gives (fit p v) (Val false)

abbrev pub KeptAt : (Ask → Option (List Pattern)) → Value → List Value → ℕ → List Pattern → Type 0
KeptAt left v fs column [] = Unit {0}
KeptAt left v fs zero (p ∷ ps) = Kept v fs p (left (ask p))
KeptAt left v fs (suc column) (p ∷ ps) = KeptAt left v fs column ps

-- the values with parts in place of the one of a column
abbrev pub replaced : List Value → ℕ → List Value → List Value
replaced fs column [] = []
replaced fs zero (v ∷ vs) = fs ++ vs
replaced fs (suc column) (v ∷ vs) = v ∷ replaced fs column vs

abbrev pub value_at : ℕ → List Value → Option Value
value_at column [] = None
value_at zero (v ∷ vs) = Some v
value_at (suc column) (v ∷ vs) = value_at column vs

abbrev KeptRow : List Pattern → List Value → List Value → Option (List Pattern) → Type 0
KeptRow ps vs vs' (Some qs) = Gives (fit_row ps vs) (fit_row qs vs')
KeptRow ps vs vs' None = Gives (fit_row ps vs) (Val false)

some_same : {A : Type 0} {a b : A} → Some a ≡ Some b → a ≡ b
some_same e = cc

narrowed_kept : (left : Ask → Option (List Pattern)) (v : Value) (fs : List Value) (column : ℕ) (ps : List Pattern) (vs : List Value) → value_at column vs ≡ Some v → KeptAt left v fs column ps → KeptRow ps vs (replaced fs column vs) (narrowed left column ps)
narrowed_kept left v fs column [] [] at k = absurd (cc)
narrowed_kept left v fs zero [] (w ∷ vs) at k = λ a e. absurd (cc)
narrowed_kept left v fs (suc column) [] (w ∷ vs) at k = λ a e. absurd (cc)
narrowed_kept left v fs zero (p ∷ ps) [] at k = absurd (cc)
narrowed_kept left v fs (suc column) (p ∷ ps) [] at k = absurd (cc)
narrowed_kept left v fs zero (p ∷ ps) (w ∷ vs) at k =
    subst (λ w. KeptRow (p ∷ ps) (w ∷ vs) (fs ++ vs) (in_place (left (ask p)) ps)) (sym (some_same at)) (go (left (ask p)) k)
  where
    go : (o : Option (List Pattern)) → Kept v fs p o → KeptRow (p ∷ ps) (v ∷ vs) (fs ++ vs) (in_place o ps)
    go (Some qs) k = k ps vs
    go None k = both_false (fit p v) (fit_row ps vs) k
narrowed_kept left v fs (suc column) (p ∷ ps) (w ∷ vs) at k = go (narrowed left column ps) (narrowed_kept left v fs column ps vs at k)
  where
    go : (o : Option (List Pattern)) → KeptRow ps vs (replaced fs column vs) o → KeptRow (p ∷ ps) (w ∷ vs) (w ∷ replaced fs column vs) (after_one p o)
    go (Some qs) k = both_gives (fit p w) k
    go None k = then_false (fit p w) k

abbrev pub EachKept : (Ask → Option (List Pattern)) → Value → List Value → ℕ → List Row → Type 0
EachKept left v fs column [] = Unit {0}
EachKept left v fs column (row ∷ rows) = KeptAt left v fs column row.patterns × EachKept left v fs column rows

-- the rows that are left pick the same
pub narrow_kept : (left : Ask → Option (List Pattern)) (v : Value) (fs : List Value) (column : ℕ) (rows : List Row) (vs : List Value) → value_at column vs ≡ Some v → EachKept left v fs column rows → Gives (pick rows vs) (pick (narrow left column rows) (replaced fs column vs))
narrow_kept left v fs column [] vs at k = λ a e. absurd (cc)
narrow_kept left v fs column (row ∷ rows) vs at k =
    go (narrowed left column row.patterns) (narrowed_kept left v fs column row.patterns vs at k.0) (narrow_kept left v fs column rows vs at k.1)
  where
    vs' : List Value
    vs' = replaced fs column vs

    go : (o : Option (List Pattern)) → KeptRow row.patterns vs (replaced fs column vs) o → Gives (pick rows vs) (pick (narrow left column rows) (replaced fs column vs)) → Gives (pick (row ∷ rows) vs) (pick (keep o row.branch (narrow left column rows)) (replaced fs column vs))
    go (Some qs) k rest = pick_gives (fit_row row.patterns vs) (fit_row qs (replaced fs column vs)) row.branch k rest
    go None k rest = pick_dropped (fit_row row.patterns vs) row.branch k rest

-- A test that holds of a value, with the parts that are looked at next.
pub data Holds : Test → Value → List Value → Type 0 where
  holds_literal : {l : Literal} {v : Value} → is_literal l v ≡ Val true → Holds (Literally l) v []
  holds_tag : {u : Union} {a : Alternative} {tag : Tag} {vs : Values} → is_of tag vs a ≡ true → Holds (Tagged u a) (TagV tag vs) (values vs)

-- equalities that tests tell

pub both_true : (a b : Bool) → (a && b) ≡ true → (a ≡ true) × (b ≡ true)
both_true true b e = (refl, e)
both_true false b e = absurd (cc)

pub number_same : (m n : _) → is_number m n ≡ true → m ≡ n
number_same (pos m) (pos n) e = ap (λ i. pos i) (eqb-true m n e)
number_same (negsuc m) (negsuc n) e = ap (λ i. negsuc i) (eqb-true m n e)
number_same (pos m) (negsuc n) e = absurd (cc)
number_same (negsuc m) (pos n) e = absurd (cc)

pub tag_same : (s t : Tag) → same_tag s t ≡ true → s ≡ t
tag_same (Number m) (Number n) e = ap Number (number_same m n e)
tag_same (Truth true) (Truth true) e = refl
tag_same (Truth true) (Truth false) e = absurd (cc)
tag_same (Truth false) (Truth true) e = absurd (cc)
tag_same (Truth false) (Truth false) e = refl
tag_same Blank Blank e = refl
tag_same (Number m) (Truth b) e = absurd (cc)
tag_same (Number m) Blank e = absurd (cc)
tag_same (Truth true) (Number n) e = absurd (cc)
tag_same (Truth false) (Number n) e = absurd (cc)
tag_same (Truth true) Blank e = absurd (cc)
tag_same (Truth false) Blank e = absurd (cc)
tag_same Blank (Number n) e = absurd (cc)
tag_same Blank (Truth b) e = absurd (cc)

truth_same : (b c : Bool) → (b ≡ true → c ≡ true) → (c ≡ true → b ≡ true) → b ≡ c
truth_same true c f g = sym (f refl)
truth_same false true f g = g refl
truth_same false false f g = refl

nat_same : (m n : ℕ) → nat_eq m n ≡ true → m ≡ n
nat_same m n e = eqb-true m n e

text_same : (s t : List ℕ) → bytes_eq s t ≡ true → s ≡ t
text_same s t e = (bytes_eq-Decides s t).0 e

text_itself : (s : List ℕ) → bytes_eq s s ≡ true
text_itself s = (bytes_eq-Decides s s).1 refl

both_texts : (s r t : List ℕ) → Val (bytes_eq t s) ≡ Val true → Val (bytes_eq t r) ≡ Val true → bytes_eq s r ≡ true
both_texts s r t e f = subst (λ q. bytes_eq s q ≡ true) (sym (text_same t s (val_same e)) ∙ text_same t r (val_same f)) (text_itself s)
  where
    val_same : {a b : Bool} → Val a ≡ Val b → a ≡ b
    val_same e = cc

nat_itself : (n : ℕ) → nat_eq n n ≡ true
nat_itself n = (Decides-eqb n n).1 refl

pub number_itself : (m : _) → is_number m m ≡ true
number_itself (pos m) = nat_itself m
number_itself (negsuc m) = nat_itself m

pub tag_itself : (t : Tag) → same_tag t t ≡ true
tag_itself (Number m) = number_itself m
tag_itself (Truth true) = refl
tag_itself (Truth false) = refl
tag_itself Blank = refl

-- a value is of a constructor by its tag and its number of fields
pub of_parts : (tag : Tag) (vs : Values) (a : Alternative) → is_of tag vs a ≡ true → (tag ≡ a.tag) × (count_of vs ≡ a.arity)
of_parts tag vs a e = let r = both_true (same_tag tag a.tag) (nat_eq (count_of vs) a.arity) e in (tag_same tag a.tag r.0, nat_same (count_of vs) a.arity r.1)

pub is_of_both : (tag : Tag) (vs : Values) (a : Alternative) → tag ≡ a.tag → count_of vs ≡ a.arity → is_of tag vs a ≡ true
is_of_both tag vs a e f =
    subst (λ t. (same_tag t a.tag && nat_eq (count_of vs) a.arity) ≡ true) (sym e)
    (subst (λ n. (same_tag a.tag a.tag && nat_eq n a.arity) ≡ true) (sym f)
    (ap (λ t. t && nat_eq a.arity a.arity) (tag_itself a.tag) ∙ nat_itself a.arity))

pub test_parts : (a b : Alternative) → (same_tag a.tag b.tag && nat_eq a.arity b.arity) ≡ true → (a.tag ≡ b.tag) × (a.arity ≡ b.arity)
test_parts a b e = let r = both_true (same_tag a.tag b.tag) (nat_eq a.arity b.arity) e in (tag_same a.tag b.tag r.0, nat_same a.arity b.arity r.1)

pub test_both : (a b : Alternative) → a.tag ≡ b.tag → a.arity ≡ b.arity → (same_tag a.tag b.tag && nat_eq a.arity b.arity) ≡ true
test_both a b e f =
    subst (λ t. (same_tag t b.tag && nat_eq a.arity b.arity) ≡ true) (sym e)
    (subst (λ n. (same_tag b.tag b.tag && nat_eq n b.arity) ≡ true) (sym f)
    (ap (λ t. t && nat_eq b.arity b.arity) (tag_itself b.tag) ∙ nat_itself b.arity))

-- parts and then the rest
fit_append : (ps : Patterns) (vs : Values) (qs : List Pattern) (ws : List Value) → Gives (both (fit_all ps vs) (fit_row qs ws)) (fit_row (list_of ps ++ qs) (values vs ++ ws))
fit_append NoPattern NoValue qs ws = λ a e. e
fit_append NoPattern (MoreValue v vs) qs ws = λ a e. absurd (cc)
fit_append (MorePattern p ps) NoValue qs ws = λ a e. absurd (cc)
fit_append (MorePattern p ps) (MoreValue v vs) qs ws = go (fit p v) (fit_append ps vs qs ws)
  where
    go : (o : End Bool) → Gives (both (fit_all ps vs) (fit_row qs ws)) (fit_row (list_of ps ++ qs) (values vs ++ ws)) → Gives (both (both o (fit_all ps vs)) (fit_row qs ws)) (both o (fit_row (list_of ps ++ qs) (values vs ++ ws)))
    go (Val true) g = g
    go (Val false) g = λ a e. e
    go (Crashed t) g = λ a e. absurd (cc)
    go OutOfFuel g = λ a e. absurd (cc)
    go Unsafe g = λ a e. absurd (cc)
    go Stuck g = λ a e. absurd (cc)

-- parts of which nothing is asked
anything_fits : (n : ℕ) (vs : Values) → count_of vs ≡ n → (ps : List Pattern) (ws : List Value) → fit_row (replicate n Anything ++ ps) (values vs ++ ws) ≡ fit_row ps ws
anything_fits zero NoValue e ps ws = refl
anything_fits zero (MoreValue v vs) e ps ws = absurd (cc)
anything_fits (suc n) NoValue e ps ws = absurd (cc)
anything_fits (suc n) (MoreValue v vs) e ps ws = anything_fits n vs (cc) ps ws

-- a pattern that asks for nothing
free_kept : {u : Test} {v : Value} {fs : List Value} → Holds u v fs → (ps : List Pattern) (ws : List Value) → Gives (fit_row ps ws) (fit_row (replicate (arity_of u) Anything ++ ps) (fs ++ ws))
free_kept (holds_literal e) ps ws = λ a e. e
free_kept (holds_tag {a} {tag} {vs} e) ps ws = λ b g. anything_fits a.arity vs (of_parts tag vs a e).1 ps ws ∙ g

-- the same of literals

pub literal_same : (l m : Literal) (v : Value) → is_literal l v ≡ Val true → same_literal l m ≡ true → is_literal m v ≡ Val true
literal_same (literal.Int i) (literal.Int j) (IntV n) e f = ap (λ k. Val (is_number n k)) (sym (number_same i j f)) ∙ e
literal_same (literal.Int i) (literal.Int j) (TextV t) e f = absurd (cc)
literal_same (literal.Int i) (literal.Int j) (TagV t vs) e f = absurd (cc)
literal_same (literal.Int i) (literal.Int j) (RecordV fs) e f = absurd (cc)
literal_same (literal.Int i) (literal.Int j) (CloV env ps b) e f = absurd (cc)
literal_same (literal.Int i) (literal.Int j) (KnownV k vs) e f = absurd (cc)
literal_same (literal.Int i) (literal.Int j) (WireV w) e f = absurd (cc)
literal_same (literal.Int i) (literal.Char s) v e f = absurd (cc)
literal_same (literal.Int i) (literal.Text s) v e f = absurd (cc)
literal_same (literal.Char s) (literal.Int j) v e f = absurd (cc)
literal_same (literal.Text s) (literal.Int j) v e f = absurd (cc)
literal_same (literal.Char s) (literal.Char r) v e f = subst (λ r. is_literal (literal.Char r) v ≡ Val true) (text_same s r f) e
literal_same (literal.Char s) (literal.Text r) v e f = subst (λ r. is_literal (literal.Text r) v ≡ Val true) (text_same s r f) (char_as_text s v e)
  where
    char_as_text : (s : List ℕ) (v : Value) → is_literal (literal.Char s) v ≡ Val true → is_literal (literal.Text s) v ≡ Val true
    char_as_text s (TextV t) e = e
    char_as_text s (IntV n) e = absurd (cc)
    char_as_text s (TagV t vs) e = absurd (cc)
    char_as_text s (RecordV fs) e = absurd (cc)
    char_as_text s (CloV env ps b) e = absurd (cc)
    char_as_text s (KnownV k vs) e = absurd (cc)
    char_as_text s (WireV w) e = absurd (cc)
literal_same (literal.Text s) (literal.Text r) v e f = subst (λ r. is_literal (literal.Text r) v ≡ Val true) (text_same s r f) e
literal_same (literal.Text s) (literal.Char r) v e f = subst (λ r. is_literal (literal.Char r) v ≡ Val true) (text_same s r f) (text_as_char s v e)
  where
    text_as_char : (s : List ℕ) (v : Value) → is_literal (literal.Text s) v ≡ Val true → is_literal (literal.Char s) v ≡ Val true
    text_as_char s (TextV t) e = e
    text_as_char s (IntV n) e = absurd (cc)
    text_as_char s (TagV t vs) e = absurd (cc)
    text_as_char s (RecordV fs) e = absurd (cc)
    text_as_char s (CloV env ps b) e = absurd (cc)
    text_as_char s (KnownV k vs) e = absurd (cc)
    text_as_char s (WireV w) e = absurd (cc)

-- a literal that is not the same does not match
literal_itself : (l m : Literal) (v : Value) → is_literal l v ≡ Val true → is_literal m v ≡ Val true → same_literal l m ≡ true
literal_itself (literal.Int i) (literal.Int j) (IntV n) e f = subst (λ k. is_number i k ≡ true) (sym (number_same n i (val_same e)) ∙ number_same n j (val_same f)) (number_itself i)
  where
    val_same : {a b : Bool} → Val a ≡ Val b → a ≡ b
    val_same e = cc
literal_itself (literal.Int i) (literal.Char s) (IntV n) e f = absurd (cc)
literal_itself (literal.Int i) (literal.Text s) (IntV n) e f = absurd (cc)
literal_itself (literal.Char s) m (IntV n) e f = absurd (cc)
literal_itself (literal.Text s) m (IntV n) e f = absurd (cc)
literal_itself (literal.Int i) m (TextV t) e f = absurd (cc)
literal_itself (literal.Char s) (literal.Int j) (TextV t) e f = absurd (cc)
literal_itself (literal.Text s) (literal.Int j) (TextV t) e f = absurd (cc)
literal_itself (literal.Char s) (literal.Char r) (TextV t) e f = both_texts s r t e f
literal_itself (literal.Char s) (literal.Text r) (TextV t) e f = both_texts s r t e f
literal_itself (literal.Text s) (literal.Char r) (TextV t) e f = both_texts s r t e f
literal_itself (literal.Text s) (literal.Text r) (TextV t) e f = both_texts s r t e f
literal_itself (literal.Int i) m (TagV t vs) e f = absurd (cc)
literal_itself (literal.Char i) m (TagV t vs) e f = absurd (cc)
literal_itself (literal.Text i) m (TagV t vs) e f = absurd (cc)
literal_itself (literal.Int i) m (RecordV fs) e f = absurd (cc)
literal_itself (literal.Char i) m (RecordV fs) e f = absurd (cc)
literal_itself (literal.Text i) m (RecordV fs) e f = absurd (cc)
literal_itself (literal.Int i) m (CloV env ps b) e f = absurd (cc)
literal_itself (literal.Char i) m (CloV env ps b) e f = absurd (cc)
literal_itself (literal.Text i) m (CloV env ps b) e f = absurd (cc)
literal_itself (literal.Int i) m (KnownV k vs) e f = absurd (cc)
literal_itself (literal.Char i) m (KnownV k vs) e f = absurd (cc)
literal_itself (literal.Text i) m (KnownV k vs) e f = absurd (cc)
literal_itself (literal.Int i) m (WireV w) e f = absurd (cc)
literal_itself (literal.Char i) m (WireV w) e f = absurd (cc)
literal_itself (literal.Text i) m (WireV w) e f = absurd (cc)

-- what may be true only if it is not
never_true : (o : End Bool) → (o ≡ Val true → ⊥) → Gives o (Val false)
never_true (Val true) fails = absurd (fails refl)
never_true (Val false) fails = λ a e. e
never_true (Crashed t) fails = λ a e. absurd (cc)
never_true OutOfFuel fails = λ a e. absurd (cc)
never_true Unsafe fails = λ a e. absurd (cc)
never_true Stuck fails = λ a e. absurd (cc)

true≢false' : {A : Type 0} (b : Bool) → b ≡ true → b ≡ false → A
true≢false' b e f = absurd (cc)

-- a pattern's test, of a value
abbrev pub meets : Test → Value → End Bool
meets (Literally l) v = is_literal l v
meets (Tagged u a) (TagV tag vs) = Val (is_of tag vs a)
meets (Tagged u a) v = Stuck

pub holds_meets : {t : Test} {v : Value} {fs : List Value} → Holds t v fs → meets t v ≡ Val true
holds_meets (holds_literal e) = e
holds_meets (holds_tag e) = ap (λ b. Val b) e

-- a constructor's pattern fits only what meets its test
construct_meets : (u : Union) (a : Alternative) (ps : Patterns) (v : Value) → (meets (Tagged u a) v ≡ Val true → ⊥) → Gives (fit (Construct u a ps) v) (Val false)
construct_meets u a ps (TagV tag vs) fails = go (is_of_one tag vs (alternatives u)) (is_of tag vs a) refl
  where
    go : (one this : Bool) → is_of tag vs a ≡ this → Gives (if one then (if this then fit_all ps vs else Val false) else Stuck) (Val false)
    go true true is = absurd (fails (ap (λ b. Val b) is))
    go true false is = λ b e. e
    go false this is = λ b e. absurd (cc)
construct_meets u a ps (IntV n) fails = λ b e. absurd (cc)
construct_meets u a ps (TextV t) fails = λ b e. absurd (cc)
construct_meets u a ps (RecordV fs) fails = λ b e. absurd (cc)
construct_meets u a ps (CloV env qs c) fails = λ b e. absurd (cc)
construct_meets u a ps (KnownV k vs) fails = λ b e. absurd (cc)
construct_meets u a ps (WireV w) fails = λ b e. absurd (cc)

-- two tests that one value meets are the same
pub meets_same : (t u : Test) (v : Value) → meets t v ≡ Val true → meets u v ≡ Val true → same_test t u ≡ true
meets_same (Literally l) (Literally m) v e f = literal_itself l m v e f
meets_same (Tagged u a) (Tagged w b) (TagV tag vs) e f =
    let p = of_parts tag vs a (val_same e) in
    let q = of_parts tag vs b (val_same f) in
    test_both a b (sym p.0 ∙ q.0) (sym p.1 ∙ q.1)
  where
    val_same : {a b : Bool} → Val a ≡ Val b → a ≡ b
    val_same e = cc
meets_same (Literally (literal.Int i)) (Tagged u a) (TagV t vs) e f = absurd (cc)
meets_same (Literally (literal.Char i)) (Tagged u a) (TagV t vs) e f = absurd (cc)
meets_same (Literally (literal.Text i)) (Tagged u a) (TagV t vs) e f = absurd (cc)
meets_same (Literally l) (Tagged u a) (IntV n) e f = absurd (cc)
meets_same (Literally l) (Tagged u a) (TextV t) e f = absurd (cc)
meets_same (Literally l) (Tagged u a) (RecordV fs) e f = absurd (cc)
meets_same (Literally l) (Tagged u a) (CloV env qs c) e f = absurd (cc)
meets_same (Literally l) (Tagged u a) (KnownV k vs) e f = absurd (cc)
meets_same (Literally l) (Tagged u a) (WireV w) e f = absurd (cc)
meets_same (Tagged u a) (Literally (literal.Int i)) (TagV t vs) e f = absurd (cc)
meets_same (Tagged u a) (Literally (literal.Char i)) (TagV t vs) e f = absurd (cc)
meets_same (Tagged u a) (Literally (literal.Text i)) (TagV t vs) e f = absurd (cc)
meets_same (Tagged u a) m (IntV n) e f = absurd (cc)
meets_same (Tagged u a) m (TextV t) e f = absurd (cc)
meets_same (Tagged u a) m (RecordV fs) e f = absurd (cc)
meets_same (Tagged u a) m (CloV env qs c) e f = absurd (cc)
meets_same (Tagged u a) m (KnownV k vs) e f = absurd (cc)
meets_same (Tagged u a) m (WireV w) e f = absurd (cc)

literal_kept : {t : Test} {v : Value} {fs : List Value} → Holds t v fs → (l : Literal) → Kept v fs (Exactly l) (left_by t (First (Literally l) []))
literal_kept (holds_literal {l = m} {v} e) l = go (same_literal m l) refl
  where
    go : (b : Bool) → same_literal m l ≡ b → Kept v [] (Exactly l) (if b then Some [] else None)
    go true is = λ ps ws. subst (λ o. Gives (both o (fit_row ps ws)) (fit_row ps ws)) (sym (literal_same m l v e is)) (λ a e. e)
    go false is = never_true (is_literal l v) (λ f. true≢false' (same_literal m l) (literal_itself m l v e f) is)
literal_kept (holds_tag {u} {a} {tag} {vs} e) l = never_true (is_literal l (TagV tag vs)) (λ f. let s = meets_same (Tagged u a) (Literally l) (TagV tag vs) (ap (λ b. Val b) e) f in absurd (cc))

construct_kept : {t : Test} {v : Value} {fs : List Value} → Holds t v fs → (u : Union) (a : Alternative) (ps : Patterns) → Kept v fs (Construct u a ps) (left_by t (First (Tagged u a) (list_of ps)))
construct_kept (holds_literal {l} {v} e) u a ps = construct_meets u a ps v (λ f. let s = meets_same (Literally l) (Tagged u a) v e f in absurd (cc))
construct_kept (holds_tag {u = w} {a = c} {tag} {vs} e) u a ps = go (same_tag c.tag a.tag && nat_eq c.arity a.arity) refl
  where
    inner : (one this : Bool) → this ≡ true → (qs : List Pattern) (ws : List Value) → Gives (both (if one then (if this then fit_all ps vs else Val false) else Stuck) (fit_row qs ws)) (fit_row (list_of ps ++ qs) (values vs ++ ws))
    inner true true k qs ws = fit_append ps vs qs ws
    inner true false k qs ws = absurd (cc)
    inner false this k qs ws = λ b e. absurd (cc)

    go : (b : Bool) → (same_tag c.tag a.tag && nat_eq c.arity a.arity) ≡ b → Kept (TagV tag vs) (values vs) (Construct u a ps) (if b then Some (list_of ps) else None)
    go true is =
        let p = of_parts tag vs c e in
        let q = test_parts c a is in
        inner (is_of_one tag vs (alternatives u)) (is_of tag vs a) (is_of_both tag vs a (p.0 ∙ q.0) (p.1 ∙ q.1))
    go false is = construct_meets u a ps (TagV tag vs) (λ f. true≢false' (same_tag c.tag a.tag && nat_eq c.arity a.arity) (meets_same (Tagged w c) (Tagged u a) (TagV tag vs) (ap (λ b. Val b) e) f) is)

-- with the test's parts in place of the value, each pattern fits as before
pub kept_by_test : {t : Test} {v : Value} {fs : List Value} → Holds t v fs → (p : Pattern) → Kept v fs p (left_by t (ask p))
kept_by_test h Anything = free_kept h
kept_by_test h (Named x) = free_kept h
kept_by_test h (FieldsOf xs) = free_kept h
kept_by_test h (As p x) = kept_by_test h p
kept_by_test h (LocatedPattern place p) = kept_by_test h p
kept_by_test h (Exactly l) = literal_kept h l
kept_by_test h (Construct u a ps) = construct_kept h u a ps

-- the value does not meet the pattern's test
abbrev pub Fails : Value → Ask → Type 0
Fails v Nothing = Unit {0}
Fails v (First t ps) = meets t v ≡ Val true → ⊥

-- where fails test holds, the patterns that ask for nothing fit as before
pub kept_by_rest : (v : Value) (p : Pattern) → Fails v (ask p) → Kept v [] p (left_over (ask p))
kept_by_rest v Anything fails = λ ps ws a e. e
kept_by_rest v (Named x) fails = λ ps ws a e. e
kept_by_rest v (FieldsOf xs) fails = λ ps ws a e. e
kept_by_rest v (As p x) fails = kept_by_rest v p fails
kept_by_rest v (LocatedPattern place p) fails = kept_by_rest v p fails
kept_by_rest v (Exactly l) fails = never_true (is_literal l v) fails
kept_by_rest v (Construct u a ps) fails = construct_meets u a ps v fails

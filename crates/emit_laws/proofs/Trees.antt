-- The tree of tests gives the branch that the rows pick.
use Rattle.std.proofs.Common.{◌≡◌, ℕ, zero, suc, ◌+◌, ◌≤◌, ◌<◌, ◌^◌, pos, List, [], ◌∷◌, ◌++◌, Bool, true, false, nat_lt, refl, sym, ap, ◌∙◌, subst, Option, Some, None, arith, decimal}
use Rattle.std.specs.Prelude.{if◌then◌else◌, ◌&&◌, codes, replicate}
use Rattle.std.specs.List.{list_all}
use Rattle.std.specs.Str.{bytes_eq}
use Rattle.std.proofs.lemmas.Bool.{false_from_ne_true, ltb-true}
use Rattle.std.proofs.lemmas.Slice.Eq.{bytes_eq-Decides}
use Rattle.std.proofs.lemmas.Fmt.{decimal_injective}
use Rattle.runs.specs.Ends.{End, Val, Crashed, OutOfFuel, Unsafe, Stuck, MVal, and_then}
use Rattle.elm_canon.specs.declared.unions.Tag.{Tag}
use Rattle.elm_canon.specs.Unions.{alternatives}
use Rattle.elm_canon.specs.Tree.{Pattern, Anything, Named, As, Exactly, Construct, FieldsOf, LocatedPattern, Patterns, NoPattern, MorePattern}
use Rattle.elm_meaning.specs.Values.{Value, IntV, TextV, TagV, RecordV, CloV, KnownV, WireV, Values, NoValue, MoreValue, count_of}
use Rattle.elm_canon.specs.Constructors.{same_kind, are_apart, is_one_of}
use Rattle.elm_canon.specs.Proper.{ProperPattern, ProperPatterns}
use Rattle.js_emit.specs.Matrix.{Test, Literally, Tagged, Ask, Nothing, First, ask, list_of, same_test, is_alike, is_whole, has_test, add_test, arity_of, Row, left_by, left_over, in_place, after_one, narrowed, keep, narrow, ask_at, tests_in, size, sizes, list_size, rows_size}
use Rattle.js_tree.specs.Tree.{Js, JInt, JConditional}
use Rattle.js_meaning.specs.Values.{JVal, JNumV, JBoolV, JObjV, JFields, MoreJField, JEnv, field_in}
use Rattle.js_meaning.specs.Lists.{part_name}
use Rattle.js_meaning.specs.Eval.{JCallee, JLoop, j_eval, if_true}
use Rattle.js_emit.specs.Choice.{part_paths, split_path, Column, one_further, column_or, first_column, test_js, chain, tree_at, tree}
use Rattle.emit_laws.specs.For.{For, for_number, for_truth, for_blank, ForParts, more_part}
use Rattle.emit_laws.proofs.Rows.{both, fit, fit_row, values, pick, pick_by, replaced, value_at, narrow_kept, Holds, holds_literal, holds_tag, meets, of_parts, both_true}
use Rattle.emit_laws.proofs.Choose.{Kinded, Asks, asks, first_gives, Each, NoneMeets, whole_met, Alike, covers, tests_alike, each_by_rest, each_by_test}
use Rattle.emit_laws.proofs.EmitChoiceLawsTests.{ProperTest, Is, TestRight, test_right, property, AllFound, none_found, more_found}

-- Sizes: what is narrowed is smaller by the test that is taken.

abbrev weight : Ask → ℕ
weight Nothing = 0
weight (First t qs) = 1

abbrev ask_size : Ask → ℕ
ask_size Nothing = 0
ask_size (First t qs) = suc (list_size qs)

abbrev opt_size : Option (List Pattern) → ℕ
opt_size None = 0
opt_size (Some qs) = list_size qs

list_sizes : (ps : Patterns) → list_size (list_of ps) ≡ sizes ps
list_sizes NoPattern = refl
list_sizes (MorePattern p ps) = ap (λ n. size p + n) (list_sizes ps)

size_ask : (p : Pattern) → size p ≡ ask_size (ask p)
size_ask Anything = refl
size_ask (Named x) = refl
size_ask (FieldsOf xs) = refl
size_ask (As p x) = size_ask p
size_ask (LocatedPattern place p) = size_ask p
size_ask (Exactly l) = refl
size_ask (Construct u a ps) = ap suc (sym (list_sizes ps))

no_size : (n : ℕ) → list_size (replicate n Anything) ≡ 0
no_size zero = refl
no_size (suc n) = let e = no_size n in omega arith

size_append : (ps qs : List Pattern) → list_size (ps ++ qs) ≡ list_size ps + list_size qs
size_append [] qs = omega arith
size_append (p ∷ ps) qs = let e = size_append ps qs in omega arith

abbrev Shrinks : (Ask → Option (List Pattern)) → Type 0
Shrinks left = (a : Ask) → weight a + opt_size (left a) ≤ ask_size a

test_shrinks : (t : Test) → Shrinks (left_by t)
test_shrinks t Nothing = let e = no_size (arity_of t) in omega arith
test_shrinks t (First u qs) = go (same_test t u)
  where
    go : (b : Bool) → 1 + opt_size (if b then Some qs else None) ≤ suc (list_size qs)
    go true = omega arith
    go false = omega arith

rest_shrinks : Shrinks left_over
rest_shrinks Nothing = omega arith
rest_shrinks (First u qs) = omega arith

narrowed_size : (left : Ask → Option (List Pattern)) → Shrinks left → (column : ℕ) (ps : List Pattern) → weight (ask_at column ps) + opt_size (narrowed left column ps) ≤ list_size ps
narrowed_size left sh column [] = omega arith
narrowed_size left sh zero (p ∷ ps) = go (left (ask p)) (sh (ask p))
  where
    go : (o : Option (List Pattern)) → weight (ask p) + opt_size o ≤ ask_size (ask p) → weight (ask p) + opt_size (in_place o ps) ≤ size p + list_size ps
    go None h = let e = size_ask p in omega arith
    go (Some qs) h = let e = size_ask p in let f = size_append qs ps in omega arith
narrowed_size left sh (suc column) (p ∷ ps) = go (narrowed left column ps) (narrowed_size left sh column ps)
  where
    go : (o : Option (List Pattern)) → weight (ask_at column ps) + opt_size o ≤ list_size ps → weight (ask_at column ps) + opt_size (after_one p o) ≤ size p + list_size ps
    go None h = omega arith
    go (Some qs) h = omega arith

keep_size : (o : Option (List Pattern)) (branch : ℕ) (rows : List Row) → rows_size (keep o branch rows) ≡ opt_size o + rows_size rows
keep_size None branch rows = omega arith
keep_size (Some qs) branch rows = refl

narrow_size : (left : Ask → Option (List Pattern)) → Shrinks left → (column : ℕ) (rows : List Row) → rows_size (narrow left column rows) ≤ rows_size rows
narrow_size left sh column [] = omega arith
narrow_size left sh column (row ∷ rows) =
    let e = keep_size (narrowed left column row.patterns) row.branch (narrow left column rows) in
    let f = narrowed_size left sh column row.patterns in
    let g = narrow_size left sh column rows in
    omega arith

-- where the first row asks for something there
narrow_less : (left : Ask → Option (List Pattern)) → Shrinks left → (column : ℕ) (row : Row) (rows : List Row) → weight (ask_at column row.patterns) ≡ 1 → suc (rows_size (narrow left column (row ∷ rows))) ≤ rows_size (row ∷ rows)
narrow_less left sh column row rows w =
    let e = keep_size (narrowed left column row.patterns) row.branch (narrow left column rows) in
    let f = narrowed_size left sh column row.patterns in
    let g = narrow_size left sh column rows in
    omega arith

-- Proper rows.

abbrev pub Good : List Pattern → Type 0
Good [] = Unit {0}
Good (p ∷ ps) = ProperPattern p × Good ps

abbrev pub GoodRows : List Row → Type 0
GoodRows [] = Unit {0}
GoodRows (row ∷ rows) = Good row.patterns × GoodRows rows

-- a test with its constructor apart from the others, and with few fields
abbrev pub Sound : Test → Type 0
Sound t = ProperTest t × (arity_of t < 4294967296)

abbrev pub SoundAsk : Ask → Type 0
SoundAsk Nothing = Unit {0}
SoundAsk (First t qs) = Sound t × Good qs

abbrev pub GoodOption : Option (List Pattern) → Type 0
GoodOption None = Unit {0}
GoodOption (Some qs) = Good qs

pub good_list : (ps : Patterns) → ProperPatterns ps → Good (list_of ps)
good_list NoPattern g = tt
good_list (MorePattern p ps) g = (g.0, good_list ps g.1)

sound_ask : (p : Pattern) → ProperPattern p → SoundAsk (ask p)
sound_ask Anything g = tt
sound_ask (Named x) g = tt
sound_ask (FieldsOf xs) g = tt
sound_ask (As p x) g = sound_ask p g.0
sound_ask (LocatedPattern place p) g = sound_ask p g
sound_ask (Exactly l) g = ((tt, omega arith), tt)
sound_ask (Construct u a ps) g =
    let one = both_true (are_apart (alternatives u) && list_all (λ b. same_kind a.tag b.tag) (alternatives u)) (is_one_of a (alternatives u) && nat_lt a.arity 4294967296) g.0 in
    let two = both_true (is_one_of a (alternatives u)) (nat_lt a.arity 4294967296) one.1 in
    ((both_true (are_apart (alternatives u)) (list_all (λ b. same_kind a.tag b.tag) (alternatives u)) one.0, ltb-true a.arity 4294967296 two.1), good_list ps g.1.1)

good_free : (n : ℕ) → Good (replicate n Anything)
good_free zero = tt
good_free (suc n) = (tt, good_free n)

good_append : (ps qs : List Pattern) → Good ps → Good qs → Good (ps ++ qs)
good_append [] qs g h = h
good_append (p ∷ ps) qs g h = (g.0, good_append ps qs g.1 h)

abbrev pub KeepsGood : (Ask → Option (List Pattern)) → Type 0
KeepsGood left = (a : Ask) → SoundAsk a → GoodOption (left a)

pub test_good : (t : Test) → KeepsGood (left_by t)
test_good t Nothing s = good_free (arity_of t)
test_good t (First u qs) s = go (same_test t u)
  where
    go : (b : Bool) → GoodOption (if b then Some qs else None)
    go true = s.1
    go false = tt

pub rest_good : KeepsGood left_over
rest_good Nothing s = tt
rest_good (First u qs) s = tt

narrowed_good : (left : Ask → Option (List Pattern)) → KeepsGood left → (column : ℕ) (ps : List Pattern) → Good ps → GoodOption (narrowed left column ps)
narrowed_good left keeps column [] g = tt
narrowed_good left keeps zero (p ∷ ps) g = go (left (ask p)) (keeps (ask p) (sound_ask p g.0))
  where
    go : (o : Option (List Pattern)) → GoodOption o → GoodOption (in_place o ps)
    go None h = tt
    go (Some qs) h = good_append qs ps h g.1
narrowed_good left keeps (suc column) (p ∷ ps) g = go (narrowed left column ps) (narrowed_good left keeps column ps g.1)
  where
    go : (o : Option (List Pattern)) → GoodOption o → GoodOption (after_one p o)
    go None h = tt
    go (Some qs) h = (g.0, h)

pub narrow_good : (left : Ask → Option (List Pattern)) → KeepsGood left → (column : ℕ) (rows : List Row) → GoodRows rows → GoodRows (narrow left column rows)
narrow_good left keeps column [] g = tt
narrow_good left keeps column (row ∷ rows) g = go (narrowed left column row.patterns) (narrowed_good left keeps column row.patterns g.0) (narrow_good left keeps column rows g.1)
  where
    go : (o : Option (List Pattern)) → GoodOption o → GoodRows (narrow left column rows) → GoodRows (keep o row.branch (narrow left column rows))
    go None h rest = rest
    go (Some qs) h rest = (h, rest)

-- each test of a column is sound
sound_at : (column : ℕ) (ps : List Pattern) → Good ps → SoundAsk (ask_at column ps)
sound_at column [] g = tt
sound_at zero (p ∷ ps) g = sound_ask p g.0
sound_at (suc column) (p ∷ ps) g = sound_at column ps g.1

sound_last : (ts : List Test) (u : Test) → Each Sound ts → Sound u → Each Sound (ts ++ u ∷ [])
sound_last [] u each s = (s, tt)
sound_last (t ∷ ts) u each s = (each.0, sound_last ts u each.1 s)

tests_sound : (first : Test) (column : ℕ) (rows : List Row) (ts : List Test) → GoodRows rows → Each Sound ts → Each Sound (tests_in first column ts rows)
tests_sound first column [] ts g each = each
tests_sound first column (row ∷ rows) ts g each = tests_sound first column rows (add_test first (ask_at column row.patterns) ts) g.1 (go (ask_at column row.patterns) (sound_at column row.patterns g.0))
  where
    inner : (u : Test) → Sound u → (b c : Bool) → Each Sound (if b then (if c then ts else ts ++ u ∷ []) else ts)
    inner u s true true = each
    inner u s true false = sound_last ts u each s
    inner u s false c = each

    go : (a : Ask) → SoundAsk a → Each Sound (add_test first a ts)
    go Nothing s = each
    go (First u ps) s = inner u s.0 (is_alike first u) (has_test u ts)

-- Paths.

pub part_apart : (i j : ℕ) → i < 2 ^ 64 → j < 2 ^ 64 → (j ≡ i → ⊥) → bytes_eq (part_name j) (part_name i) ≡ false
part_apart i j li lj differ = false_from_ne_true _ (λ e. differ (decimal_injective j i lj li (tail_same ((bytes_eq-Decides (part_name j) (part_name i)).0 e))))
  where
    tail_same : (97 ∷ decimal j) ≡ (97 ∷ decimal i) → decimal j ≡ decimal i
    tail_same e = cc

pub wide : (n : ℕ) → n < 4294967296 → n < 2 ^ 64
wide n l = omega arith

val_true : {b : Bool} → Val b ≡ Val true → b ≡ true
val_true e = cc

some_same : {A : Type 0} {a b : A} → Some a ≡ Some b → a ≡ b
some_same e = cc

module _ (call : JCallee) (loop : JLoop) (env : JEnv) where
  parts_found : (limit : ℕ) → limit ≡ 2 ^ 64 → (path : Js) (whole : JFields) → Is call loop env path (JObjV whole) → {paths : List Js} {vs : List Value} → AllFound call loop env paths vs → (i : ℕ) (us : Values) (ws : JFields) → ForParts i us ws → i + count_of us ≤ limit → ((j : ℕ) → i ≤ j → j < limit → field_in (part_name j) whole ≡ field_in (part_name j) ws) → AllFound call loop env (part_paths (count_of us) i path ++ paths) (values us ++ vs)
  parts_found limit is64 path whole p rest i NoValue ws r le same = rest
  parts_found limit is64 path whole p rest i (MoreValue u us) ws (more_part {w} {ws = more} ru rs) le same =
      more_found ru (property call loop env path (part_name i) (JObjV whole) w p (same i (omega arith) (omega arith) ∙ ap (λ b. if b then Val w else field_in (part_name i) more) ((bytes_eq-Decides (part_name i) (part_name i)).1 refl)))
      (parts_found limit is64 path whole p rest (suc i) us more rs (omega arith) (λ j lj ll. same j (omega arith) ll ∙ ap (λ b. if b then Val w else field_in (part_name j) more) (part_apart i j (subst (λ n. i < n) is64 (omega arith)) (subst (λ n. j < n) is64 ll) (λ e. absurd (omega arith)))))

  -- the parts of a constructor in place of the value
  split_first : (n : ℕ) (tag : Tag) (us : Values) (w : JVal) (path : Js) {paths : List Js} {vs : List Value} → For (TagV tag us) w → Is call loop env path w → AllFound call loop env paths vs → count_of us ≡ n → n < 2 ^ 64 → AllFound call loop env (part_paths n 0 path ++ paths) (values us ++ vs)
  split_first n tag us w path {paths} {vs} (for_number {k} {ws} few parts) p rest e less =
      subst (λ n. AllFound call loop env (part_paths n 0 path ++ paths) (values us ++ vs)) e
      (parts_found (2 ^ 64) refl path (MoreJField (codes "$") (JNumV k) ws) p rest 0 us ws parts (omega arith) (λ j lj ll. refl))
  split_first n tag us w path {paths} {vs} for_truth p rest e less = subst (λ n. AllFound call loop env (part_paths n 0 path ++ paths) vs) e rest
  split_first n tag us w path {paths} {vs} for_blank p rest e less = subst (λ n. AllFound call loop env (part_paths n 0 path ++ paths) vs) e rest

  split_here : {t : Test} {v : Value} {fs : List Value} (path : Js) (w : JVal) {paths : List Js} {vs : List Value} → Holds t v fs → arity_of t < 2 ^ 64 → For v w → Is call loop env path w → AllFound call loop env paths vs → AllFound call loop env (part_paths (arity_of t) 0 path ++ paths) (fs ++ vs)
  split_here path w (holds_literal e) small r p rest = rest
  split_here path w (holds_tag {a} {tag} {vs = us} e) small r p rest = split_first a.arity tag us w path r p rest (of_parts tag us a e).1 small

  split_found : {t : Test} {v : Value} {fs : List Value} → Holds t v fs → arity_of t < 2 ^ 64 → (column : ℕ) (paths : List Js) (vs : List Value) → AllFound call loop env paths vs → value_at column vs ≡ Some v → AllFound call loop env (split_path (arity_of t) column paths) (replaced fs column vs)
  split_found h small column paths vs none_found at = none_found
  split_found {t} {v} {fs} h small zero paths vs (more_found {path} {v = u} {w} {paths = more} {vs = us} r p rest) at =
      split_here path w h small (subst (λ x. For x w) (some_same at) r) p rest
  split_found h small (suc column) paths vs (more_found r p rest) at = more_found r p (split_found h small column _ _ rest at)

  rest_found : (column : ℕ) (paths : List Js) (vs : List Value) → AllFound call loop env paths vs → AllFound call loop env (split_path 0 column paths) (replaced [] column vs)
  rest_found column paths vs none_found = none_found
  rest_found zero paths vs (more_found r p rest) = rest
  rest_found (suc column) paths vs (more_found r p rest) = more_found r p (rest_found column _ _ rest)

  -- The column that is looked at.

  pub record Found (ps : List Pattern) (vs : List Value) (c : Column) : Type 0 where
    pub value : Value
    pub js : JVal
    pub at : value_at c.number vs ≡ Some value
    pub stands : For value js
    pub is : Is call loop env c.path js
    pub kind : (b : Bool) → fit_row ps vs ≡ Val b → Kinded c.test value
    pub parts : List Pattern
    pub asked : ask_at c.number ps ≡ First c.test parts

  further_found : (p : Pattern) (ps : List Pattern) (v : Value) (vs : List Value) → fit p v ≡ Val true → (c : Column) → Found ps vs c → Found (p ∷ ps) (v ∷ vs) (record { number = suc c.number; test = c.test; path = c.path })
  further_found p ps v vs free c f = record {
    value = f.value;
    js = f.js;
    at = f.at;
    stands = f.stands;
    is = f.is;
    kind = λ b e. f.kind b (sym (ap (λ o. both o (fit_row ps vs)) free) ∙ e);
    parts = f.parts;
    asked = f.asked;
  }

  column_found : (paths : List Js) (ps : List Pattern) (vs : List Value) → AllFound call loop env paths vs → (c : Column) → first_column paths ps ≡ Some c → Found ps vs c
  column_found [] ps vs all c e = absurd (cc)
  column_found (path ∷ paths) [] vs all c e = absurd (cc)
  column_found (path ∷ paths) (p ∷ ps) [] all c e = elim all [ ]
  column_found (path ∷ paths) (p ∷ ps) (v ∷ vs) (more_found {w} r is rest) c e =
      go (ask p) refl (asks p v) (first_column paths ps) (λ d f. column_found paths ps vs rest d f) e
    where
      further : (o : Option Column) → fit p v ≡ Val true → ((d : Column) → o ≡ Some d → Found ps vs d) → one_further o ≡ Some c → Found (p ∷ ps) (v ∷ vs) c
      further None free rec e = absurd (cc)
      further (Some d) free rec e = subst (λ x. Found (p ∷ ps) (v ∷ vs) x) (some_same e) (further_found p ps v vs free d (rec d refl))

      go : (a : Ask) → ask p ≡ a → Asks p v a → (o : Option Column) → ((d : Column) → o ≡ Some d → Found ps vs d) → column_or a path o ≡ Some c → Found (p ∷ ps) (v ∷ vs) c
      go Nothing is' free o rec e = further o free rec e
      go (First t qs) is' k o rec e = subst (λ x. Found (p ∷ ps) (v ∷ vs) x) (some_same e) (record {
        value = v;
        js = w;
        at = refl;
        stands = r;
        is = is;
        kind = λ b f. let g = first_gives (fit p v) (fit_row ps vs) b f in k g.0 g.1;
        parts = qs;
        asked = is';
      })

  -- where no column asks for anything, the row fits
  no_column : (paths : List Js) (ps : List Pattern) (vs : List Value) → AllFound call loop env paths vs → first_column paths ps ≡ None → (b : Bool) → fit_row ps vs ≡ Val b → b ≡ true
  no_column paths [] vs none_found e b f = cc
  no_column paths (p ∷ ps) vs none_found e b f = absurd (cc)
  no_column paths [] vs (more_found r is rest) e b f = absurd (cc)
  no_column paths (p ∷ ps) vs (more_found {path} {v} {paths = more} {vs = us} r is rest) e b f =
      go (ask p) (asks p v) (first_column more ps) (λ e. no_column more ps us rest e) e
    where
      none_further : (o : Option Column) → one_further o ≡ None → o ≡ None
      none_further None e = refl
      none_further (Some d) e = absurd (cc)

      go : (a : Ask) → Asks p v a → (o : Option Column) → (o ≡ None → (b : Bool) → fit_row ps us ≡ Val b → b ≡ true) → column_or a path o ≡ None → b ≡ true
      go Nothing free o rec e = rec (none_further o e) b (sym (ap (λ q. both q (fit_row ps us)) free) ∙ f)
      go (First t qs) k o rec e = absurd (cc)

  -- The tests in turn.

  conditional : (c a b : Js) (t : Bool) (w : JVal) → Is call loop env c (JBoolV t) → (t ≡ true → Is call loop env a w) → (t ≡ false → Is call loop env b w) → Is call loop env (JConditional c a b) w
  conditional c a b true w i f g m = ap (λ o. and_then o (λ v m1. if_true v (j_eval call loop a env m1) (j_eval call loop b env m1))) (i m) ∙ f refl m
  conditional c a b false w i f g m = ap (λ o. and_then o (λ v m1. if_true v (j_eval call loop a env m1) (j_eval call loop b env m1))) (i m) ∙ g refl m

  chained : (v : Value) (path : Js) (choose : Test → Js) (whole : Bool) (rest : Js) (w : JVal) (ts : List Test)
      → Each (λ u. TestRight call loop env u v path) ts → Each (λ u. meets u v ≡ Val true → Is call loop env (choose u) w) ts
      → (NoneMeets v ts → Is call loop env rest w) → (whole ≡ true → NoneMeets v ts → ⊥)
      → Is call loop env (chain choose path whole rest ts) w
  chained v path choose whole rest w [] right chosen other some = other tt
  chained v path choose whole rest w (t ∷ []) right chosen other some = go whole some right.0.answer refl
    where
      go : (whole : Bool) → (whole ≡ true → NoneMeets v (t ∷ []) → ⊥) → (b : Bool) → right.0.answer ≡ b → Is call loop env (if whole then choose t else JConditional (test_js t path) (choose t) rest) w
      go true some true e = chosen.0 (right.0.yes e)
      go true some false e = absurd (some refl (right.0.fails e, tt))
      go false some b e = conditional (test_js t path) (choose t) rest right.0.answer w right.0.is (λ e. chosen.0 (right.0.yes e)) (λ e. other (right.0.fails e, tt))
  chained v path choose whole rest w (t ∷ u ∷ ts) right chosen other some =
      conditional (test_js t path) (choose t) (chain choose path whole rest (u ∷ ts)) right.0.answer w right.0.is (λ e. chosen.0 (right.0.yes e))
      (λ e. chained v path choose whole rest w (u ∷ ts) right.1 chosen.1 (λ none. other (right.0.fails e, none)) (λ is none. some is (right.0.fails e, none)))

  -- The whole tree.

  holds_of : (t : Test) (v : Value) → meets t v ≡ Val true → (fs : List Value) × Holds t v fs
  holds_of (Literally l) v e = ([], holds_literal e)
  holds_of (Tagged u a) (TagV tag vs) e = (values vs, holds_tag (val_true e))
  holds_of (Tagged u a) (IntV n) e = absurd (cc)
  holds_of (Tagged u a) (TextV n) e = absurd (cc)
  holds_of (Tagged u a) (RecordV n) e = absurd (cc)
  holds_of (Tagged u a) (CloV n ps c) e = absurd (cc)
  holds_of (Tagged u a) (KnownV n vs) e = absurd (cc)
  holds_of (Tagged u a) (WireV n) e = absurd (cc)

  rights : (first : Test) (v : Value) (w : JVal) (path : Js) → Kinded first v → For v w → Is call loop env path w → ProperTest first → (ts : List Test) → Alike first ts → Each (λ u. TestRight call loop env u v path) ts
  rights first v w path k r p pr [] alike = tt
  rights first v w path k r p pr (t ∷ ts) alike = (test_right call loop env t w path k r p alike.0 pr, rights first v w path k r p pr ts alike.1)

  each_sound : {P : Test → Type 0} → ((t : Test) → Sound t → P t) → (ts : List Test) → Each Sound ts → Each P ts
  each_sound f [] each = tt
  each_sound f (t ∷ ts) each = (f t each.0, each_sound f ts each.1)

  -- a first row that fits is picked, and one that is picked has an answer
  pick_first : (o : End Bool) (b k : ℕ) (rest : End ℕ) → ((c : Bool) → o ≡ Val c → c ≡ true) → pick_by o b rest ≡ Val k → b ≡ k
  pick_first (Val true) b k rest f e = cc
  pick_first (Val false) b k rest f e = let g = f false refl in absurd (cc)
  pick_first (Crashed t) b k rest f e = absurd (cc)
  pick_first OutOfFuel b k rest f e = absurd (cc)
  pick_first Unsafe b k rest f e = absurd (cc)
  pick_first Stuck b k rest f e = absurd (cc)

  pick_answers : (o : End Bool) (b k : ℕ) (rest : End ℕ) → pick_by o b rest ≡ Val k → (c : Bool) × (o ≡ Val c)
  pick_answers (Val c) b k rest e = (c, refl)
  pick_answers (Crashed t) b k rest e = absurd (cc)
  pick_answers OutOfFuel b k rest e = absurd (cc)
  pick_answers Unsafe b k rest e = absurd (cc)
  pick_answers Stuck b k rest e = absurd (cc)

  abbrev Right : ℕ → Type 0
  Right bound = (paths : List Js) (rows : List Row) (vs : List Value) → rows_size rows ≤ bound → GoodRows rows → AllFound call loop env paths vs → (k : ℕ) → pick rows vs ≡ Val k → Is call loop env (tree bound paths rows) (JNumV (pos k))

  at_column : (bound : ℕ) → Right bound → (paths : List Js) (row : Row) (rows : List Row) (vs : List Value) → rows_size (row ∷ rows) ≤ suc bound → GoodRows (row ∷ rows) → AllFound call loop env paths vs → (k : ℕ) → pick (row ∷ rows) vs ≡ Val k → (c : Column) → first_column paths row.patterns ≡ Some c → Is call loop env (tree_at (tree bound) paths row rows (Some c)) (JNumV (pos k))
  at_column bound right paths row rows vs le good all k picked c found =
      let f = column_found paths row.patterns vs all c found in
      let answer = pick_answers (fit_row row.patterns vs) row.branch k (pick rows vs) picked in
      let kind = f.kind answer.0 answer.1 in
      let sound = subst (λ a. SoundAsk a) f.asked (sound_at c.number row.patterns good.0) in
      let heavy = ap weight f.asked in
      let ts = tests_in c.test c.number [] (row ∷ rows) in
      chained f.value c.path (λ t. tree bound (split_path (arity_of t) c.number paths) (narrow (left_by t) c.number (row ∷ rows))) (is_whole c.test ts)
      (tree bound (split_path 0 c.number paths) (narrow left_over c.number (row ∷ rows))) (JNumV (pos k)) ts
      (rights c.test f.value f.js c.path kind f.stands f.is sound.0.0 ts (tests_alike c.test c.number (row ∷ rows) [] tt))
      (each_sound (λ t s met.
      let h = holds_of t f.value met in
      let smaller = narrow_less (left_by t) (test_shrinks t) c.number row rows heavy in
      right (split_path (arity_of t) c.number paths) (narrow (left_by t) c.number (row ∷ rows)) (replaced h.0 c.number vs) (omega arith)
      (narrow_good (left_by t) (test_good t) c.number (row ∷ rows) good) (split_found h.1 (wide (arity_of t) s.1) c.number paths vs all f.at) k
      (narrow_kept (left_by t) f.value h.0 c.number (row ∷ rows) vs f.at (each_by_test h.1 c.number (row ∷ rows)) k picked))
      ts (tests_sound c.test c.number (row ∷ rows) [] good tt))
      (λ none.
      let smaller = narrow_less left_over rest_shrinks c.number row rows heavy in
      right (split_path 0 c.number paths) (narrow left_over c.number (row ∷ rows)) (replaced [] c.number vs) (omega arith)
      (narrow_good left_over rest_good c.number (row ∷ rows) good) (rest_found c.number paths vs all) k
      (narrow_kept left_over f.value [] c.number (row ∷ rows) vs f.at (each_by_rest c.test f.value kind ts none c.number (row ∷ rows) (covers c.test c.number (row ∷ rows) [])) k picked))
      (λ whole none. whole_met kind ts whole none)

  pub tree_right : (bound : ℕ) → Right bound
  tree_right bound paths [] vs le good all k picked = absurd (cc)
  tree_right zero paths (row ∷ rows) vs le good all k picked = go (first_column paths row.patterns) refl
    where
      go : (o : Option Column) → first_column paths row.patterns ≡ o → Is call loop env (JInt (pos row.branch)) (JNumV (pos k))
      go None e = λ m. ap (λ n. MVal (JNumV (pos n)) m) (pick_first (fit_row row.patterns vs) row.branch k (pick rows vs) (no_column paths row.patterns vs all e) picked)
      go (Some c) e =
          let f = column_found paths row.patterns vs all c e in
          let heavy = ap weight f.asked in
          let size = narrowed_size left_over rest_shrinks c.number row.patterns in
          absurd (omega arith)
  tree_right (suc bound) paths (row ∷ rows) vs le good all k picked = go (first_column paths row.patterns) refl (tree_right bound)
    where
      go : (o : Option Column) → first_column paths row.patterns ≡ o → Right bound → Is call loop env (tree_at (tree bound) paths row rows o) (JNumV (pos k))
      go None e right = λ m. ap (λ n. MVal (JNumV (pos n)) m) (pick_first (fit_row row.patterns vs) row.branch k (pick rows vs) (no_column paths row.patterns vs all e) picked)
      go (Some c) e right = at_column bound right paths row rows vs le good all k picked c e

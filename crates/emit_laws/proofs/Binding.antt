-- Patterns bind their names on both sides.
use Rattle.std.proofs.Common.{◌≡◌, ℕ, suc, ◌+◌, ◌≤◌, ◌<◌, ◌^◌, List, [], ◌∷◌, Bool, true, false, refl, sym, ap, ◌∙◌, subst, Option, Some, None, arith}
use Rattle.std.specs.Prelude.{if◌then◌else◌, ◌&&◌, nat_lt, codes}
use Rattle.std.specs.List.{list_all}
use Rattle.std.proofs.lemmas.Bool.{ltb-true}
use Rattle.std.proofs.lemmas.Slice.Eq.{bytes_eq-Decides}
use Rattle.runs.specs.Ends.{End, Val, Crashed, OutOfFuel, Unsafe, Stuck, then_do, MStuck, and_then, with_budget}
use Rattle.elm_canon.specs.Names as source
use Rattle.elm_canon.specs.Names.{same_name}
use Rattle.elm_canon.specs.declared.reference.Ref.{Ref}
use Rattle.elm_canon.specs.declared.reference.Ref.TheVariants as ref
use Rattle.elm_canon.specs.declared.unions.Tag.{Tag}
use Rattle.elm_canon.specs.declared.unions.Tag.TheVariants.{Number, Truth, Blank}
use Rattle.elm_canon.specs.declared.unions.Alternative.{Alternative}
use Rattle.elm_canon.specs.Unions.{Union, alternatives}
use Rattle.elm_canon.specs.Tree.{Pattern, Anything, Named, As, Exactly, Construct, FieldsOf, LocatedPattern, Patterns, NoPattern, MorePattern}
use Rattle.elm_canon.specs.Constructors.{same_kind, are_apart, is_one_of, is_constructor}
use Rattle.elm_canon.specs.Proper.{Scope, among, AreFresh, with_all, locals, bound_by, all_bound_by, ProperPattern, ProperPatterns}
use Rattle.elm_meaning.specs.Values.{Value, IntV, TextV, TagV, RecordV, CloV, KnownV, WireV, Values, NoValue, MoreValue, FieldValues, Env, Bind, field_in}
use Rattle.elm_meaning.specs.Values as values
use Rattle.elm_meaning.specs.Match.{is_literal, is_of, is_of_one, and_match, bind_fields, matches, matches_all}
use Rattle.js_tree.specs.Tree.{Name, Local, Js, JVar, JProperty, Stmts, Const, declares}
use Rattle.js_meaning.specs.Values.{JVal, JNumV, JObjV, JFields, MoreJField, JEnv, JBind, JBindRun, j_find, get_field}
use Rattle.js_meaning.specs.Values as js
use Rattle.js_meaning.specs.Lists.{part_name}
use Rattle.js_meaning.specs.Eval.{JCallee, JLoop, JAgain, j_eval, j_exec}
use Rattle.js_emit.specs.Names.{js_name}
use Rattle.js_emit.specs.Patterns.{field_consts, consts, part_consts}
use Rattle.emit_laws.specs.For.{For, for_number, for_truth, for_blank, for_record, ForParts, more_part, ForField, no_field, one_field, ForEnv}
use Rattle.emit_laws.specs.Choosing.{IsNow}
use Rattle.emit_laws.proofs.Names.{Used, used, IsClear, IsBound, not_again, older, more_scope, const_extends, bound_after, clear_const, both_true}
use Rattle.emit_laws.proofs.Clear.{fresh_front, with_front, clear_parts, clear_fields}
use Rattle.emit_laws.proofs.Layers.{Above, Below, above_const}
use Rattle.elm_meaning.specs.Envs.{lookup}
use Rattle.emit_laws.proofs.Envs.{Keeps, for_bind, refs_apart, older_all}
use Rattle.emit_laws.proofs.Rows.{of_parts}
use Rattle.emit_laws.proofs.Trees.{part_apart}

-- ---- paths

-- what is read from a name in use, field by field
pub data Reads (u : Used) (jenv : JEnv) : Js → JVal → Type 0 where
  reads_name : {x : Name} {w : JVal} → u x ≡ true → j_find x jenv ≡ Val w → Reads u jenv (JVar x) w
  reads_part : {path : Js} {k : List ℕ} {w v : JVal} → Reads u jenv path w → get_field k w ≡ Val v → Reads u jenv (JProperty path k) v

pub reads_later : {u v : Used} {jenv more : JEnv} {path : Js} {w : JVal} → ((y : Name) → u y ≡ true → v y ≡ true) → Keeps u jenv more → Reads u jenv path w → Reads v more path w
reads_later wider keeps (reads_name {x} is found) = reads_name (wider x is) (keeps x is ∙ found)
reads_later wider keeps (reads_part r e) = reads_part (reads_later wider keeps r) e

pub reads_now : {u : Used} {jenv : JEnv} {path : Js} {w : JVal} (call : JCallee) (loop : JLoop) → Reads u jenv path w → IsNow call loop jenv path w
reads_now call loop (reads_name is found) m = ap (λ o. with_budget o m) found
reads_now {jenv} call loop (reads_part {path} {k} {w} {v} r e) m =
    ap (λ o. and_then o (λ v m1. with_budget (get_field k v) m1)) (reads_now call loop r m) ∙ ap (λ o. with_budget o m) e

-- ---- what is bound, and what follows

-- the first statements go on as s, in an environment that agrees on more names
pub record Goes (scope wider : Scope) (d : ℕ) (env inner : Env) (first s : Stmts) (jenv : JEnv) : Type 0 where
  pub more : JEnv
  pub runs : (call : JCallee) (loop : JLoop) (again : JAgain) (m : ℕ) → j_exec call loop again first jenv m ≡ j_exec call loop again s more m
  pub agrees : ForEnv wider inner more
  pub bound : IsBound s more
  pub keeps : Keeps (used scope d) jenv more
  pub found : (r : Ref) → among r scope ≡ true → lookup r inner ≡ lookup r env
  pub above : (vars : Used) (base : JEnv) → Below vars (used scope d) → Above vars base jenv → Above vars base more

pub more_used : (x : Ref) (scope : Scope) (d : ℕ) (y : Name) → used scope d y ≡ true → used (x ∷ scope) d y ≡ true
more_used x scope d y is = sym (more_scope x scope d y) ∙ older (used scope d) y (js_name x) is

pub all_used : (xs : List Ref) (scope : Scope) (d : ℕ) (y : Name) → used scope d y ≡ true → used (with_all xs scope) d y ≡ true
all_used [] scope d y is = is
all_used (x ∷ xs) scope d y is = all_used xs (x ∷ scope) d y (more_used x scope d y is)

-- a constant that is read
pub const_runs : {u : Used} {jenv : JEnv} {path : Js} {w : JVal} (x : Name) (s : Stmts) → declares x s ≡ false → Reads u jenv path w → (call : JCallee) (loop : JLoop) (again : JAgain) (m : ℕ) → j_exec call loop again (Const x path s) jenv m ≡ j_exec call loop again s (JBindRun s (JBind x w jenv)) m
const_runs {jenv} {w} x s new (reads_name {x = y} is found) call loop again m =
    ap (λ t. if t then MStuck else and_then (j_eval call loop (JVar y) jenv m) (λ v m1. j_exec call loop again s (JBindRun s (JBind x v jenv)) m1)) new
    ∙ ap (λ o. and_then o (λ v m1. j_exec call loop again s (JBindRun s (JBind x v jenv)) m1)) (ap (λ o. with_budget o m) found)
const_runs {jenv} {w} x s new (reads_part {path} {k} r e) call loop again m =
    ap (λ t. if t then MStuck else and_then (j_eval call loop (JProperty path k) jenv m) (λ v m1. j_exec call loop again s (JBindRun s (JBind x v jenv)) m1)) new
    ∙ ap (λ o. and_then o (λ v m1. j_exec call loop again s (JBindRun s (JBind x v jenv)) m1)) (reads_now call loop (reads_part r e) m)

-- a name more
pub one_bound : (x : source.Name) (path : Js) (s : Stmts) (scope : Scope) (d : ℕ) {v : Value} {w : JVal} {env : Env} {jenv : JEnv}
    → among (ref.Local x) scope ≡ false → IsClear (used (ref.Local x ∷ scope) d) s → For v w → Reads (used scope d) jenv path w → ForEnv scope env jenv
    → Goes scope (ref.Local x ∷ scope) d env (Bind (ref.Local x) v env) (Const (Local x) path s) s jenv
one_bound x path s scope d {v} {w} {env} {jenv} new fr r reads re =
    let c = clear_const (ref.Local x) s scope d new fr in
    let ex = const_extends (Local x) w (used scope d) s c.0 c.1 jenv in
    record {
      more = JBindRun s (JBind (Local x) w jenv);
      runs = const_runs (Local x) s (not_again (Local x) (used scope d) s c.1) reads;
      agrees = for_bind d r re ex;
      bound = bound_after (Local x) w (used scope d) s c.1 jenv;
      keeps = ex.old;
      found = λ y is. ap (λ t. if t then Val v else lookup y env) (refs_apart y (ref.Local x) scope is new);
      above = λ vars base below a. above_const (Local x) w s below c.0 c.1 a;
    }

-- nothing more
pub none_bound : (s : Stmts) (scope : Scope) (d : ℕ) {env : Env} {jenv : JEnv} → ForEnv scope env jenv → IsBound s jenv → Goes scope scope d env env s s jenv
none_bound s scope d {env} {jenv} re bd = record { more = jenv; runs = λ call loop again m. refl; agrees = re; bound = bd; keeps = λ y is. refl; found = λ y is. refl; above = λ vars base below a. a }

-- one after the other
pub goes_on : (xs : List Ref) {scope wider : Scope} {d : ℕ} {env mid inner : Env} {first second s : Stmts} {jenv : JEnv} → (g : Goes scope (with_all xs scope) d env mid first second jenv) → Goes (with_all xs scope) wider d mid inner second s g.more → Goes scope wider d env inner first s jenv
goes_on xs {scope} {d = d} g h = record {
  more = h.more;
  runs = λ call loop again m. g.runs call loop again m ∙ h.runs call loop again m;
  agrees = h.agrees;
  bound = h.bound;
  keeps = λ y is. h.keeps y (all_used xs scope d y is) ∙ g.keeps y is;
  found = λ y is. h.found y (older_all y xs scope is) ∙ g.found y is;
  above = λ vars base below a. h.above vars base (λ r is. all_used xs scope d r (below r is)) (g.above vars base below a);
}

pub in_env : {scope wider : Scope} {d : ℕ} {env mid inner : Env} {first s : Stmts} {jenv : JEnv} → mid ≡ inner → Goes scope wider d env mid first s jenv → Goes scope wider d env inner first s jenv
in_env {scope} {wider} {d} {env} {first = first} {s} {jenv} e g = subst (λ i. Goes scope wider d env i first s jenv) e g

-- ---- what matched

matched_then : (o : End (Option Env)) (go : Env → End (Option Env)) (inner : Env) → and_match o go ≡ Val (Some inner) → (mid : Env) × (o ≡ Val (Some mid)) × (go mid ≡ Val (Some inner))
matched_then (Val (Some mid)) go inner e = (mid, refl, e)
matched_then (Val None) go inner e = absurd (cc)
matched_then (Crashed t) go inner e = absurd (cc)
matched_then OutOfFuel go inner e = absurd (cc)
matched_then Unsafe go inner e = absurd (cc)
matched_then Stuck go inner e = absurd (cc)

some_is : {A : Type 0} {a b : A} → Val (Some a) ≡ Val (Some b) → a ≡ b
some_is e = cc

both_if : (one this : Bool) (o : End (Option Env)) (inner : Env) → (if one then (if this then o else Val None) else Stuck) ≡ Val (Some inner) → (this ≡ true) × (o ≡ Val (Some inner))
both_if true true o inner e = (refl, e)
both_if true false o inner e = absurd (cc)
both_if false this o inner e = absurd (cc)

literal_env : (o : End Bool) (env inner : Env) → then_do o (λ same. Val (if same then Some env else None)) ≡ Val (Some inner) → env ≡ inner
literal_env (Val true) env inner e = some_is e
literal_env (Val false) env inner e = absurd (cc)
literal_env (Crashed t) env inner e = absurd (cc)
literal_env OutOfFuel env inner e = absurd (cc)
literal_env Unsafe env inner e = absurd (cc)
literal_env Stuck env inner e = absurd (cc)

-- ---- patterns

fields_go : (xs : List source.Name) (path : Js) (s : Stmts) (scope : Scope) (d : ℕ) (fs : FieldValues) (gs : JFields) {env : Env} (inner : Env) {jenv : JEnv}
    → AreFresh (locals xs) scope → IsClear (used (with_all (locals xs) scope) d) s → ((k : source.Name) → ForField (field_in k fs) (js.field_in k gs)) → Reads (used scope d) jenv path (JObjV gs)
    → bind_fields xs fs env ≡ Val (Some inner) → ForEnv scope env jenv → IsBound (field_consts xs path s) jenv → Goes scope (with_all (locals xs) scope) d env inner (field_consts xs path s) s jenv
fields_go [] path s scope d fs gs inner fr clear r reads e re bd = in_env (some_is e) (none_bound s scope d re bd)
fields_go (x ∷ xs) path s scope d fs gs {env} inner {jenv} fr clear r reads e re bd =
    go (field_in x fs) (js.field_in x gs) refl (r x) e (λ v w rv f e.
    let g = one_bound x (JProperty path x) (field_consts xs path s) scope d fr.0 (clear_fields xs path s (ref.Local x ∷ scope) d fr.1 clear) rv (reads_part reads f) re in
    goes_on (ref.Local x ∷ []) g
    (fields_go xs path s (ref.Local x ∷ scope) d fs gs inner fr.1 clear r (reads_later (λ y is. more_used (ref.Local x) scope d y is) g.keeps reads) e g.agrees g.bound))
  where
    go : (o : End Value) (p : End JVal) → js.field_in x gs ≡ p → ForField o p → then_do o (λ v. bind_fields xs fs (Bind (ref.Local x) v env)) ≡ Val (Some inner)
        → ((v : Value) (w : JVal) → For v w → js.field_in x gs ≡ Val w → bind_fields xs fs (Bind (ref.Local x) v env) ≡ Val (Some inner) → Goes scope (with_all (locals (x ∷ xs)) scope) d env inner (field_consts (x ∷ xs) path s) s jenv)
        → Goes scope (with_all (locals (x ∷ xs)) scope) d env inner (field_consts (x ∷ xs) path s) s jenv
    go o p f no_field e k = absurd (cc)
    go o p f (one_field {v} {w} rv) e k = k v w rv f e

-- the environment that a constructor's parts give
constructed : (u : Union) (a : Alternative) (ps : Patterns) (tag : Tag) (vs : Values) (env inner : Env) → matches (Construct u a ps) (TagV tag vs) env ≡ Val (Some inner) → (is_of tag vs a ≡ true) × (matches_all ps vs env ≡ Val (Some inner))
constructed u a ps tag vs env inner e = both_if (is_of_one tag vs (alternatives u)) (is_of tag vs a) (matches_all ps vs env) inner e

pub few_parts : (u : Union) (a : Alternative) → is_constructor u a ≡ true → a.arity < 4294967296
few_parts u a e =
    let one = both_true (are_apart (alternatives u) && list_all (λ b. same_kind a.tag b.tag) (alternatives u)) (is_one_of a (alternatives u) && nat_lt a.arity 4294967296) e in
    let two = both_true (is_one_of a (alternatives u)) (nat_lt a.arity 4294967296) one.1 in
    ltb-true a.arity 4294967296 two.1

few_enough : (n arity : ℕ) → n ≡ arity → arity < 4294967296 → 0 + n ≤ 2 ^ 64
few_enough n arity e l = omega arith

mutual
  pub pattern_goes : (p : Pattern) (path : Js) (s : Stmts) (scope : Scope) (d : ℕ) {v : Value} {w : JVal} {env : Env} (inner : Env) {jenv : JEnv}
      → ProperPattern p → AreFresh (bound_by p) scope → IsClear (used (with_all (bound_by p) scope) d) s → For v w → Reads (used scope d) jenv path w
      → matches p v env ≡ Val (Some inner) → ForEnv scope env jenv → IsBound (consts p path s) jenv → Goes scope (with_all (bound_by p) scope) d env inner (consts p path s) s jenv
  pattern_goes Anything path s scope d inner pr fr clear r reads e re bd = in_env (some_is e) (none_bound s scope d re bd)
  pattern_goes (Named x) path s scope d inner pr fr clear r reads e re bd =
      in_env (some_is e) (one_bound x path s scope d fr.0 clear r reads re)
  pattern_goes (As p x) path s scope d {v} {w} {env} inner {jenv} pr fr clear r reads e re bd =
      let m = matched_then (matches p v env) (λ mid. Val (Some (Bind (ref.Local x) v mid))) inner e in
      let f = fresh_front (bound_by p) (ref.Local x ∷ []) scope fr in
      let mid_scope = with_all (bound_by p) scope in
      let clear2 = subst (λ z. IsClear (used z d) s) (with_front (bound_by p) (ref.Local x ∷ []) scope) clear in
      let c = clear_const (ref.Local x) s mid_scope d f.1.0 clear2 in
      let g = pattern_goes p path (Const (Local x) path s) scope d m.0 pr.0 f.0 c r reads m.1 re bd in
      let h = one_bound x path s mid_scope d f.1.0 clear2 r (reads_later (λ y is. all_used (bound_by p) scope d y is) g.keeps reads) g.agrees in
      subst (λ z. Goes scope z d env inner (consts (As p x) path s) s jenv) (sym (with_front (bound_by p) (ref.Local x ∷ []) scope))
      (in_env (some_is m.2) (goes_on (bound_by p) g h))
  pattern_goes (Exactly l) path s scope d {v} {w} {env} inner pr fr clear r reads e re bd =
      in_env (literal_env (is_literal l v) env inner e) (none_bound s scope d re bd)
  pattern_goes (Construct u a ps) path s scope d {env} inner pr fr clear (for_number {k} {vs} {ws} few parts) reads e re bd =
      let m = constructed u a ps (Number k) vs env inner e in
      let n = of_parts (Number k) vs a m.0 in
      let few = few_parts u a pr.0 in
      let count = n.1 in
      parts_go (2 ^ 64) refl 0 ps path s scope d vs ws (MoreJField (codes "$") (JNumV k) ws) inner pr.1.1 fr clear parts (few_enough (values.count_of vs) a.arity count few) (λ j lj ll. refl) reads m.1 re bd
  pattern_goes (Construct u a NoPattern) path s scope d {env} inner pr fr clear (for_truth {b}) reads e re bd =
      let m = constructed u a NoPattern (Truth b) NoValue env inner e in
      in_env (some_is m.1) (none_bound s scope d re bd)
  pattern_goes (Construct u a (MorePattern p ps)) path s scope d {env} inner pr fr clear (for_truth {b}) reads e re bd =
      let m = constructed u a (MorePattern p ps) (Truth b) NoValue env inner e in let f = m.1 in absurd (cc)
  pattern_goes (Construct u a NoPattern) path s scope d {env} inner pr fr clear for_blank reads e re bd =
      let m = constructed u a NoPattern Blank NoValue env inner e in
      in_env (some_is m.1) (none_bound s scope d re bd)
  pattern_goes (Construct u a (MorePattern p ps)) path s scope d {env} inner pr fr clear for_blank reads e re bd =
      let m = constructed u a (MorePattern p ps) Blank NoValue env inner e in let f = m.1 in absurd (cc)
  pattern_goes (Construct u a ps) path s scope d inner pr fr clear _ reads e re bd = absurd (cc)
  pattern_goes (FieldsOf xs) path s scope d inner pr fr clear (for_record {fs} {gs} rises is found) reads e re bd = fields_go xs path s scope d fs gs inner fr clear found reads e re bd
  pattern_goes (FieldsOf xs) path s scope d inner pr fr clear _ reads e re bd = absurd (cc)
  pattern_goes (LocatedPattern place p) path s scope d inner pr fr clear r reads e re bd = pattern_goes p path s scope d inner pr fr clear r reads e re bd

  parts_go : (limit : ℕ) → limit ≡ 2 ^ 64 → (i : ℕ) (ps : Patterns) (path : Js) (s : Stmts) (scope : Scope) (d : ℕ) (us : Values) (ws whole : JFields) {env : Env} (inner : Env) {jenv : JEnv}
      → ProperPatterns ps → AreFresh (all_bound_by ps) scope → IsClear (used (with_all (all_bound_by ps) scope) d) s → ForParts i us ws → i + values.count_of us ≤ limit
      → ((j : ℕ) → i ≤ j → j < limit → js.field_in (part_name j) whole ≡ js.field_in (part_name j) ws) → Reads (used scope d) jenv path (JObjV whole)
      → matches_all ps us env ≡ Val (Some inner) → ForEnv scope env jenv → IsBound (part_consts i ps path s) jenv → Goes scope (with_all (all_bound_by ps) scope) d env inner (part_consts i ps path s) s jenv
  parts_go limit is64 i NoPattern path s scope d NoValue ws whole inner pr fr clear r le same reads e re bd = in_env (some_is e) (none_bound s scope d re bd)
  parts_go limit is64 i NoPattern path s scope d (MoreValue u us) ws whole inner pr fr clear r le same reads e re bd = absurd (cc)
  parts_go limit is64 i (MorePattern p ps) path s scope d NoValue ws whole inner pr fr clear r le same reads e re bd = absurd (cc)
  parts_go limit is64 i (MorePattern p ps) path s scope d (MoreValue u us) ws whole {env} inner {jenv} pr fr clear (more_part {w} {ws = more} ru rs) le same reads e re bd =
      let m = matched_then (matches p u env) (λ mid. matches_all ps us mid) inner e in
      let f = fresh_front (bound_by p) (all_bound_by ps) scope fr in
      let mid_scope = with_all (bound_by p) scope in
      let clear2 = subst (λ z. IsClear (used z d) s) (with_front (bound_by p) (all_bound_by ps) scope) clear in
      let c = clear_parts (suc i) ps path s mid_scope d f.1 clear2 in
      let here = same i (omega arith) (omega arith) ∙ ap (λ b. if b then Val w else js.field_in (part_name i) more) ((bytes_eq-Decides (part_name i) (part_name i)).1 refl) in
      let g = pattern_goes p (JProperty path (part_name i)) (part_consts (suc i) ps path s) scope d m.0 pr.0 f.0 c ru (reads_part reads here) m.1 re bd in
      let h = parts_go limit is64 (suc i) ps path s mid_scope d us more whole inner pr.1 f.1 clear2 rs (omega arith)
      (λ j lj ll. same j (omega arith) ll ∙ ap (λ b. if b then Val w else js.field_in (part_name j) more) (part_apart i j (subst (λ n. i < n) is64 (omega arith)) (subst (λ n. j < n) is64 ll) (λ e. absurd (omega arith))))
      (reads_later (λ y is. all_used (bound_by p) scope d y is) g.keeps reads) m.2 g.agrees g.bound in
      subst (λ z. Goes scope z d env inner (part_consts i (MorePattern p ps) path s) s jenv) (sym (with_front (bound_by p) (all_bound_by ps) scope)) (goes_on (bound_by p) g h)

-- Environments that agree on the names in scope: how they grow on both sides.
use Rattle.std.proofs.Common.{◌≡◌, ℕ, ◌+◌, List, [], ◌∷◌, Bool, true, false, refl, sym, ap, ◌∙◌, subst}
use Rattle.std.specs.Prelude.{if◌then◌else◌}
use Rattle.std.proofs.lemmas.Bool.{false_from_ne_true}
use Rattle.runs.specs.Ends.{End, Val, with_budget}
use Rattle.runs.specs.Pay.{Follows, gives}
use Rattle.runs.proofs.Spends.{spends_none}
use Rattle.elm_canon.specs.Names.{same_ref}
use Rattle.elm_canon.specs.declared.reference.Ref.{Ref}
use Rattle.elm_canon.specs.declared.reference.Ref.TheVariants as ref
use Rattle.elm_canon.specs.Tree.{Patterns, NoPattern, MorePattern, Expr, Lambda, Located, Title, Functions, NoFunction, MoreFunction}
use Rattle.elm_canon.specs.Proper.{Scope, IsIn, among, AreFresh, with_all, all_bound_by, BindsAll, Proper, ProperFunctions, function_names, is_function}
use Rattle.elm_meaning.specs.Values.{Value, CloV, Env, Nil, Bind, BindGroup}
use Rattle.elm_meaning.specs.Envs.{closure, member, lookup}
use Rattle.js_tree.specs.Tree.{Name, same_name, JArrow, Stmts, Const, Return, Continue}
use Rattle.js_meaning.specs.Values.{JVal, JCloV, JEnv, j_find}
use Rattle.js_emit.specs.Names.{js_name, now}
use Rattle.js_emit.specs.Loops.{Outside}
use Rattle.js_emit.specs.Made.{is_loop, made_in, made_function}
use Rattle.js_emit.specs.Patterns.{made_for, arrows}
use Rattle.js_emit.specs.Emit.{emit, looped, function, functions}
use Rattle.emit_laws.specs.Sizes.{FewParts, FewInFunctions}
use Rattle.emit_laws.specs.For.{For, for_function, MadeAs, made_arrows, made_turns, ForEnv, agree, ForFound, for_found, for_member}
use Rattle.emit_laws.proofs.Names.{Used, used, used_ref, name_same, name_itself, Extends, IsBound}

-- ---- names of the source

same_as_js : (y x : Ref) → same_name (js_name y) (js_name x) ≡ same_ref y x
same_as_js (ref.Local y) (ref.Local x) = refl
same_as_js (ref.Local y) (ref.Top m x) = refl
same_as_js (ref.Top m y) (ref.Local x) = refl
same_as_js (ref.Top n y) (ref.Top m x) = refl

pub js_same : (y x : Ref) → same_ref y x ≡ true → js_name y ≡ js_name x
js_same y x e = name_same (js_name y) (js_name x) (same_as_js y x ∙ e)

js_injective : (y x : Ref) → js_name y ≡ js_name x → y ≡ x
js_injective (ref.Local y) (ref.Local x) e = cc
js_injective (ref.Local y) (ref.Top m x) e = absurd (cc)
js_injective (ref.Top m y) (ref.Local x) e = absurd (cc)
js_injective (ref.Top n y) (ref.Top m x) e = cc

pub ref_same : (y x : Ref) → same_ref y x ≡ true → y ≡ x
ref_same y x e = js_injective y x (js_same y x e)

pub ref_itself : (x : Ref) → same_ref x x ≡ true
ref_itself x = sym (same_as_js x x) ∙ name_itself (js_name x)

-- a name in scope and a new one are two
pub refs_apart : (y x : Ref) (scope : Scope) → among y scope ≡ true → among x scope ≡ false → same_ref y x ≡ false
refs_apart y x scope is new = false_from_ne_true (same_ref y x) (λ e. let f = subst (λ z. among z scope ≡ true) (ref_same y x e) is in absurd (cc))

pub older_ref : (y x : Ref) (scope : Scope) → among y scope ≡ true → among y (x ∷ scope) ≡ true
older_ref y x scope is = go (same_ref y x)
  where
    go : (t : Bool) → (if t then true else among y scope) ≡ true
    go true = refl
    go false = is

pub newest_ref : (x : Ref) (scope : Scope) → among x (x ∷ scope) ≡ true
newest_ref x scope = ap (λ t. if t then true else among x scope) (ref_itself x)

pub older_all : (y : Ref) (xs : List Ref) (scope : Scope) → among y scope ≡ true → among y (with_all xs scope) ≡ true
older_all y [] scope is = is
older_all y (x ∷ xs) scope is = older_all y xs (x ∷ scope) (older_ref y x scope is)

-- ---- growing

-- what is in use is found as before
abbrev pub Keeps : Used → JEnv → JEnv → Type 0
Keeps u jenv more = (y : Name) → u y ≡ true → j_find y more ≡ j_find y jenv

-- what was found over these environments, seen from others
pub closed : {scope wider : Scope} {env env2 : Env} {jenv jenv2 : JEnv} {o : End Value} {p : End JVal} → ForEnv scope env jenv → ForFound scope env jenv o p → ForFound wider env2 jenv2 o p
closed re (for_found r) = for_found r
closed {scope} re (for_member made) = for_found (for_function scope made re)

pub found_in : {scope : Scope} {env : Env} {jenv : JEnv} (A : End Value → End JVal → Type 0) {o : End Value} {p : End JVal} → ForEnv scope env jenv → ((v : Value) (w : JVal) → For v w → A (Val v) (Val w)) → ForFound scope env jenv o p → A o p
found_in A re go (for_found {v} {w} r) = go v w r
found_in {scope} A re go (for_member {env} {jenv} {ps} {e} {q} {s} made) = go (CloV env ps e) (JCloV jenv q s) (for_function scope made re)

-- a name in scope
pub looked_up : (n : ℕ) (r : Ref) {scope : Scope} {env : Env} {jenv : JEnv} → IsIn r scope → ForEnv scope env jenv → Follows For n (lookup r env) (λ _ m. with_budget (j_find (js_name r) jenv) m)
looked_up n r is (agree h) = found_in (λ o p. Follows For n o (λ _ m. with_budget p m)) (agree h) (λ v w rv. gives w rv spends_none) (h r is)

pub for_nil : (jenv : JEnv) → ForEnv [] Nil jenv
for_nil jenv = agree (λ r is. absurd (cc))

-- where JavaScript finds the same
pub for_same : {scope : Scope} {env : Env} {jenv more : JEnv} → ((r : Ref) → IsIn r scope → j_find (js_name r) more ≡ j_find (js_name r) jenv) → ForEnv scope env jenv → ForEnv scope env more
for_same {scope} {env} {jenv} {more} same (agree h) = agree (λ r is. subst (λ p. ForFound scope env more (lookup r env) p) (sym (same r is)) (closed (agree h) (h r is)))

pub for_keeps : {scope : Scope} {env : Env} {jenv more : JEnv} (d : ℕ) → Keeps (used scope d) jenv more → ForEnv scope env jenv → ForEnv scope env more
for_keeps {scope} d keeps re = for_same (λ r is. keeps (js_name r) (used_ref scope d r ∙ is)) re

-- one name more
pub for_bind : {scope : Scope} {x : Ref} {v : Value} {w : JVal} {env : Env} {jenv more : JEnv} (d : ℕ) → For v w → ForEnv scope env jenv → Extends (js_name x) w (used scope d) jenv more → ForEnv (x ∷ scope) (Bind x v env) more
for_bind {scope} {x} {v} {w} {env} {jenv} {more} d r (agree h) ex = agree (λ y is. go y (same_ref y x) refl is)
  where
    go : (y : Ref) (t : Bool) → same_ref y x ≡ t → (if t then true else among y scope) ≡ true → ForFound (x ∷ scope) (Bind x v env) more (if t then Val v else lookup y env) (j_find (js_name y) more)
    go y true e is =
        subst (λ p. ForFound (x ∷ scope) (Bind x v env) more (Val v) p) (sym (ap (λ z. j_find z more) (js_same y x e) ∙ ex.new)) (for_found r)
    go y false e is =
        subst (λ p. ForFound (x ∷ scope) (Bind x v env) more (lookup y env) p) (sym (ex.old (js_name y) (used_ref scope d y ∙ is))) (closed (agree h) (h y is))

-- ---- groups of functions

-- what is emitted for a function
pub record FunctionIs (scope : Scope) (env : Env) (d : ℕ) (f : Ref) (ps : Patterns) (e : Expr) : Type 0 where
  pub parameter : Name
  pub body : Stmts
  pub patterns : Patterns
  pub inner : Expr
  pub is : function d f ps e (λ loop next. emit next loop e) ≡ Return (JArrow parameter body)
  pub closes : closure env ps e ≡ Val (CloV env patterns inner)
  pub made : MadeAs scope env patterns inner parameter body

pub function_is : (scope : Scope) (env : Env) (d : ℕ) (f : Ref) (ps : Patterns) (e : Expr) → is_function ps e ≡ true → BindsAll ps scope → Proper (with_all (all_bound_by ps) scope) e → FewParts e → IsIn f scope → lookup f env ≡ closure env ps e → FunctionIs scope env d f ps e
function_is scope env d f (MorePattern p ps) e fn binds pr few inside itself = go (is_loop f (MorePattern p ps) e) refl
  where
    go : (t : Bool) → is_loop f (MorePattern p ps) e ≡ t → FunctionIs scope env d f (MorePattern p ps) e
    go true is = record {
      parameter = _;
      body = _;
      patterns = MorePattern p ps;
      inner = e;
      is = ap (λ t. if t then looped d f (MorePattern p ps) (λ loop next. emit next loop e) else arrows d (MorePattern p ps) (emit (d + made_for (MorePattern p ps)) Outside e)) is;
      closes = refl;
      made = made_turns d f (record { loops = is; binds = binds; proper = pr; few = few; inside = inside; itself = itself }) refl;
    }
    go false is = record {
      parameter = _;
      body = _;
      patterns = MorePattern p ps;
      inner = e;
      is = ap (λ t. if t then looped d f (MorePattern p ps) (λ loop next. emit next loop e) else arrows d (MorePattern p ps) (emit (d + made_for (MorePattern p ps)) Outside e)) is;
      closes = refl;
      made = made_arrows d binds pr few refl;
    }
function_is scope env d f NoPattern (Lambda (MorePattern p ps) e) fn binds pr few inside itself = record {
  parameter = _;
  body = _;
  patterns = MorePattern p ps;
  inner = e;
  is = refl;
  closes = refl;
  made = made_arrows _ pr.1.0 pr.1.1 few refl;
}
function_is scope env d f NoPattern (Lambda NoPattern e) fn binds pr few inside itself = let l = pr.0 in absurd (cc)
function_is scope env d f NoPattern (Located place e) fn binds pr few inside itself =
    let r = function_is scope env d f NoPattern e fn binds pr few inside itself in
    record {
      parameter = r.parameter;
      body = r.body;
      patterns = r.patterns;
      inner = r.inner;
      is = r.is;
      closes = r.closes;
      made = r.made;
    }
function_is scope env d f NoPattern _ fn binds pr few inside itself = absurd (cc)

-- the functions of a group are found in JavaScript, over this environment
abbrev pub FunctionsBound : ℕ → Functions → JEnv → Type 0
FunctionsBound d NoFunction jenv = Unit {0}
FunctionsBound d (MoreFunction title ps e fs) jenv =
    ((q : Name) (s : Stmts) → function d title.name ps e (λ loop next. emit next loop e) ≡ Return (JArrow q s) → j_find (js_name title.name) jenv ≡ Val (JCloV jenv q s))
    × FunctionsBound (d + made_function title.name ps e (λ loop. made_in loop e)) fs jenv

-- the same, whatever the numbers
abbrev pub AnyBound : Functions → JEnv → Type 0
AnyBound NoFunction jenv = Unit {0}
AnyBound (MoreFunction title ps e fs) jenv =
    ((d : ℕ) × ((q : Name) (s : Stmts) → function d title.name ps e (λ loop next. emit next loop e) ≡ Return (JArrow q s) → j_find (js_name title.name) jenv ≡ Val (JCloV jenv q s)))
    × AnyBound fs jenv

any_bound : (jenv : JEnv) (fs : Functions) (d : ℕ) → FunctionsBound d fs jenv → AnyBound fs jenv
any_bound jenv NoFunction d bd = tt
any_bound jenv (MoreFunction title ps e fs) d bd = ((d, bd.0), any_bound jenv fs (d + made_function title.name ps e (λ loop. made_in loop e)) bd.1)

-- what is emitted for a function is a function
pub arrow_is : (scope : Scope) (d : ℕ) (f : Ref) (ps : Patterns) (e : Expr) → is_function ps e ≡ true → Proper (with_all (all_bound_by ps) scope) e → (q : Name) × (s : Stmts) × (function d f ps e (λ loop next. emit next loop e) ≡ Return (JArrow q s))
arrow_is scope d f (MorePattern p ps) e fn pr = go (is_loop f (MorePattern p ps) e)
  where
    go : (t : Bool) → (q : Name) × (s : Stmts) × ((if t then looped d f (MorePattern p ps) (λ loop next. emit next loop e) else arrows d (MorePattern p ps) (emit (d + made_for (MorePattern p ps)) Outside e)) ≡ Return (JArrow q s))
    go true = (_, _, refl)
    go false = (_, _, refl)
arrow_is scope d f NoPattern (Lambda (MorePattern p ps) e) fn pr = (_, _, refl)
arrow_is scope d f NoPattern (Lambda NoPattern e) fn pr = let l = pr.0 in absurd (cc)
arrow_is scope d f NoPattern (Located place e) fn pr = arrow_is scope d f NoPattern e fn pr
arrow_is scope d f NoPattern _ fn pr = absurd (cc)

-- a run that begins with the functions of a group binds them, and what comes after them
pub functions_bound : (fs : Functions) (d : ℕ) (scope : Scope) (s : Stmts) (jenv : JEnv) → ProperFunctions scope fs → IsBound (functions d fs s) jenv → FunctionsBound d fs jenv × IsBound s jenv
functions_bound NoFunction d scope s jenv pr bd = (tt, bd)
functions_bound (MoreFunction title ps e fs) d scope s jenv pr bd =
    let later = d + made_function title.name ps e (λ loop. made_in loop e) in
    let a = arrow_is scope d title.name ps e pr.1.0 pr.1.1.1.0 in
    let b : IsBound (Const (js_name title.name) (JArrow a.0 a.1) (functions later fs s)) jenv = subst (λ x. IsBound (Const (js_name title.name) (now x) (functions later fs s)) jenv) a.2 bd in
    let r = functions_bound fs later scope s jenv pr.1.1.1.1 b.1 in
    ((λ q t is. subst (λ x. j_find (js_name title.name) jenv ≡ Val (arrow_value x)) (sym a.2 ∙ is) b.0, r.0), r.1)
  where
    arrow_value : Stmts → JVal
    arrow_value (Return (JArrow q t)) = JCloV jenv q t
    arrow_value _ = JCloV jenv (js_name title.name) Continue

-- a member of the group, or else what the rest of the scope finds
abbrev FoundFirst : Env → Functions → Type 0
FoundFirst whole es = (f : Ref) → among f (function_names es) ≡ true → (rest : End Value) → lookup f whole ≡ member f es whole rest

-- names that are new are none that was in scope
pub fresh_apart : (xs : List Ref) (acc : Scope) → AreFresh xs acc → (t : Ref) → among t acc ≡ true → (f : Ref) → among f xs ≡ true → same_ref f t ≡ false
fresh_apart [] acc fr t was f is = absurd (cc)
fresh_apart (x ∷ xs) acc fr t was f is = go (same_ref f x) refl is (λ is. fresh_apart xs (x ∷ acc) fr.1 t (older_ref t x acc was) f is)
  where
    go : (b : Bool) → same_ref f x ≡ b → (if b then true else among f xs) ≡ true → (among f xs ≡ true → same_ref f t ≡ false) → same_ref f t ≡ false
    go true e is rec = subst (λ z. same_ref z t ≡ false) (sym (ref_same f x e)) (false_from_ne_true (same_ref x t) (λ g. let h = subst (λ z. among z acc ≡ true) (sym (ref_same x t g)) was in let k = fr.0 in absurd (cc)))
    go false e is rec = rec is

later_first : (whole : Env) (title : Title) (ps : Patterns) (e : Expr) (es : Functions) (acc : Scope) → AreFresh (function_names es) (title.name ∷ acc) → FoundFirst whole (MoreFunction title ps e es) → FoundFirst whole es
later_first whole title ps e es acc fr first f is rest =
    first f (older_ref f title.name (function_names es) is) rest
    ∙ ap (λ t. if t then closure whole ps e else member f es whole rest) (fresh_apart (function_names es) (title.name ∷ acc) fr title.name (newest_ref title.name acc) f is)

not_first : (x f : Ref) (scope : Scope) → same_ref x f ≡ false → among x (f ∷ scope) ≡ true → among x scope ≡ true
not_first x f scope q is = ap (λ t. if t then true else among x scope) (sym q) ∙ is

members : (big : Scope) (whole : Env) (jenv : JEnv) (rest : End Value) (es : Functions) (acc : Scope) → ProperFunctions big es → FewInFunctions es → AnyBound es jenv → AreFresh (function_names es) acc → FoundFirst whole es
    → ((f : Ref) → among f (function_names es) ≡ true → among f big ≡ true) → (x : Ref) → among x (with_all (function_names es) acc) ≡ true
    → (among x acc ≡ true → ForFound big whole jenv rest (j_find (js_name x) jenv)) → ForFound big whole jenv (member x es whole rest) (j_find (js_name x) jenv)
members big whole jenv rest NoFunction acc pr few bd fr first inside x is k = k is
members big whole jenv rest (MoreFunction title ps e es) acc pr few bd fr first inside x is k =
    let itself = first title.name (newest_ref title.name (function_names es)) rest ∙ ap (λ t. if t then closure whole ps e else member title.name es whole rest) (ref_itself title.name) in
    let r = function_is big whole bd.0.0 title.name ps e pr.1.0 pr.1.1.0 pr.1.1.1.0 few.0 (inside title.name (newest_ref title.name (function_names es))) itself in
    go r (same_ref x title.name) refl (λ q.
    members big whole jenv rest es (title.name ∷ acc) pr.1.1.1.1 few.1 bd.1 fr.1 (later_first whole title ps e es acc fr.1 first)
    (λ f i. inside f (older_ref f title.name (function_names es) i)) x is (λ before. k (not_first x title.name acc q before)))
  where
    go : FunctionIs big whole bd.0.0 title.name ps e → (t : Bool) → same_ref x title.name ≡ t → (same_ref x title.name ≡ false → ForFound big whole jenv (member x es whole rest) (j_find (js_name x) jenv)) → ForFound big whole jenv (if t then closure whole ps e else member x es whole rest) (j_find (js_name x) jenv)
    go r true q others =
        subst (λ o. ForFound big whole jenv o (j_find (js_name x) jenv)) (sym r.closes)
        (subst (λ o. ForFound big whole jenv (Val (CloV whole r.patterns r.inner)) o) (sym (ap (λ z. j_find z jenv) (js_same x title.name q) ∙ bd.0.1 r.parameter r.body r.is)) (for_member r.made))
    go r false q others = others q

in_group : (f : Ref) (xs : List Ref) (scope : Scope) → among f xs ≡ true → among f (with_all xs scope) ≡ true
in_group f [] scope is = absurd (cc)
in_group f (x ∷ xs) scope is = go (same_ref f x) refl is (λ is. in_group f xs (x ∷ scope) is)
  where
    go : (t : Bool) → same_ref f x ≡ t → (if t then true else among f xs) ≡ true → (among f xs ≡ true → among f (with_all xs (x ∷ scope)) ≡ true) → among f (with_all xs (x ∷ scope)) ≡ true
    go true e is rec = older_all f xs (x ∷ scope) (ap (λ t. if t then true else among f scope) e)
    go false e is rec = rec is

first_any : (fs : Functions) (whole : Env) (f : Ref) (rest more : End Value) → among f (function_names fs) ≡ true → member f fs whole rest ≡ member f fs whole more
first_any NoFunction whole f rest more is = absurd (cc)
first_any (MoreFunction title ps e fs) whole f rest more is = go (same_ref f title.name) is (λ is. first_any fs whole f rest more is)
  where
    go : (t : Bool) → (if t then true else among f (function_names fs)) ≡ true → (among f (function_names fs) ≡ true → member f fs whole rest ≡ member f fs whole more) → (if t then closure whole ps e else member f fs whole rest) ≡ (if t then closure whole ps e else member f fs whole more)
    go true is rec = refl
    go false is rec = rec is

-- functions more that may use each other, whatever the numbers of their made names
pub for_functions : {scope : Scope} {env : Env} {jenv : JEnv} (fs : Functions) → AreFresh (function_names fs) scope → ProperFunctions (with_all (function_names fs) scope) fs → FewInFunctions fs → AnyBound fs jenv → ForEnv scope env jenv → ForEnv (with_all (function_names fs) scope) (BindGroup fs env) jenv
for_functions {scope} {env} {jenv} fs fr pr few bd (agree h) =
    agree (λ x is. members (with_all (function_names fs) scope) (BindGroup fs env) jenv (lookup x env) fs scope pr few bd fr
    (λ f i rest. first_any fs (BindGroup fs env) f (lookup f env) rest i) (λ f i. in_group f (function_names fs) scope i) x is (λ before. closed (agree h) (h x before)))

pub for_group : {scope : Scope} {env : Env} {jenv : JEnv} (fs : Functions) (d : ℕ) → AreFresh (function_names fs) scope → ProperFunctions (with_all (function_names fs) scope) fs → FewInFunctions fs → FunctionsBound d fs jenv → ForEnv scope env jenv → ForEnv (with_all (function_names fs) scope) (BindGroup fs env) jenv
for_group {jenv} fs d fr pr few bd re = for_functions fs fr pr few (any_bound jenv fs d bd) re

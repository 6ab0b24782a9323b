-- Names: what statements declare is new, so that blocks leave what is in use as it was.
use Rattle.std.proofs.Common.{◌≡◌, ℕ, ◌≤◌, ◌<◌, ◌∷◌, Bool, true, false, nat_eq, nat_lt, refl, sym, ap, ◌∙◌, subst, arith}
use Rattle.std.specs.Prelude.{if◌then◌else◌, ◌&&◌}
use Rattle.std.specs.Str.{bytes_eq}
use Rattle.std.proofs.lemmas.Bool.{eqb-true, ltb-true, lt-ltb, false_from_ne_true}
use Rattle.std.proofs.lemmas.Bool.Decides.{Decides-eqb}
use Rattle.std.proofs.lemmas.Slice.Eq.{bytes_eq-Decides}
use Rattle.runs.specs.Ends.{End, Val, Stuck}
use Rattle.elm_canon.specs.Names.{same_ref}
use Rattle.elm_canon.specs.declared.reference.Ref.{Ref}
use Rattle.elm_canon.specs.declared.reference.Ref.TheVariants as source
use Rattle.elm_canon.specs.Proper.{Scope, among}
use Rattle.js_tree.specs.Tree.{Name, Top, Local, Made, same_name, JArrow, Stmts, Const, Let, Assign, Return, If, While, Continue, declares, declares_any}
use Rattle.js_meaning.specs.Values.{JVal, JCloV, JEnv, JBind, JBindRun, JHide, run_find, j_find}
use Rattle.js_meaning.specs.Eval.{inside}
use Rattle.js_emit.specs.Names.{js_name}

-- names in use
abbrev pub Used : Type 0
Used = Name → Bool

abbrev pub with_name : Name → Used → Used
with_name x u y = if same_name y x then true else u y

-- what the statements declare is new, and each once
abbrev pub IsClear : Used → Stmts → Type 0
IsClear u (Const x e s) = (u x ≡ false) × IsClear (with_name x u) s
IsClear u (Let x e s) = (u x ≡ false) × IsClear (with_name x u) s
IsClear u (Assign x e s) = IsClear u s
IsClear u _ = Unit {0}

-- the functions that the statements begin with are found, over this environment
abbrev pub IsBound : Stmts → JEnv → Type 0
IsBound (Const x (JArrow p b) s) jenv = (j_find x jenv ≡ Val (JCloV jenv p b)) × IsBound s jenv
IsBound _ jenv = Unit {0}

pub name_itself : (x : Name) → same_name x x ≡ true
name_itself (Made i) = (Decides-eqb i i).1 refl
name_itself (Local x) = (bytes_eq-Decides x x).1 refl
name_itself (Top m x) = ap (λ t. t && bytes_eq x x) ((bytes_eq-Decides m m).1 refl) ∙ (bytes_eq-Decides x x).1 refl

pub both_true : (a b : Bool) → (a && b) ≡ true → (a ≡ true) × (b ≡ true)
both_true true b e = (refl, e)
both_true false b e = absurd (cc)

pub name_same : (x y : Name) → same_name x y ≡ true → x ≡ y
name_same (Made i) (Made j) e = ap (λ k. Made k) (eqb-true i j e)
name_same (Local x) (Local y) e = ap (λ k. Local k) ((bytes_eq-Decides x y).0 e)
name_same (Top m x) (Top n y) e = let p = both_true (bytes_eq m n) (bytes_eq x y) e in ap (λ k. Top k x) ((bytes_eq-Decides m n).0 p.0) ∙ ap (λ k. Top n k) ((bytes_eq-Decides x y).0 p.1)
name_same (Made i) (Local y) e = absurd (cc)
name_same (Made i) (Top n y) e = absurd (cc)
name_same (Local x) (Made j) e = absurd (cc)
name_same (Local x) (Top n y) e = absurd (cc)
name_same (Top m x) (Made j) e = absurd (cc)
name_same (Top m x) (Local y) e = absurd (cc)

pub apart : (u : Used) (y x : Name) → u y ≡ true → u x ≡ false → same_name y x ≡ false
apart u y x is new = false_from_ne_true (same_name y x) (λ e. let f = subst (λ z. u z ≡ true) (name_same y x e) is in absurd (cc))

pub older : (u : Used) (y x : Name) → u y ≡ true → with_name x u y ≡ true
older u y x is = go (same_name y x)
  where
    go : (t : Bool) → (if t then true else u y) ≡ true
    go true = refl
    go false = is

pub newest : (u : Used) (x : Name) → with_name x u x ≡ true
newest u x = ap (λ t. if t then true else u x) (name_itself x)

pub skip_old : (s : Stmts) (u : Used) → IsClear u s → (y : Name) → u y ≡ true → (whole : JEnv) (rest : End JVal) → run_find y s whole rest ≡ rest
skip_old (Const x (JArrow p b) s) u fr y is whole rest =
    ap (λ t. if t then Val (JCloV whole p b) else run_find y s whole rest) (apart u y x is fr.0) ∙ skip_old s (with_name x u) fr.1 y (older u y x is) whole rest
skip_old _ u fr y is whole rest = refl

pub not_declared : (s : Stmts) (u : Used) → IsClear u s → (y : Name) → u y ≡ true → declares y s ≡ false
not_declared (Const x e s) u fr y is = ap (λ t. if t then true else declares y s) (apart u y x is fr.0) ∙ not_declared s (with_name x u) fr.1 y (older u y x is)
not_declared (Let x e s) u fr y is = ap (λ t. if t then true else declares y s) (apart u y x is fr.0) ∙ not_declared s (with_name x u) fr.1 y (older u y x is)
not_declared (Assign x e s) u fr y is = not_declared s u fr y is
not_declared (Return e) u fr y is = refl
not_declared (If c s t) u fr y is = refl
not_declared (While s) u fr y is = refl
not_declared Continue u fr y is = refl

-- a constant's name is declared once
pub not_again : (x : Name) (u : Used) (s : Stmts) → IsClear (with_name x u) s → declares x s ≡ false
not_again x u s fr = not_declared s (with_name x u) fr x (newest u x)

neither : (t s : Bool) → (if t then true else s) ≡ false → (t ≡ false) × (s ≡ false)
neither true s e = absurd (cc)
neither false s e = (refl, e)

pub bound : (s : Stmts) (u : Used) → IsClear u s → (whole jenv : JEnv) → ((x : Name) → u x ≡ false → j_find x whole ≡ run_find x s whole (j_find x jenv)) → IsBound s whole
bound (Const x (JArrow p b) s) u fr whole jenv h = (
  h x fr.0 ∙ ap (λ t. if t then Val (JCloV whole p b) else run_find x s whole (j_find x jenv)) (name_itself x),
  bound s (with_name x u) fr.1 whole jenv (λ y new.
      let r = neither (same_name y x) (u y) new in h y r.1 ∙ ap (λ t. if t then Val (JCloV whole p b) else run_find y s whole (j_find y jenv)) r.0),
)
bound _ u fr whole jenv h = tt

-- a block binds its functions, and what is in use is found as before
pub opened : (s : Stmts) (u : Used) → IsClear u s → (jenv : JEnv) → IsBound s (JBindRun s (JHide s jenv))
opened s u fr jenv = bound s u fr _ (JHide s jenv) (λ y new. refl)

pub still_found : (s : Stmts) (u : Used) → IsClear u s → (jenv : JEnv) (y : Name) → u y ≡ true → j_find y (JBindRun s (JHide s jenv)) ≡ j_find y jenv
still_found s u fr jenv y is = skip_old s u fr y is _ _ ∙ ap (λ t. if t then Stuck else j_find y jenv) (not_declared s u fr y is)

-- where statements run as a block
pub inside_bound : (s : Stmts) (u : Used) → IsClear u s → (jenv : JEnv) → IsBound s (inside s jenv)
inside_bound s u fr jenv = go (declares_any s) refl
  where
    bare : (s : Stmts) → declares_any s ≡ false → IsBound s jenv
    bare (Const x e s) is = absurd (cc)
    bare (Let x e s) is = tt
    bare (Assign x e s) is = tt
    bare (Return e) is = tt
    bare (If c s t) is = tt
    bare (While s) is = tt
    bare Continue is = tt

    go : (t : Bool) → declares_any s ≡ t → IsBound s (if t then JBindRun s (JHide s jenv) else jenv)
    go true is = opened s u fr jenv
    go false is = bare s is

pub inside_found : (s : Stmts) (u : Used) → IsClear u s → (jenv : JEnv) (y : Name) → u y ≡ true → j_find y (inside s jenv) ≡ j_find y jenv
inside_found s u fr jenv y is = go (declares_any s)
  where
    go : (t : Bool) → j_find y (if t then JBindRun s (JHide s jenv) else jenv) ≡ j_find y jenv
    go true = still_found s u fr jenv y is
    go false = refl

-- one name more, and what was in use as before
pub record Extends (x : Name) (w : JVal) (u : Used) (jenv more : JEnv) : Type 0 where
  pub new : j_find x more ≡ Val w
  pub old : (y : Name) → u y ≡ true → j_find y more ≡ j_find y jenv

pub const_extends : (x : Name) (w : JVal) (u : Used) (s : Stmts) → u x ≡ false → IsClear (with_name x u) s → (jenv : JEnv) → Extends x w u jenv (JBindRun s (JBind x w jenv))
const_extends x w u s new fr jenv = record {
  new = skip_old s (with_name x u) fr x (newest u x) _ _ ∙ ap (λ t. if t then Val w else j_find x jenv) (name_itself x);
  old = λ y is. skip_old s (with_name x u) fr y (older u y x is) _ _ ∙ ap (λ t. if t then Val w else j_find y jenv) (apart u y x is new);
}

pub bound_after : (x : Name) (w : JVal) (u : Used) (s : Stmts) → IsClear (with_name x u) s → (jenv : JEnv) → IsBound s (JBindRun s (JBind x w jenv))
bound_after x w u s fr jenv = bound s (with_name x u) fr _ (JBind x w jenv) (λ y new. refl)

-- where fewer names are in use
pub fewer : (s : Stmts) (u v : Used) → ((y : Name) → v y ≡ true → u y ≡ true) → IsClear u s → IsClear v s
fewer (Const x e s) u v less fr = (new, fewer s (with_name x u) (with_name x v) (λ y. go y (same_name y x) (less y)) fr.1)
  where
    go : (y : Name) (t : Bool) → (v y ≡ true → u y ≡ true) → (if t then true else v y) ≡ true → (if t then true else u y) ≡ true
    go y true f e = refl
    go y false f e = f e

    new : v x ≡ false
    new = false_from_ne_true (v x) (λ e. let f = less x e in let g = fr.0 in absurd (cc))
fewer (Let x e s) u v less fr = (new, fewer s (with_name x u) (with_name x v) (λ y. go y (same_name y x) (less y)) fr.1)
  where
    go : (y : Name) (t : Bool) → (v y ≡ true → u y ≡ true) → (if t then true else v y) ≡ true → (if t then true else u y) ≡ true
    go y true f e = refl
    go y false f e = f e

    new : v x ≡ false
    new = false_from_ne_true (v x) (λ e. let f = less x e in let g = fr.0 in absurd (cc))
fewer (Assign x e s) u v less fr = fewer s u v less fr
fewer (Return e) u v less fr = tt
fewer (If c s t) u v less fr = tt
fewer (While s) u v less fr = tt
fewer Continue u v less fr = tt

-- The names of a scope, and the made names below a number.

abbrev pub used : Scope → ℕ → Used
used scope d (Made i) = nat_lt i d
used scope d (Local x) = among (source.Local x) scope
used scope d (Top m x) = among (source.Top m x) scope

pub used_ref : (scope : Scope) (d : ℕ) (x : Ref) → used scope d (js_name x) ≡ among x scope
used_ref scope d (source.Local x) = refl
used_ref scope d (source.Top m x) = refl

ref_name : (y : Name) (x : Ref) → (r : Ref) → js_name r ≡ y → same_name y (js_name x) ≡ same_ref r x
ref_name y (source.Local x) (source.Local z) e = ap (λ n. same_name n (Local x)) (sym e)
ref_name y (source.Local x) (source.Top m z) e = ap (λ n. same_name n (Local x)) (sym e)
ref_name y (source.Top m x) (source.Local z) e = ap (λ n. same_name n (Top m x)) (sym e)
ref_name y (source.Top m x) (source.Top n z) e = ap (λ n. same_name n (Top m x)) (sym e)

-- with a name more in scope
pub more_scope : (x : Ref) (scope : Scope) (d : ℕ) (y : Name) → with_name (js_name x) (used scope d) y ≡ used (x ∷ scope) d y
more_scope (source.Local x) scope d (Made i) = refl
more_scope (source.Top m x) scope d (Made i) = refl
more_scope x scope d (Local z) = ap (λ t. if t then true else among (source.Local z) scope) (ref_name (Local z) x (source.Local z) refl)
more_scope x scope d (Top m z) = ap (λ t. if t then true else among (source.Top m z) scope) (ref_name (Top m z) x (source.Top m z) refl)

less_than_next : (i d : ℕ) → i < d → nat_lt i d ≡ true
less_than_next i d l = lt-ltb i d l

-- with a made name more
pub more_made : (d next : ℕ) → d < next → (scope : Scope) (y : Name) → with_name (Made d) (used scope d) y ≡ true → used scope next y ≡ true
more_made d next l scope (Local z) e = e
more_made d next l scope (Top m z) e = e
more_made d next l scope (Made i) e = go (nat_eq i d) refl e
  where
    go : (t : Bool) → nat_eq i d ≡ t → (if t then true else nat_lt i d) ≡ true → nat_lt i next ≡ true
    go true is e = less_than_next i next (subst (λ k. k < next) (sym (eqb-true i d is)) l)
    go false is e = let f = ltb-true i d e in less_than_next i next (omega arith)

-- with more made names
pub more_below : (d next : ℕ) → d ≤ next → (scope : Scope) (y : Name) → used scope d y ≡ true → used scope next y ≡ true
more_below d next l scope (Local z) e = e
more_below d next l scope (Top m z) e = e
more_below d next l scope (Made i) e = let f = ltb-true i d e in less_than_next i next (omega arith)

-- a constant of the source, and one that is made
pub clear_const : (x : Ref) (s : Stmts) (scope : Scope) (d : ℕ) → among x scope ≡ false → IsClear (used (x ∷ scope) d) s → (used scope d (js_name x) ≡ false) × IsClear (with_name (js_name x) (used scope d)) s
clear_const x s scope d new fr = (used_ref scope d x ∙ new, fewer s (used (x ∷ scope) d) (with_name (js_name x) (used scope d)) (λ y f. sym (more_scope x scope d y) ∙ f) fr)

pub not_below_itself : (d : ℕ) → nat_lt d d ≡ false
not_below_itself d = false_from_ne_true (nat_lt d d) (λ e. let l = ltb-true d d e in absurd (omega arith))

pub clear_made : (s : Stmts) (scope : Scope) (d next : ℕ) → d < next → IsClear (used scope next) s → (used scope d (Made d) ≡ false) × IsClear (with_name (Made d) (used scope d)) s
clear_made s scope d next l fr = (not_below_itself d, fewer s (used scope next) (with_name (Made d) (used scope d)) (more_made d next l scope) fr)

pub clear_below : (s : Stmts) (scope : Scope) (d next : ℕ) → d ≤ next → IsClear (used scope next) s → IsClear (used scope d) s
clear_below s scope d next l fr = fewer s (used scope next) (used scope d) (more_below d next l scope) fr

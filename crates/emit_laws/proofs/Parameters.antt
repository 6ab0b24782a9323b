-- Parameters: what a call binds, and what the turn of a loop binds.
use Rattle.std.proofs.Common.{◌≡◌, ℕ, ◌+◌, [], ◌∷◌, true, false, refl, sym, ap, ◌∙◌, subst, arith, Some}
use Rattle.std.specs.Prelude.{if◌then◌else◌}
use Rattle.runs.specs.Ends.{Val}
use Rattle.elm_canon.specs.Names as source
use Rattle.elm_canon.specs.declared.reference.Ref.TheVariants as ref
use Rattle.elm_canon.specs.Tree.{Pattern, Anything, Named, As, Exactly, Construct, FieldsOf, LocatedPattern}
use Rattle.elm_canon.specs.Proper.{Scope, among, AreFresh, with_all, bound_by, ProperPattern}
use Rattle.elm_meaning.specs.Values.{Value, Env, Bind}
use Rattle.elm_meaning.specs.Match.{matches}
use Rattle.js_tree.specs.Tree.{Name, Local, Made, JVar, Stmts, declares}
use Rattle.js_meaning.specs.Values.{JVal, JEnv, JBind, j_find}
use Rattle.js_meaning.specs.Eval.{JCallee, JLoop, JAgain, j_exec, inside}
use Rattle.js_emit.specs.Patterns.{consts, made_one, parameter, parameter_consts}
use Rattle.std.proofs.lemmas.Bool.{lt-ltb}
use Rattle.emit_laws.specs.For.{For, ForEnv}
use Rattle.emit_laws.proofs.Names.{Used, used, used_ref, name_itself, apart, IsClear, IsBound, inside_bound, inside_found, not_again, more_below, Extends, clear_const, clear_made}
use Rattle.emit_laws.proofs.Clear.{clear_consts}
use Rattle.emit_laws.proofs.Envs.{for_keeps, for_bind}
use Rattle.emit_laws.proofs.Binding.{reads_name, more_used, pattern_goes}

-- a parameter has its own name, or a made one
pub data Parameter (d : ℕ) (p : Pattern) : Type 0 where
  own_name : (x : source.Name) → parameter d p ≡ Local x → ((s : Stmts) → parameter_consts d p s ≡ s) → bound_by p ≡ ref.Local x ∷ [] → made_one p ≡ 0
      → ((v : Value) (env : Env) → matches p v env ≡ Val (Some (Bind (ref.Local x) v env))) → Parameter d p
  made_name : parameter d p ≡ Made d → ((s : Stmts) → parameter_consts d p s ≡ consts p (JVar (Made d)) s) → made_one p ≡ 1 → Parameter d p

pub parameter_is : (d : ℕ) (p : Pattern) → Parameter d p
parameter_is d Anything = made_name refl (λ s. refl) refl
parameter_is d (Named x) = own_name x refl (λ s. refl) refl refl (λ v env. refl)
parameter_is d (As p x) = made_name refl (λ s. refl) refl
parameter_is d (Exactly l) = made_name refl (λ s. refl) refl
parameter_is d (Construct u a ps) = made_name refl (λ s. refl) refl
parameter_is d (FieldsOf xs) = made_name refl (λ s. refl) refl
parameter_is d (LocatedPattern place p) = go (parameter_is d p)
  where
    go : Parameter d p → Parameter d (LocatedPattern place p)
    go (own_name x a b c e f) = own_name x a b c e f
    go (made_name a b c) = made_name a b c

some_is : {A : Type 0} {a b : A} → Val (Some a) ≡ Val (Some b) → a ≡ b
some_is e = cc

-- a call with the parameter q, whose body begins with its names, goes on as s
pub record Enters (scope wider : Scope) (d next : ℕ) (inner : Env) (q : Name) (w : JVal) (first s : Stmts) (jenv : JEnv) : Type 0 where
  pub more : JEnv
  pub new : declares q first ≡ false
  pub runs : (call : JCallee) (loop : JLoop) (again : JAgain) (m : ℕ) → j_exec call loop again first (inside first (JBind q w jenv)) m ≡ j_exec call loop again s more m
  pub agrees : ForEnv wider inner more
  pub bound : IsBound s more

-- a name that is bound in front of a block
block_extends : (x : Name) (w : JVal) (u v : Used) (s : Stmts) (jenv : JEnv) → u x ≡ false → IsClear v s → v x ≡ true → ((y : Name) → u y ≡ true → v y ≡ true) → Extends x w u jenv (inside s (JBind x w jenv))
block_extends x w u v s jenv new clear is wider = record {
  new = inside_found s v clear (JBind x w jenv) x is ∙ ap (λ t. if t then Val w else j_find x jenv) (name_itself x);
  old = λ y k. inside_found s v clear (JBind x w jenv) y (wider y k) ∙ ap (λ t. if t then Val w else j_find y jenv) (apart u y x k new);
}

pub enters : (p : Pattern) (s : Stmts) (scope : Scope) (d : ℕ) {v : Value} {w : JVal} {env : Env} (inner : Env) {jenv : JEnv}
    → ProperPattern p → AreFresh (bound_by p) scope → IsClear (used (with_all (bound_by p) scope) (d + made_one p)) s → For v w → matches p v env ≡ Val (Some inner) → ForEnv scope env jenv
    → Enters scope (with_all (bound_by p) scope) d (d + made_one p) inner (parameter d p) w (parameter_consts d p s) s jenv
enters p s scope d {v} {w} {env} inner {jenv} pr fr clear r e re = go (parameter_is d p)
  where
    own : (x : source.Name) → among (ref.Local x) scope ≡ false → IsClear (used (ref.Local x ∷ scope) d) s → Bind (ref.Local x) v env ≡ inner → Enters scope (ref.Local x ∷ scope) d (d + made_one p) inner (Local x) w s s jenv
    own x new clear is =
        let c = clear_const (ref.Local x) s scope d new clear in
        let ex = block_extends (Local x) w (used scope d) (used (ref.Local x ∷ scope) d) s jenv c.0 clear (used_ref (ref.Local x ∷ scope) d (ref.Local x) ∙ newest_local x) (λ y k. more_used (ref.Local x) scope d y k) in
        record {
          more = inside s (JBind (Local x) w jenv);
          new = not_again (Local x) (used scope d) s c.1;
          runs = λ call loop again m. refl;
          agrees = subst (λ i. ForEnv (ref.Local x ∷ scope) i (inside s (JBind (Local x) w jenv))) is (for_bind d r re ex);
          bound = inside_bound s (used (ref.Local x ∷ scope) d) clear (JBind (Local x) w jenv);
        }
      where
        newest_local : (x : source.Name) → among (ref.Local x) (ref.Local x ∷ scope) ≡ true
        newest_local x = ap (λ t. if t then true else among (ref.Local x) scope) (name_itself (Local x))

    made : IsClear (used (with_all (bound_by p) scope) (d + 1)) s → Enters scope (with_all (bound_by p) scope) d (d + made_one p) inner (Made d) w (consts p (JVar (Made d)) s) s jenv
    made clear =
        let first = consts p (JVar (Made d)) s in
        let clear2 = clear_consts p (JVar (Made d)) s scope (d + 1) fr clear in
        let c = clear_made first scope d (d + 1) (omega arith) clear2 in
        let is = below_next d in
        let ex = block_extends (Made d) w (used scope d) (used scope (d + 1)) first jenv c.0 clear2 is (λ y k. more_below d (d + 1) (omega arith) scope y k) in
        let g = pattern_goes p (JVar (Made d)) s scope (d + 1) inner pr fr clear r (reads_name is ex.new) e (for_keeps d ex.old re) (inside_bound first (used scope (d + 1)) clear2 (JBind (Made d) w jenv)) in
        record {
          more = g.more;
          new = not_again (Made d) (used scope d) first c.1;
          runs = g.runs;
          agrees = g.agrees;
          bound = g.bound;
        }
      where
        below_next : (d : ℕ) → used scope (d + 1) (Made d) ≡ true
        below_next d = lt-ltb d (d + 1) (omega arith)

    go : Parameter d p → Enters scope (with_all (bound_by p) scope) d (d + made_one p) inner (parameter d p) w (parameter_consts d p s) s jenv
    go (own_name x is none bound nothing matched) =
        subst (λ q. Enters scope (with_all (bound_by p) scope) d (d + made_one p) inner q w (parameter_consts d p s) s jenv) (sym is)
        (subst (λ f. Enters scope (with_all (bound_by p) scope) d (d + made_one p) inner (Local x) w f s jenv) (sym (none s))
        (subst (λ xs. Enters scope (with_all xs scope) d (d + made_one p) inner (Local x) w s s jenv) (sym bound)
        (own x (subst (λ xs. AreFresh xs scope) bound fr).0
        (subst (λ k. IsClear (used (ref.Local x ∷ scope) k) s) (ap (λ k. d + k) nothing ∙ plain d) (subst (λ xs. IsClear (used (with_all xs scope) (d + made_one p)) s) bound clear))
        (some_is (sym (matched v env) ∙ e)))))
      where
        plain : (d : ℕ) → d + 0 ≡ d
        plain d = omega arith
    go (made_name is names one) =
        subst (λ q. Enters scope (with_all (bound_by p) scope) d (d + made_one p) inner q w (parameter_consts d p s) s jenv) (sym is)
        (subst (λ f. Enters scope (with_all (bound_by p) scope) d (d + made_one p) inner (Made d) w f s jenv) (sym (names s))
        (made (subst (λ k. IsClear (used (with_all (bound_by p) scope) (d + k)) s) one clear)))

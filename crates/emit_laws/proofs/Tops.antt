-- The lines of a program do what its declarations do.
use Rattle.std.proofs.Common.{◌≡◌, ℕ, zero, suc, ◌+◌, List, [], ◌∷◌, false, map, refl, sym, ap, ◌∙◌, subst, arith}
use Rattle.std.specs.Prelude.{if◌then◌else◌, ◌==◌}
use Rattle.std.proofs.lemmas.Bool.{eqb-true, false_from_ne_true}
use Rattle.runs.specs.Ends.{End, Val, then_do, MStuck}
use Rattle.runs.specs.Pay.{Follows, gives}
use Rattle.runs.proofs.Spends.{spends_none, spends_same, follows_after}
use Rattle.elm_canon.specs.declared.reference.Ref.{Ref}
use Rattle.elm_canon.specs.Tree as tree
use Rattle.elm_canon.specs.Tree.{Group, Together, Constant, Destructure, Functions, NoFunction, MoreFunction, Declaration, Define}
use Rattle.elm_canon.specs.Proper.{Scope, AreFresh, with_all, function_names, ProperFunctions}
use Rattle.elm_canon.specs.Declarations.{ProperDeclarations, after_declarations}
use Rattle.elm_meaning.specs.Functions.{Primitive, Bodiless, Given, Core, arity_of, primitive_arity}
use Rattle.elm_meaning.specs.Functions as source
use Rattle.elm_meaning.specs.Values.{KnownV, NoValue, Env, Bind, BindGroup}
use Rattle.elm_meaning.specs.Primitives.{finish, known}
use Rattle.elm_meaning.specs.Eval.{eval_with, call_at}
use Rattle.elm_meaning.specs.Run.{with_primitives, declare_with}
use Rattle.js_tree.specs.Tree.{Made, Js, JArrow, Stmts, Const, Return, Continue, Lines, as_statements}
use Rattle.js_meaning.specs.Values.{JVal, JCloV, JEnv, j_find}
use Rattle.js_meaning.specs.Eval.{JCallee, JLoop, JAgain, j_eval, j_exec, j_call, j_loop, nowhere}
use Rattle.js_emit.specs.Names.{js_name, made_names, vars, now}
use Rattle.js_emit.specs.Operators.{finish_js, arrows_of, bodiless_js}
use Rattle.js_emit.specs.Loops.{Outside}
use Rattle.js_emit.specs.Emit.{emit}
use Rattle.js_emit.specs.Program.{function_lines, declaration_lines, primitive_lines}
use Rattle.emit_laws.specs.Given.{ProperBodiless}
use Rattle.emit_laws.specs.For.{For, for_known, none_given, ForEnv}
use Rattle.emit_laws.specs.Sizes.{FewInDeclarations}
use Rattle.emit_laws.specs.Programs.{CanBeSaid}
use Rattle.emit_laws.proofs.Names.{used, IsClear, IsBound, clear_const, not_again}
use Rattle.emit_laws.proofs.Envs.{for_bind, for_functions, AnyBound, arrow_is}
use Rattle.emit_laws.proofs.Steps.{const_follows}
use Rattle.emit_laws.proofs.Constructs.{then_then}
use Rattle.emit_laws.proofs.Primitives.{arguments, Arguments, finished}
use Rattle.emit_laws.proofs.Whole.{all_mean}

-- ---- the names of lines are new

clear_functions : (fs : Functions) (ls : Lines) (main : Js) (scope : Scope) → AreFresh (function_names fs) scope → IsClear (used (with_all (function_names fs) scope) 0) (as_statements ls main) → IsClear (used scope 0) (as_statements (function_lines fs ls) main)
clear_functions NoFunction ls main scope fr c = c
clear_functions (MoreFunction title ps e fs) ls main scope fr c = clear_const title.name (as_statements (function_lines fs ls) main) scope 0 fr.0 (clear_functions fs ls main (title.name ∷ scope) fr.1 c)

clear_lines : (ds : List Declaration) (main : Js) (scope : Scope) → ProperDeclarations scope ds → IsClear (used scope 0) (as_statements (declaration_lines ds) main)
clear_lines [] main scope pr = tt
clear_lines (tree.Given r k ∷ ds) main scope pr = clear_const r (as_statements (declaration_lines ds) main) scope 0 pr.0.1.0 (clear_lines ds main (r ∷ scope) pr.1)
clear_lines (Define (Together fs) ∷ ds) main scope pr = clear_functions fs (declaration_lines ds) main scope pr.0.1.0 (clear_lines ds main (with_all (function_names fs) scope) pr.1)
clear_lines (Define (Constant title e) ∷ ds) main scope pr = clear_const title.name (as_statements (declaration_lines ds) main) scope 0 pr.0.1.1.0 (clear_lines ds main (title.name ∷ scope) pr.1)
clear_lines (Define (Destructure p e) ∷ ds) main scope pr = let no_line = pr.0.0 in absurd (cc)

abbrev names_of : List (Ref × Primitive) → List Ref
names_of ps = map (λ p. p.0) ps

clear_primitives : (ps : List (Ref × Primitive)) (ls : Lines) (main : Js) (scope : Scope) → AreFresh (names_of ps) scope → IsClear (used (with_all (names_of ps) scope) 0) (as_statements ls main) → IsClear (used scope 0) (as_statements (primitive_lines ps ls) main)
clear_primitives [] ls main scope fr c = c
clear_primitives (p ∷ ps) ls main scope fr c = clear_const p.0 (as_statements (primitive_lines ps ls) main) scope 0 fr.0 (clear_primitives ps ls main (p.0 ∷ scope) fr.1 c)

-- ---- groups of functions

skipped : (fs : Functions) (ls : Lines) (main : Js) (scope : Scope) → AreFresh (function_names fs) scope → IsClear (used (with_all (function_names fs) scope) 0) (as_statements ls main) → (big : Scope) → ProperFunctions big fs
    → (call : JCallee) (loop : JLoop) (again : JAgain) (jenv : JEnv) (m : ℕ) → j_exec call loop again (as_statements (function_lines fs ls) main) jenv m ≡ j_exec call loop again (as_statements ls main) jenv m
skipped NoFunction ls main scope fr clear big pr call loop again jenv m = refl
skipped (MoreFunction title ps e fs) ls main scope fr clear big pr call loop again jenv m =
    let rest = as_statements (function_lines fs ls) main in
    let a = arrow_is big 0 title.name ps e pr.1.0 pr.1.1.1.0 in
    let c = clear_const title.name rest scope 0 fr.0 (clear_functions fs ls main (title.name ∷ scope) fr.1 clear) in
    ap (λ x. j_exec call loop again (Const (js_name title.name) (now x) rest) jenv m) a.2
    ∙ ap (λ t. if t then MStuck else j_exec call loop again rest jenv m) (not_again (js_name title.name) (used scope 0) rest c.1)
    ∙ skipped fs ls main (title.name ∷ scope) fr.1 clear big pr.1.1.1.1 call loop again jenv m

lines_bound : (fs : Functions) (ls : Lines) (main : Js) (scope : Scope) (jenv : JEnv) → ProperFunctions scope fs → IsBound (as_statements (function_lines fs ls) main) jenv → AnyBound fs jenv × IsBound (as_statements ls main) jenv
lines_bound NoFunction ls main scope jenv pr bd = (tt, bd)
lines_bound (MoreFunction title ps e fs) ls main scope jenv pr bd =
    let a = arrow_is scope 0 title.name ps e pr.1.0 pr.1.1.1.0 in
    let b : IsBound (Const (js_name title.name) (JArrow a.0 a.1) (as_statements (function_lines fs ls) main)) jenv = subst (λ x. IsBound (Const (js_name title.name) (now x) (as_statements (function_lines fs ls) main)) jenv) a.2 bd in
    let r = lines_bound fs ls main scope jenv pr.1.1.1.1 b.1 in
    (((0, λ q t is. subst (λ x. j_find (js_name title.name) jenv ≡ Val (arrow_value x)) (sym a.2 ∙ is) b.0), r.0), r.1)
  where
    arrow_value : Stmts → JVal
    arrow_value (Return (JArrow q t)) = JCloV jenv q t
    arrow_value _ = JCloV jenv (js_name title.name) Continue

-- ---- functions without a body

pub bodiless_follows : (n : ℕ) (f : Bodiless) (jenv : JEnv) → ProperBodiless f → Follows For n (known f NoValue) (λ b m. j_eval (j_call b) (j_loop b) (bodiless_js f) jenv m)
bodiless_follows n f jenv pr = go (arity_of f) refl
  where
    go : (k : ℕ) → arity_of f ≡ k → Follows For n (known f NoValue) (λ b m. j_eval (j_call b) (j_loop b) (bodiless_js f) jenv m)
    go zero e =
        subst (λ t. Follows For n (if t then finish f NoValue else Val (KnownV f NoValue)) (λ b m. j_eval (j_call b) (j_loop b) (bodiless_js f) jenv m)) (ap (λ z. 0 == z) (sym e))
        (subst (λ z. Follows For n (finish f NoValue) (λ b m. j_eval (j_call b) (j_loop b) (now (arrows_of (made_names 0 z) (Return (finish_js f (vars (made_names 0 (arity_of f))))))) jenv m)) (sym e)
        (finished n f jenv pr (subst (λ z. Arguments z NoValue jenv) (sym e) (arguments none_given))))
    go (suc k) e =
        let rest = JCloV jenv (Made 0) (arrows_of (made_names 1 k) (Return (finish_js f (vars (made_names 0 (arity_of f)))))) in
        subst (λ t. Follows For n (if t then finish f NoValue else Val (KnownV f NoValue)) (λ b m. j_eval (j_call b) (j_loop b) (bodiless_js f) jenv m)) (sym (ap (λ z. 0 == z) e ∙ not_none k))
        (subst (λ z. Follows For n (Val (KnownV f NoValue)) (λ b m. j_eval (j_call b) (j_loop b) (now (arrows_of (made_names 0 z) (Return (finish_js f (vars (made_names 0 (arity_of f))))))) jenv m)) (sym e)
        (gives rest (for_known 0 k pr none_given (e ∙ plain k)) spends_none))
      where
        not_none : (k : ℕ) → (0 == suc k) ≡ false
        not_none k = false_from_ne_true (0 == suc k) (λ e. let f = eqb-true 0 (suc k) e in absurd (cc))

        plain : (k : ℕ) → suc k ≡ 0 + suc k
        plain k = omega arith

-- each function of the core takes an argument
unsaturated : (p : Primitive) → known (Core p) NoValue ≡ Val (KnownV (Core p) NoValue)
unsaturated source.Crash = refl
unsaturated source.Remainder = refl
unsaturated source.Modulo = refl
unsaturated source.BitAnd = refl
unsaturated source.BitOr = refl
unsaturated source.BitXor = refl
unsaturated source.BitNot = refl
unsaturated source.ShiftLeft = refl
unsaturated source.ShiftRight = refl
unsaturated source.ShiftRightZero = refl
unsaturated source.FromInt = refl
unsaturated source.Length = refl
unsaturated source.UnitAt = refl
unsaturated source.FromUnit = refl
unsaturated source.Slice = refl
unsaturated source.Find = refl
unsaturated source.Same = refl
unsaturated source.Compare = refl

-- ---- declarations in order

module _ (n : ℕ) {A : Type 0} {R : A → JVal → Type 0} (main : Js) (go : Env → End A) (final : Scope) (ending : (env : Env) (jenv : JEnv) → ForEnv final env jenv → Follows R n (go env) (λ b m. j_eval (j_call b) (j_loop b) main jenv m)) where
  abbrev Runs : End A → Lines → JEnv → Type 0
  Runs o ls jenv = Follows R n o (λ b m. j_exec (j_call b) (j_loop b) nowhere (as_statements ls main) jenv m)

  declared_follow : (ds : List Declaration) (scope : Scope) → after_declarations ds scope ≡ final → ProperDeclarations scope ds → CanBeSaid ds → FewInDeclarations ds → (env : Env) (jenv : JEnv) → ForEnv scope env jenv → IsBound (as_statements (declaration_lines ds) main) jenv
      → Runs (then_do (declare_with (call_at n) ds env) go) (declaration_lines ds) jenv
  declared_follow [] scope is pr said few env jenv re bd = ending env jenv (subst (λ z. ForEnv z env jenv) is re)
  declared_follow (tree.Given r k ∷ ds) scope is pr said few env jenv re bd =
      let rest = as_statements (declaration_lines ds) main in
      let c = clear_const r rest scope 0 pr.0.1.0 (clear_lines ds main (r ∷ scope) pr.1) in
      subst (λ o. Runs o (declaration_lines (tree.Given r k ∷ ds)) jenv) (sym (then_then (known (Given k) NoValue) (λ v. declare_with (call_at n) ds (Bind r v env)) go))
      (const_follows (λ v. then_do (declare_with (call_at n) ds (Bind r v env)) go) (used scope 0) (js_name r) (bodiless_js (Given k)) rest jenv (λ _. nowhere) c.0 c.1 bd (bodiless_follows n (Given k) jenv said.0) (λ v w more rv step.
      declared_follow ds (r ∷ scope) is pr.1 said.1 few (Bind r v env) more (for_bind 0 rv re step.extends) step.bound))
  declared_follow (Define (Together fs) ∷ ds) scope is pr said few env jenv re bd =
      let inner = with_all (function_names fs) scope in
      let both = lines_bound fs (declaration_lines ds) main inner jenv pr.0.1.1 bd in
      follows_after (spends_same (λ b m. skipped fs (declaration_lines ds) main scope pr.0.1.0 (clear_lines ds main inner pr.1) inner pr.0.1.1 (j_call b) (j_loop b) nowhere jenv m))
      (declared_follow ds inner is pr.1 said few.1 (BindGroup fs env) jenv (for_functions fs pr.0.1.0 pr.0.1.1 few.0 both.0 re) both.1)
  declared_follow (Define (Constant title e) ∷ ds) scope is pr said few env jenv re bd =
      let rest = as_statements (declaration_lines ds) main in
      let c = clear_const title.name rest scope 0 pr.0.1.1.0 (clear_lines ds main (title.name ∷ scope) pr.1) in
      subst (λ o. Runs o (declaration_lines (Define (Constant title e) ∷ ds)) jenv)
      (sym (ap (λ o. then_do o go) (then_then (eval_with (call_at n) e env) (λ v. Val (Bind title.name v env)) (λ inner. declare_with (call_at n) ds inner)) ∙ then_then (eval_with (call_at n) e env) (λ v. declare_with (call_at n) ds (Bind title.name v env)) go))
      (const_follows (λ v. then_do (declare_with (call_at n) ds (Bind title.name v env)) go) (used scope 0) (js_name title.name) (now (emit 0 Outside e)) rest jenv (λ _. nowhere) c.0 c.1 bd (((all_mean n) e Outside scope 0 pr.0.1.1.1 few.0).gives tt env jenv re) (λ v w more rv step.
      declared_follow ds (title.name ∷ scope) is pr.1 said few.1 (Bind title.name v env) more (for_bind 0 rv re step.extends) step.bound))
  declared_follow (Define (Destructure p e) ∷ ds) scope is pr said few env jenv re bd = let no_line = pr.0.0 in absurd (cc)

  pub primitives_follow : (ps : List (Ref × Primitive)) (ds : List Declaration) (scope : Scope) → AreFresh (names_of ps) scope → after_declarations ds (with_all (names_of ps) scope) ≡ final → ProperDeclarations (with_all (names_of ps) scope) ds → CanBeSaid ds → FewInDeclarations ds
      → (env : Env) (jenv : JEnv) → ForEnv scope env jenv → IsBound (as_statements (primitive_lines ps (declaration_lines ds)) main) jenv
      → Runs (then_do (declare_with (call_at n) ds (with_primitives ps env)) go) (primitive_lines ps (declaration_lines ds)) jenv
  primitives_follow [] ds scope fr is pr said few env jenv re bd = declared_follow ds scope is pr said few env jenv re bd
  primitives_follow (p ∷ ps) ds scope fr is pr said few env jenv re bd =
      let ls = declaration_lines ds in
      let rest = as_statements (primitive_lines ps ls) main in
      let c = clear_const p.0 rest scope 0 fr.0 (clear_primitives ps ls main (p.0 ∷ scope) fr.1 (clear_lines ds main (with_all (names_of ps) (p.0 ∷ scope)) pr)) in
      const_follows {o = Val (KnownV (Core p.1) NoValue)} (λ v. then_do (declare_with (call_at n) ds (with_primitives ps (Bind p.0 v env))) go) (used scope 0) (js_name p.0) (bodiless_js (Core p.1)) rest jenv (λ _. nowhere) c.0 c.1 bd
      (subst (λ o. Follows For n o (λ b m. j_eval (j_call b) (j_loop b) (bodiless_js (Core p.1)) jenv m)) (unsaturated p.1) (bodiless_follows n (Core p.1) jenv tt)) (λ v w more rv step.
      primitives_follow ps ds (p.0 ∷ scope) fr.1 is pr said few (Bind p.0 v env) more (for_bind 0 rv re step.extends) step.bound)

-- all names of a program's lines are new
pub program_clear : (ps : List (Ref × Primitive)) (ds : List Declaration) (main : Js) → AreFresh (names_of ps) [] → ProperDeclarations (with_all (names_of ps) []) ds → IsClear (used [] 0) (as_statements (primitive_lines ps (declaration_lines ds)) main)
program_clear ps ds main fr pr = clear_primitives ps (declaration_lines ds) main [] fr (clear_lines ds main (with_all (names_of ps) []) pr)

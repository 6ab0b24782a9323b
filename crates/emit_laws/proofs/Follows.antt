-- Whole expressions do what they do, at each fuel, where operators, loops and functions without a body do.
use Rattle.std.proofs.Common.{◌≡◌, ℕ, zero, suc, ◌+◌, refl, sym, subst}
use Rattle.runs.specs.Ends.{End, Stuck}
use Rattle.runs.specs.Pay.{Run, Follows, unclaimed_stuck}
use Rattle.runs.proofs.Spends.{behind}
use Rattle.elm_canon.specs.declared.reference.Ref.{Ref}
use Rattle.elm_canon.specs.Tree.{Pattern, Patterns, NoPattern, MorePattern, Expr}
use Rattle.elm_canon.specs.Proper.{Scope, count_of}
use Rattle.elm_meaning.specs.Functions.{Bodiless, arity_of}
use Rattle.elm_meaning.specs.Values.{Value, CloV, KnownV, Values, Env}
use Rattle.elm_meaning.specs.Eval.{enter, call_at}
use Rattle.js_tree.specs.Tree.{Name, Made, JArrow, Stmts, Return}
use Rattle.js_meaning.specs.Values.{JVal, JCloV, JEnv}
use Rattle.js_emit.specs.Names.{made_names, vars}
use Rattle.js_emit.specs.Operators.{arrows_of, finish_js}
use Rattle.js_emit.specs.Emit.{emit, looped}
use Rattle.emit_laws.specs.Given.{ProperBodiless}
use Rattle.emit_laws.specs.For.{For, for_int, for_text, for_number, for_truth, for_blank, for_record, for_wire, for_function, for_started, for_getter, for_known, made_arrows, made_turns, IsTurning, ForEnv, Started, not_started, GivenSo, turns}
use Rattle.emit_laws.proofs.Spots.{CallsFollow}
use Rattle.emit_laws.proofs.Expressions.{PerformsFollow, RoundsFollow, AllMeanSo, means}
use Rattle.emit_laws.proofs.Calls.{paid, called_behind, Lower, arrows_called, early_started, getter_called}

-- the last call of a loop
abbrev pub LastFollows : ℕ → Type 0
LastFollows n =
    (scope : Scope) (d next : ℕ) (f : Ref) (env inner : Env) (jenv more : JEnv) (ps : Patterns) (p : Pattern) (e : Expr) → IsTurning scope env f ps e → ForEnv scope env jenv
    → Started d ps env jenv next (MorePattern p NoPattern) inner more → (v : Value) (w : JVal) → For v w
    → Follows For n (call_at n (CloV inner (MorePattern p NoPattern) e) v) (behind (paid (JCloV more (Made next) (turns d f ps e)) w))

-- a call of a function without a body
abbrev pub KnownFollows : ℕ → Type 0
KnownFollows n =
    (f : Bodiless) (vs : Values) (more : JEnv) (next left : ℕ) → ProperBodiless f → GivenSo next vs more → arity_of f ≡ next + suc left → (v : Value) (w : JVal) → For v w
    → Follows For n (call_at n (KnownV f vs) v) (behind (paid (JCloV more (Made next) (arrows_of (made_names (suc next) left) (Return (finish_js f (vars (made_names 0 (arity_of f))))))) w))

-- what is no function
no_call : (n : ℕ) (f v : Value) (k : Run JVal) → ((body : Expr → Env → End Value) → enter body f v ≡ Stuck) → Follows For n (call_at n f v) k
no_call zero f v k h = subst (λ o. Follows For zero o k) (sym (h _)) unclaimed_stuck
no_call (suc n) f v k h = subst (λ o. Follows For (suc n) o k) (sym (h _)) unclaimed_stuck

abbrev arrow_value : JEnv → Stmts → JVal
arrow_value jenv (Return (JArrow q s)) = JCloV jenv q s
arrow_value jenv s = JCloV jenv (Made 0) s

module _ (n : ℕ) (less : Lower n) (last : LastFollows n) (known : KnownFollows n) where
  -- a loop without arguments yet
  turns_called : (env : Env) (jenv : JEnv) (ps : Patterns) (e : Expr) (q : Name) (s : Stmts) (d : ℕ) (f : Ref) (scope : Scope) → IsTurning scope env f ps e → looped d f ps (λ loop next. emit next loop e) ≡ Return (JArrow q s) → ForEnv scope env jenv → (v : Value) (w : JVal) → For v w
      → Follows For n (call_at n (CloV env ps e) v) (behind (paid (JCloV jenv q s) w))
  turns_called env jenv NoPattern e q s d f scope turning is re v w rv = let l = turning.loops in absurd (cc)
  turns_called env jenv (MorePattern p NoPattern) e q s d f scope turning is re v w rv =
      subst (λ x. Follows For n (call_at n (CloV env (MorePattern p NoPattern) e) v) (behind (paid (arrow_value jenv x) w))) is (last scope d d f env env jenv jenv (MorePattern p NoPattern) p e turning re not_started v w rv)
  turns_called env jenv (MorePattern p (MorePattern p2 rest)) e q s d f scope turning is re v w rv =
      subst (λ x. Follows For n (call_at n (CloV env (MorePattern p (MorePattern p2 rest)) e) v) (behind (paid (arrow_value jenv x) w))) is
      (early_started n scope d d (count_of rest) f env env jenv jenv (MorePattern p (MorePattern p2 rest)) p p2 rest e turning re not_started refl v w rv)

  -- a loop with some arguments
  started_called : (scope : Scope) (d next left : ℕ) (f : Ref) (env inner : Env) (jenv more : JEnv) (ps rest : Patterns) (e : Expr) → IsTurning scope env f ps e → ForEnv scope env jenv → Started d ps env jenv next rest inner more → count_of rest ≡ suc left → (v : Value) (w : JVal) → For v w
      → Follows For n (call_at n (CloV inner rest e) v) (behind (paid (JCloV more (Made next) (arrows_of (made_names (suc next) left) (turns d f ps e))) w))
  started_called scope d next left f env inner jenv more ps NoPattern e turning re started count v w rv = absurd (cc)
  started_called scope d next zero f env inner jenv more ps (MorePattern p NoPattern) e turning re started count v w rv = last scope d next f env inner jenv more ps p e turning re started v w rv
  started_called scope d next (suc left) f env inner jenv more ps (MorePattern p NoPattern) e turning re started count v w rv = absurd (cc)
  started_called scope d next zero f env inner jenv more ps (MorePattern p (MorePattern p2 rest)) e turning re started count v w rv = absurd (cc)
  started_called scope d next (suc left) f env inner jenv more ps (MorePattern p (MorePattern p2 rest)) e turning re started count v w rv =
      early_started n scope d next left f env inner jenv more ps p p2 rest e turning re started (cc) v w rv

  -- a call takes one unit in JavaScript
  entered : (f a : Value) (g w : JVal) → For f g → For a w → Follows For n (call_at n f a) (behind (paid g w))
  entered f a g w (for_function {env} {jenv} {ps} {e} {q} {s} scope (made_arrows d binds pr few is) re) ra = arrows_called n less env jenv ps e q s d scope binds pr few is re a w ra
  entered f a g w (for_function {env} {jenv} {ps} {e} {q} {s} scope (made_turns d r turning is) re) ra = turns_called env jenv ps e q s d r scope turning is re a w ra
  entered f a g w (for_started {env} {inner} {jenv} {more} {ps} {rest} {e} scope d next left r turning re started count) ra = started_called scope d next left r env inner jenv more ps rest e turning re started count a w ra
  entered f a g w (for_getter {k} {jenv} d) ra = getter_called n k d jenv a w ra
  entered f a g w (for_known {f = b} {vs} {more} next left proper given is) ra = known b vs more next left proper given is a w ra
  entered f a g w for_int ra = no_call n f a (behind (paid g w)) (λ body. refl)
  entered f a g w for_text ra = no_call n f a (behind (paid g w)) (λ body. refl)
  entered f a g w (for_number few ps) ra = no_call n f a (behind (paid g w)) (λ body. refl)
  entered f a g w for_truth ra = no_call n f a (behind (paid g w)) (λ body. refl)
  entered f a g w for_blank ra = no_call n f a (behind (paid g w)) (λ body. refl)
  entered f a g w (for_record x y z) ra = no_call n f a (behind (paid g w)) (λ body. refl)
  entered f a g w (for_wire x y) ra = no_call n f a (behind (paid g w)) (λ body. refl)

  pub calls_follow : CallsFollow n
  calls_follow f a g w rf ra = called_behind g w (entered f a g w rf ra)

-- Whole expressions, by induction on the fuel of the source.
module _ (performs : (n : ℕ) → PerformsFollow n) (rounds : (n : ℕ) → Lower n → RoundsFollow n) (last : (n : ℕ) → Lower n → LastFollows n) (known : (n : ℕ) → KnownFollows n) where
  pub expressions_follow : (n : ℕ) → AllMeanSo n
  expressions_follow zero = means zero (calls_follow zero tt (last zero tt) (known zero)) (rounds zero tt) (performs zero)
  expressions_follow (suc n) =
      let less = expressions_follow n in
      means (suc n) (calls_follow (suc n) less (last (suc n) less) (known (suc n))) (rounds (suc n) less) (performs (suc n))

-- What stands for what: values of the output for values of the source, and environments that agree on the names in
-- scope.
--
-- A function of the output stands for one of the source where it is what is emitted for it, over an environment that
-- agrees. Environments agree by what is found in them, whatever else they have. A group of functions is one entry, so
-- that this is finite.
use Rattle.std.specs.Prelude.{◌≡◌, ℕ, suc, ◌+◌, ◌<◌, ℤ, pos, List, Bool, true, not, ◌&&◌, codes}
use Rattle.std.specs.Str.{bytes_eq}
use Rattle.wire_value.specs.Wire.{Wire}
use Rattle.runs.specs.Ends.{End, Val, Stuck}
use Rattle.emit_laws.specs.Records.{Rises}
use Rattle.elm_canon.specs.Names.{Name}
use Rattle.elm_canon.specs.declared.reference.Ref.{Ref}
use Rattle.elm_canon.specs.declared.unions.Tag.TheVariants.{Number, Truth, Blank}
use Rattle.elm_canon.specs.Tree.{Pattern, Patterns, MorePattern, Expr}
use Rattle.elm_canon.specs.Proper.{Scope, IsIn, BindsAll, Proper, all_bound_by, with_all, count_of}
use Rattle.elm_meaning.specs.Functions.{Bodiless, Getter, arity_of}
use Rattle.elm_meaning.specs.Values.{Value, IntV, TextV, TagV, RecordV, CloV, KnownV, WireV, Values, NoValue, MoreValue}
use Rattle.elm_meaning.specs.Values.{FieldValues, append_values, field_in, Env}
use Rattle.elm_meaning.specs.Values.{count_of as values_count}
use Rattle.elm_meaning.specs.Envs.{lookup}
use Rattle.elm_meaning.specs.Match.{matches}
use Rattle.std.specs.Prelude.{Some}
use Rattle.js_tree.specs.Tree as js
use Rattle.js_tree.specs.Tree.{Made, JVar, JArrow, JProperty, Stmts, Return, While}
use Rattle.js_meaning.specs.Values.{JVal, JNumV, JBoolV, JTextV, JArrayV, JObjV, JCloV, JVals, NoJVal, MoreJVal}
use Rattle.js_meaning.specs.Values.{JFields}
use Rattle.js_meaning.specs.Values.{NoJField, MoreJField, JEnv, JBind, j_find, has_field}
use Rattle.js_meaning.specs.Values as values
use Rattle.js_meaning.specs.Lists.{part_name, tagged}
use Rattle.js_meaning.specs.Run.{wire_of}
use Rattle.js_emit.specs.Names.{js_name, made_names, vars}
use Rattle.js_emit.specs.Patterns.{made_for, arrows}
use Rattle.js_emit.specs.Operators.{arrows_of, finish_js}
use Rattle.js_emit.specs.Loops.{Outside, lets, turn}
use Rattle.js_emit.specs.Made.{is_loop, loop_of}
use Rattle.js_emit.specs.Emit.{emit, looped}
use Rattle.emit_laws.specs.Given.{ProperBodiless}
use Rattle.emit_laws.specs.Sizes.{FewParts}

-- ---- wire values

-- no object in it has a tag
abbrev mutual
  pub is_untagged : JVal → Bool
  is_untagged (JArrayV vs) = are_untagged vs
  is_untagged (JObjV fs) = fields_untagged fs
  is_untagged v = true

  pub are_untagged : JVals → Bool
  are_untagged NoJVal = true
  are_untagged (MoreJVal v vs) = is_untagged v && are_untagged vs

  pub fields_untagged : JFields → Bool
  fields_untagged NoJField = true
  fields_untagged (MoreJField k v fs) = not (bytes_eq k (codes "$")) && (is_untagged v && fields_untagged fs)

-- ---- records

-- fields of different names, none of which is a tag
abbrev pub is_record : JFields → Bool
is_record NoJField = true
is_record (MoreJField k v fs) = not (bytes_eq k (codes "$")) && (not (has_field k fs) && is_record fs)

-- ---- functions

-- what a loop does once it has all its arguments
abbrev pub turns : ℕ → Ref → Patterns → Expr → Stmts
turns d f ps e =
    let n = count_of ps in
    lets (made_names (d + n) n) (made_names d n)
    (While (turn (d + n + n) ps (made_names (d + n) n) (emit (d + n + n + made_for ps) (loop_of d f ps) e)))

-- A function f that is a loop, and that is found in its own environment.
pub record IsTurning (scope : Scope) (env : Env) (f : Ref) (ps : Patterns) (e : Expr) : Type 0 where
  pub loops : is_loop f ps e ≡ true
  pub binds : BindsAll ps scope
  pub proper : Proper (with_all (all_bound_by ps) scope) e
  pub few : FewParts e
  pub inside : IsIn f scope
  pub itself : lookup f env ≡ Val (CloV env ps e)

-- The parameter and the body that are emitted for a function of these parameters.
pub data MadeAs (scope : Scope) (env : Env) : Patterns → Expr → js.Name → Stmts → Type 0 where
  -- a lambda, or what is left of a function's parameters
  made_arrows : {ps : Patterns} {e : Expr} {q : js.Name} {s : Stmts} (d : ℕ)
      → BindsAll ps scope → Proper (with_all (all_bound_by ps) scope) e → FewParts e
      → arrows d ps (emit (d + made_for ps) Outside e) ≡ Return (JArrow q s) → MadeAs scope env ps e q s
  -- a loop
  made_turns : {ps : Patterns} {e : Expr} {q : js.Name} {s : Stmts} (d : ℕ) (f : Ref) → IsTurning scope env f ps e
      → looped d f ps (λ loop next. emit next loop e) ≡ Return (JArrow q s) → MadeAs scope env ps e q s

-- ---- values

mutual
  pub data For : Value → JVal → Type 0 where
    for_int : {n : ℤ} → For (IntV n) (JNumV n)
    for_text : {t : List ℕ} → For (TextV t) (JTextV t)
    -- a constructor has fewer than 2 ^ 32 fields, whose names differ then
    for_number : {k : ℤ} {vs : Values} {ws : JFields} → values_count vs < 4294967296 → ForParts 0 vs ws
        → For (TagV (Number k) vs) (tagged k ws)
    for_truth : {b : Bool} → For (TagV (Truth b) NoValue) (JBoolV b)
    for_blank : For (TagV Blank NoValue) (JNumV (pos 0))
    -- a record's fields stand in the order of their names, an object's as they are written
    for_record : {fs : FieldValues} {gs : JFields} → Rises fs → is_record gs ≡ true
        → ((k : Name) → ForField (field_in k fs) (values.field_in k gs)) → For (RecordV fs) (JObjV gs)
    for_wire : {w : Wire} {v : JVal} → wire_of v ≡ Val w → is_untagged v ≡ true → For (WireV w) v
    -- a function that has all its parameters to come, or one without a loop
    for_function : {env : Env} {jenv : JEnv} {ps : Patterns} {e : Expr} {q : js.Name} {s : Stmts} (scope : Scope)
        → MadeAs scope env ps e q s → ForEnv scope env jenv → For (CloV env ps e) (JCloV jenv q s)
    -- a loop that has some of its arguments, with the next made parameter
    for_started : {env inner : Env} {jenv more : JEnv} {ps rest : Patterns} {e : Expr} (scope : Scope)
        (d next left : ℕ) (f : Ref)
        → IsTurning scope env f ps e → ForEnv scope env jenv
        → Started d ps env jenv next rest inner more → count_of rest ≡ suc left
        → For (CloV inner rest e) (JCloV more (Made next) (arrows_of (made_names (suc next) left) (turns d f ps e)))
    -- .x
    for_getter : {k : Name} {jenv : JEnv} (d : ℕ)
        → For (KnownV (Getter k) NoValue) (JCloV jenv (Made d) (Return (JProperty (JVar (Made d)) k)))
    -- a function without a body that has some of its arguments, with the next made parameter
    for_known : {f : Bodiless} {vs : Values} {more : JEnv} (next left : ℕ)
        → ProperBodiless f → GivenSo next vs more → arity_of f ≡ next + suc left
        → For (KnownV f vs) (JCloV more (Made next) (arrows_of (made_names (suc next) left)
        (Return (finish_js f (vars (made_names 0 (arity_of f)))))))

  -- the parts from the i-th on
  pub data ForParts : ℕ → Values → JFields → Type 0 where
    no_part : {i : ℕ} → ForParts i NoValue NoJField
    more_part : {i : ℕ} {v : Value} {w : JVal} {vs : Values} {ws : JFields}
        → For v w → ForParts (suc i) vs ws → ForParts i (MoreValue v vs) (MoreJField (part_name i) w ws)

  -- what is found under a name
  pub data ForField : End Value → End JVal → Type 0 where
    no_field : ForField Stuck Stuck
    one_field : {v : Value} {w : JVal} → For v w → ForField (Val v) (Val w)

  -- Of the parameters, from that number on, some have their arguments: the next number, what is left of them, and the
  -- environments with what they bind.
  pub data Started : ℕ → Patterns → Env → JEnv → ℕ → Patterns → Env → JEnv → Type 0 where
    not_started : {d : ℕ} {ps : Patterns} {env : Env} {jenv : JEnv} → Started d ps env jenv d ps env jenv
    one_more : {d next : ℕ} {p : Pattern} {ps rest : Patterns} {env inner inner2 : Env} {jenv more : JEnv}
        {v : Value} {w : JVal}
        → Started d ps env jenv next (MorePattern p rest) inner more → For v w → matches p v inner ≡ Val (Some inner2)
        → Started d ps env jenv (suc next) rest inner2 (JBind (Made next) w more)

  -- arguments in turn, under made names from 0 on, and the next number
  pub data GivenSo : ℕ → Values → JEnv → Type 0 where
    none_given : {jenv : JEnv} → GivenSo 0 NoValue jenv
    one_given : {next : ℕ} {vs : Values} {more : JEnv} {v : Value} {w : JVal}
        → GivenSo next vs more → For v w
        → GivenSo (suc next) (append_values vs (MoreValue v NoValue)) (JBind (Made next) w more)

  -- what is in scope is found on both sides
  pub data ForEnv : Scope → Env → JEnv → Type 0 where
    agree : {scope : Scope} {env : Env} {jenv : JEnv}
        → ((x : Ref) → IsIn x scope → ForFound scope env jenv (lookup x env) (j_find (js_name x) jenv))
        → ForEnv scope env jenv

  -- values that stand for each other, or functions over these very environments
  pub data ForFound : Scope → Env → JEnv → End Value → End JVal → Type 0 where
    for_found : {scope : Scope} {env : Env} {jenv : JEnv} {v : Value} {w : JVal}
        → For v w → ForFound scope env jenv (Val v) (Val w)
    for_member : {scope : Scope} {env : Env} {jenv : JEnv} {ps : Patterns} {e : Expr} {q : js.Name} {s : Stmts}
        → MadeAs scope env ps e q s → ForFound scope env jenv (Val (CloV env ps e)) (Val (JCloV jenv q s))

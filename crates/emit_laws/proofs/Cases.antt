-- A case takes the branch that its rows pick.
use Rattle.std.proofs.Common.{◌≡◌, ℕ, zero, suc, List, [], ◌∷◌, Bool, true, false, refl, ap, ◌∙◌, Option, Some, None, ◌+◌, arith}
use Rattle.std.specs.Prelude.{if◌then◌else◌}
use Rattle.std.specs.Str.{bytes_eq}
use Rattle.runs.specs.Ends.{End, Val, Stuck, then_do, with_budget}
use Rattle.elm_canon.specs.Names.{Name}
use Rattle.elm_canon.specs.declared.reference.Ref.TheVariants.{Local}
use Rattle.elm_canon.specs.Unions.{alternatives}
use Rattle.elm_canon.specs.declared.tree.Literal.{Literal}
use Rattle.elm_canon.specs.declared.tree.Literal.TheVariants as literal
use Rattle.elm_canon.specs.Tree.{Pattern, Anything, Named, As, Exactly, Construct, FieldsOf, LocatedPattern, Patterns, NoPattern, MorePattern, Expr, Branches, NoBranch, MoreBranch}
use Rattle.elm_meaning.specs.Values.{Value, IntV, TextV, TagV, RecordV, CloV, KnownV, WireV, Values, NoValue, MoreValue, FieldValues, NoFieldV, MoreFieldV, Env, Bind, field_in}
use Rattle.elm_meaning.specs.Match.{is_literal, is_of, is_of_one, and_match, bind_fields, matches, matches_all, on_match}
use Rattle.elm_meaning.specs.Eval.{Call, eval_with, choose_with}
use Rattle.js_emit.specs.Matrix.{rows_from}
use Rattle.js_meaning.specs.Eval.{JCallee, JLoop}
use Rattle.js_tree.specs.Tree.{JVar}
use Rattle.js_emit.specs.Matrix.{rows_size}
use Rattle.js_emit.specs.Choice.{choice}
use Rattle.emit_laws.specs.Choosing.{IsNow, IsBranch, this_branch, later_branch, ProperRows, Takes, takes_none, takes, TreeChooses}
use Rattle.emit_laws.proofs.Rows.{both, fit, fit_all, pick, pick_by}
use Rattle.emit_laws.proofs.EmitChoiceLawsTests.{none_found, more_found}
use Rattle.emit_laws.proofs.Trees.{GoodRows, tree_right}

-- a pattern fits as it matches; of one that is stuck nothing is said
pub data Agree : End Bool → End (Option Env) → Type 0 where
  agree_some : {env : Env} → Agree (Val true) (Val (Some env))
  agree_none : Agree (Val false) (Val None)
  agree_stuck : {o : End Bool} → Agree o Stuck

agree_then : (o q : End Bool) (m : End (Option Env)) (go : Env → End (Option Env)) → Agree o m → ((env : Env) → Agree q (go env)) → Agree (both o q) (and_match m go)
agree_then o q m go (agree_some {env}) h = h env
agree_then o q m go agree_none h = agree_none
agree_then o q m go agree_stuck h = agree_stuck

agree_fields : (xs : List Name) (fs : FieldValues) (env : Env) → Agree (Val true) (bind_fields xs fs env)
agree_fields [] fs env = agree_some
agree_fields (x ∷ xs) fs env = go fs (λ v. agree_fields xs fs (Bind (Local x) v env))
  where
    go : (gs : FieldValues) → ((v : Value) → Agree (Val true) (bind_fields xs fs (Bind (Local x) v env))) → Agree (Val true) (then_do (field_in x gs) (λ v. bind_fields xs fs (Bind (Local x) v env)))
    go NoFieldV h = agree_stuck
    go (MoreFieldV i v gs) h = inner (bytes_eq x i) (go gs h)
      where
        inner : (b : Bool) → Agree (Val true) (then_do (field_in x gs) (λ v. bind_fields xs fs (Bind (Local x) v env))) → Agree (Val true) (then_do (if b then Val v else field_in x gs) (λ v. bind_fields xs fs (Bind (Local x) v env)))
        inner true rest = h v
        inner false rest = rest

agree_bool : (b : Bool) (env : Env) → Agree (Val b) (Val (if b then Some env else None))
agree_bool true env = agree_some
agree_bool false env = agree_none

agree_literal : (l : Literal) (v : Value) (env : Env) → Agree (is_literal l v) (then_do (is_literal l v) (λ same. Val (if same then Some env else None)))
agree_literal (literal.Int i) (IntV n) env = agree_bool _ env
agree_literal (literal.Char s) (TextV t) env = agree_bool _ env
agree_literal (literal.Text s) (TextV t) env = agree_bool _ env
agree_literal (literal.Int i) (TextV t) env = agree_stuck
agree_literal (literal.Int i) (TagV t vs) env = agree_stuck
agree_literal (literal.Int i) (RecordV fs) env = agree_stuck
agree_literal (literal.Int i) (CloV e ps b) env = agree_stuck
agree_literal (literal.Int i) (KnownV k vs) env = agree_stuck
agree_literal (literal.Int i) (WireV w) env = agree_stuck
agree_literal (literal.Char i) (IntV t) env = agree_stuck
agree_literal (literal.Char i) (TagV t vs) env = agree_stuck
agree_literal (literal.Char i) (RecordV fs) env = agree_stuck
agree_literal (literal.Char i) (CloV e ps b) env = agree_stuck
agree_literal (literal.Char i) (KnownV k vs) env = agree_stuck
agree_literal (literal.Char i) (WireV w) env = agree_stuck
agree_literal (literal.Text i) (IntV t) env = agree_stuck
agree_literal (literal.Text i) (TagV t vs) env = agree_stuck
agree_literal (literal.Text i) (RecordV fs) env = agree_stuck
agree_literal (literal.Text i) (CloV e ps b) env = agree_stuck
agree_literal (literal.Text i) (KnownV k vs) env = agree_stuck
agree_literal (literal.Text i) (WireV w) env = agree_stuck

agree_built : (one this : Bool) (o : End Bool) (m : End (Option Env)) → Agree o m → Agree (if one then (if this then o else Val false) else Stuck) (if one then (if this then m else Val None) else Stuck)
agree_built true true o m a = a
agree_built true false o m a = agree_none
agree_built false this o m a = agree_stuck

-- a last name takes nothing away
agree_as : (o : End Bool) (m : End (Option Env)) (go : Env → Env) → Agree o m → Agree o (and_match m (λ env. Val (Some (go env))))
agree_as o m go agree_some = agree_some
agree_as o m go agree_none = agree_none
agree_as o m go agree_stuck = agree_stuck

mutual
  pub agrees : (p : Pattern) (v : Value) (env : Env) → Agree (fit p v) (matches p v env)
  agrees Anything v env = agree_some
  agrees (Named x) v env = agree_some
  agrees (As p x) v env = agree_as (fit p v) (matches p v env) (λ inner. Bind (Local x) v inner) (agrees p v env)
  agrees (Exactly l) v env = agree_literal l v env
  agrees (Construct u a ps) (TagV tag vs) env = agree_built (is_of_one tag vs (alternatives u)) (is_of tag vs a) (fit_all ps vs) (matches_all ps vs env) (agree_all ps vs env)
  agrees (Construct u a ps) (IntV n) env = agree_stuck
  agrees (Construct u a ps) (TextV n) env = agree_stuck
  agrees (Construct u a ps) (RecordV n) env = agree_stuck
  agrees (Construct u a ps) (CloV e qs b) env = agree_stuck
  agrees (Construct u a ps) (KnownV k vs) env = agree_stuck
  agrees (Construct u a ps) (WireV w) env = agree_stuck
  agrees (FieldsOf xs) (RecordV fs) env = agree_fields xs fs env
  agrees (FieldsOf xs) (IntV n) env = agree_stuck
  agrees (FieldsOf xs) (TextV n) env = agree_stuck
  agrees (FieldsOf xs) (TagV t n) env = agree_stuck
  agrees (FieldsOf xs) (CloV e qs b) env = agree_stuck
  agrees (FieldsOf xs) (KnownV k vs) env = agree_stuck
  agrees (FieldsOf xs) (WireV w) env = agree_stuck
  agrees (LocatedPattern place p) v env = agrees p v env

  agree_all : (ps : Patterns) (vs : Values) (env : Env) → Agree (fit_all ps vs) (matches_all ps vs env)
  agree_all NoPattern NoValue env = agree_some
  agree_all NoPattern (MoreValue v vs) env = agree_stuck
  agree_all (MorePattern p ps) NoValue env = agree_stuck
  agree_all (MorePattern p ps) (MoreValue v vs) env = agree_then (fit p v) (fit_all ps vs) (matches p v env) (λ inner. matches_all ps vs inner) (agrees p v env) (λ inner. agree_all ps vs inner)

-- i, so many times increased
abbrev up : ℕ → ℕ → ℕ
up zero i = i
up (suc k) i = up k (suc i)

-- a case is stuck, or does what the branch does that its rows pick
data Picks (call : Call) (bs : Branches) (v : Value) (env : Env) (i : ℕ) : End Value → Type 0 where
  picks_none : Picks call bs v env i Stuck
  picks : {p : Pattern} {e : Expr} {inner : Env} (k : ℕ) → IsBranch k p e bs → matches p v env ≡ Val (Some inner) → pick (rows_from i bs) (v ∷ []) ≡ Val (up k i) → Picks call bs v env i (eval_with call e inner)

picked_later : {call : Call} {bs : Branches} {v : Value} {env : Env} {i : ℕ} {o : End Value} (p : Pattern) (e : Expr) → fit p v ≡ Val false → Picks call bs v env (suc i) o → Picks call (MoreBranch p e bs) v env i o
picked_later p e f picks_none = picks_none
picked_later {bs} {v} {i} p e f (picks k is m picked) = picks (suc k) (later_branch is) m (ap (λ o. pick_by (both o (Val true)) i (pick (rows_from (suc i) bs) (v ∷ []))) f ∙ picked)

rows_pick : (call : Call) (bs : Branches) (v : Value) (env : Env) (i : ℕ) → Picks call bs v env i (choose_with call bs v env)
rows_pick call NoBranch v env i = picks_none
rows_pick call (MoreBranch p e bs) v env i = go (fit p v) (matches p v env) refl refl (agrees p v env) (rows_pick call bs v env (suc i))
  where
    go : (o : End Bool) (m : End (Option Env)) → fit p v ≡ o → matches p v env ≡ m → Agree o m → Picks call bs v env (suc i) (choose_with call bs v env) → Picks call (MoreBranch p e bs) v env i (on_match m (λ inner. eval_with call e inner) (choose_with call bs v env))
    go o m f g agree_some rest = picks 0 this_branch g (ap (λ o. pick_by (both o (Val true)) i (pick (rows_from (suc i) bs) (v ∷ []))) f)
    go o m f g agree_none rest = picked_later p e f rest
    go o m f g agree_stuck rest = picks_none

up_zero : (k i : ℕ) → up k i ≡ k + i
up_zero zero i = omega arith
up_zero (suc k) i = let e = up_zero k (suc i) in omega arith

plain_up : (k : ℕ) → up k 0 ≡ k
plain_up k = let e = up_zero k 0 in omega arith

good_rows : (bs : Branches) (i : ℕ) → ProperRows bs → GoodRows (rows_from i bs)
good_rows NoBranch i pr = tt
good_rows (MoreBranch p e bs) i pr = ((pr.0, tt), good_rows bs (suc i) pr.1)

pub tree_chooses : TreeChooses
tree_chooses source env jenv i bs v w pr r found = go (rows_pick source bs v env 0)
  where
    go : {o : End Value} → Picks source bs v env 0 o → Takes source bs v env (λ k. (call : JCallee) (loop : JLoop) → IsNow call loop jenv (choice i bs) k) o
    go picks_none = takes_none
    go (picks k is m picked) =
        takes k is m (λ call loop. tree_right call loop jenv (rows_size (rows_from 0 bs)) (JVar i ∷ []) (rows_from 0 bs) (v ∷ []) (omega arith) (good_rows bs 0 pr)
        (more_found r (λ m. ap (λ o. with_budget o m) found) none_found) k (picked ∙ ap (λ n. Val n) (plain_up k)))

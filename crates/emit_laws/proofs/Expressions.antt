-- What is emitted for an expression does what the expression does, where calls, turns and operators do: one line for
-- each construct.
use Rattle.std.proofs.Common.{◌≡◌, ℕ, suc, ◌+◌, List, [], Bool, true, false, refl, sym, ap, subst, arith}
use Rattle.std.specs.Prelude.{if◌then◌else◌, length}
use Rattle.runs.specs.Ends.{End, then_do}
use Rattle.runs.specs.Pay.{Follows, gives}
use Rattle.runs.proofs.Spends.{spends_none}
use Rattle.elm_canon.specs.declared.reference.Ref.{Ref}
use Rattle.elm_canon.specs.Tree.{Op, NoPattern, MorePattern, Expr, Is, NameOf, Accessor, Lambda, Apply, Strict, Logical, Case, Located, Exprs, NoExpr, MoreExpr, Branches, NoBranch, MoreBranch, Groups, NoGroup, MoreGroup, Group, Together, Constant, Destructure}
use Rattle.elm_canon.specs.Tree as source
use Rattle.elm_canon.specs.Proper.{Scope, with_all, bound_by, Proper, AllProper, ProperOp, ProperBranches, ProperGroup, ProperGroups, group_names, after, count_exprs}
use Rattle.elm_meaning.specs.Values.{Values}
use Rattle.elm_meaning.specs.Operate.{perform}
use Rattle.elm_meaning.specs.Eval.{evals_with, call_at}
use Rattle.js_tree.specs.Tree.{Name, Made, JVar, JArrow, JBinary, JProperty, JsList, Return}
use Rattle.js_meaning.specs.Values.{JEnv, JCloV}
use Rattle.js_meaning.specs.Eval.{j_eval, j_evals, j_call, j_loop}
use Rattle.js_emit.specs.Names.{js_name, literal_js, now}
use Rattle.js_emit.specs.Operators.{perform_js, connective_js}
use Rattle.js_emit.specs.Loops.{Loop, Outside, Inside, is_call}
use Rattle.js_emit.specs.Made.{made_in, made_groups}
use Rattle.js_emit.specs.Emit.{emit, values, calls, go_round}
use Rattle.emit_laws.specs.Sizes.{FewFor, FewParts, FewInAll, FewInBranches, FewInGroups, FewInGroup}
use Rattle.emit_laws.specs.For.{For, for_function, for_getter, made_arrows}
use Rattle.emit_laws.proofs.Names.{clear_below}
use Rattle.emit_laws.proofs.Clear.{clear}
use Rattle.emit_laws.proofs.Envs.{looked_up}
use Rattle.emit_laws.proofs.Spots.{CallsFollow, Runs, Gives, Means, lower}
use Rattle.emit_laws.proofs.Constructs.{ForSo, returns, literal_gives, ev, AllMean, apply_gives, values_follow, if_means, logical_gives}
use Rattle.emit_laws.proofs.Objects.{count_js}
use Rattle.emit_laws.proofs.Blocks.{GroupMeans, GroupsMean, let_means, BranchesMean, case_means}

-- what is done with parts follows, where the parts in turn do
abbrev pub PerformsFollow : ℕ → Type 0
PerformsFollow n =
    (op : Op) (xs : JsList) → ProperOp op (count_js xs) → FewFor op (count_js xs) → (o : End Values) (jenv : JEnv) → Follows (ForSo (count_js xs)) n o (λ b m. j_evals (j_call b) (j_loop b) xs jenv m)
    → Follows For n (then_do o (λ vs. perform op vs)) (λ b m. j_eval (j_call b) (j_loop b) (perform_js op xs) jenv m)

-- a call that goes round
abbrev pub RoundsFollow : ℕ → Type 0
RoundsFollow n =
    (f : Expr) (es : Exprs) (g : Ref) (rs : List Name) (scope : Scope) (d : ℕ) → is_call g (length rs) f es ≡ true → AllMean n scope es
    → Runs n (Inside g rs) scope d (ev n scope (Apply f es)) (go_round d es rs [])

-- all expressions do what they do
abbrev pub AllMeanSo : ℕ → Type 0
AllMeanSo n = (e : Expr) (loop : Loop) (scope : Scope) (d : ℕ) → Proper scope e → FewParts e → Means n loop scope d (ev n scope e) (emit d loop e)

count_values : (es : Exprs) (d : ℕ) → count_js (values d es) ≡ count_exprs es
count_values NoExpr d = refl
count_values (MoreExpr e es) d = ap suc (count_values es (d + made_in Outside e))

module _ (n : ℕ) (call : CallsFollow n) (rounds : RoundsFollow n) (performs : PerformsFollow n) where
  -- a function with its arguments
  apply_means : (f : Expr) (es : Exprs) (loop : Loop) (scope : Scope) (d : ℕ) → ((d : ℕ) → Gives n scope (ev n scope f) (now (emit d Outside f))) → AllMean n scope es → Means n loop scope d (ev n scope (Apply f es)) (emit d loop (Apply f es))
  apply_means f es Outside scope d first all = returns Outside scope d (ev n scope (Apply f es)) (calls (d + made_in Outside f) (now (emit d Outside f)) es) (apply_gives n scope call f es d first all)
  apply_means f es (Inside g rs) scope d first all = go (is_call g (length rs) f es) refl
    where
      go : (t : Bool) → is_call g (length rs) f es ≡ t → Means n (Inside g rs) scope d (ev n scope (Apply f es)) (if t then go_round d es rs [] else Return (calls (d + made_in Outside f) (now (emit d Outside f)) es))
      go true is = record { runs = rounds f es g rs scope d is all; gives = λ out. absurd out }
      go false is = returns (Inside g rs) scope d (ev n scope (Apply f es)) (calls (d + made_in Outside f) (now (emit d Outside f)) es) (apply_gives n scope call f es d first all)

  -- an operator, a constructor, a record, ..
  strict_gives : (op : Op) (es : Exprs) (scope : Scope) (d : ℕ) → ProperOp op (count_exprs es) → FewFor op (count_exprs es) → AllMean n scope es → Gives n scope (ev n scope (Strict op es)) (perform_js op (values d es))
  strict_gives op es scope d pr few all env jenv re = performs op (values d es) (subst (λ k. ProperOp op k) (sym (count_values es d)) pr) (subst (λ k. FewFor op k) (sym (count_values es d)) few) (evals_with (call_at n) es env) jenv (subst (λ k. Follows (ForSo k) n (evals_with (call_at n) es env) (λ b m. j_evals (j_call b) (j_loop b) (values d es) jenv m)) (sym (count_values es d)) (values_follow n scope es d all env jenv re))

  mutual
    pub means : AllMeanSo n
    means (Is l) loop scope d pr few = returns loop scope d (ev n scope (Is l)) (literal_js l) (literal_gives n scope l)
    means (NameOf r) loop scope d pr few = returns loop scope d (ev n scope (NameOf r)) (JVar (js_name r)) (λ env jenv re. looked_up n r pr re)
    means (Accessor k) loop scope d pr few =
        returns loop scope d (ev n scope (Accessor k)) (JArrow (Made d) (Return (JProperty (JVar (Made d)) k))) (λ env jenv re. gives (JCloV jenv (Made d) (Return (JProperty (JVar (Made d)) k))) (for_getter d) spends_none)
    means (Lambda NoPattern e) loop scope d pr few = let l = pr.0 in absurd (cc)
    means (Lambda (MorePattern p ps) e) loop scope d pr few =
        returns loop scope d (ev n scope (Lambda (MorePattern p ps) e)) (now (emit d Outside (Lambda (MorePattern p ps) e))) (λ env jenv re. gives _ (for_function scope (made_arrows d pr.1.0 pr.1.1 few refl) re) spends_none)
    means (Apply f es) loop scope d pr few = apply_means f es loop scope d (λ k. (means f Outside scope k pr.0 few.0).gives tt) (all_mean es scope pr.1 few.1)
    means (Strict op es) loop scope d pr few = returns loop scope d (ev n scope (Strict op es)) (perform_js op (values d es)) (strict_gives op es scope d pr.0 few.0 (all_mean es scope pr.1 few.1))
    means (source.If c a b) loop scope d pr few =
        let second = d + made_in Outside c in
        let third = second + made_in loop a in
        if_means n scope c a b loop d ((means c Outside scope d pr.0 few.0).gives tt)
        (lower loop scope d second (ev n scope a) (emit second loop a) (omega arith) (means a loop scope second pr.1.0 few.1.0)) (clear_below (emit second loop a) scope d second (omega arith) (clear a loop scope second pr.1.0))
        (lower loop scope d third (ev n scope b) (emit third loop b) (omega arith) (means b loop scope third pr.1.1 few.1.1)) (clear_below (emit third loop b) scope d third (omega arith) (clear b loop scope third pr.1.1))
    means (Logical place op a b) loop scope d pr few =
        let second = d + made_in Outside a in
        returns loop scope d (ev n scope (Logical place op a b)) (JBinary (connective_js op) (now (emit d Outside a)) (now (emit second Outside b)))
        (logical_gives n scope place op a b (now (emit d Outside a)) (now (emit second Outside b)) ((means a Outside scope d pr.0 few.0).gives tt) ((means b Outside scope second pr.1 few.1).gives tt))
    means (source.Let gs e) loop scope d pr few =
        let_means n gs loop scope d (ev n scope e) (emit (d + made_groups gs) loop e) pr.0 (clear e loop (after gs scope) (d + made_groups gs) pr.1) (groups_mean gs scope pr.0 few.0) (means e loop (after gs scope) (d + made_groups gs) pr.1 few.1)
    means (Case e bs) loop scope d pr few = case_means n e bs loop scope d pr.1 (λ k. (means e Outside scope k pr.0 few.0).gives tt) (branches_mean bs loop scope pr.1 few.1.1)
    means (Located place e) loop scope d pr few = means e loop scope d pr few

    all_mean : (es : Exprs) (scope : Scope) → AllProper scope es → FewInAll es → AllMean n scope es
    all_mean NoExpr scope pr few = tt
    all_mean (MoreExpr e es) scope pr few = ((λ k. (means e Outside scope k pr.0 few.0).gives tt), all_mean es scope pr.1 few.1)

    branches_mean : (bs : Branches) (loop : Loop) (scope : Scope) → ProperBranches scope bs → FewInBranches bs → BranchesMean n loop scope bs
    branches_mean NoBranch loop scope pr few = tt
    branches_mean (MoreBranch p e bs) loop scope pr few = ((λ k. means e loop (with_all (bound_by p) scope) k pr.1.0 few.0), branches_mean bs loop scope pr.1.1 few.1)

    groups_mean : (gs : Groups) (scope : Scope) → ProperGroups scope gs → FewInGroups gs → GroupsMean n scope gs
    groups_mean NoGroup scope pr few = tt
    groups_mean (MoreGroup g gs) scope pr few = (group_mean g scope pr.0 few.0, groups_mean gs (with_all (group_names g) scope) pr.1 few.1)

    group_mean : (g : Group) (scope : Scope) → ProperGroup scope g → FewInGroup g → GroupMeans n scope g
    group_mean (Together fs) scope pr few = few
    group_mean (Constant title e) scope pr few = λ k. (means e Outside scope k pr.1.1 few).gives tt
    group_mean (Destructure p e) scope pr few = λ k. (means e Outside scope k pr.1 few).gives tt

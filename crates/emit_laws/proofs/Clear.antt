-- What is emitted declares new names alone, and each once.
use Rattle.std.proofs.Common.{◌≡◌, ℕ, suc, ◌+◌, List, [], ◌∷◌, ◌++◌, Bool, true, false, refl, subst, arith}
use Rattle.std.specs.Prelude.{if◌then◌else◌}
use Rattle.elm_canon.specs.Names as source
use Rattle.elm_canon.specs.declared.reference.Ref.{Ref}
use Rattle.elm_canon.specs.declared.reference.Ref.TheVariants as ref
use Rattle.elm_canon.specs.Tree as tree
use Rattle.elm_canon.specs.Tree.{Pattern, Anything, Named, As, Exactly, Construct, FieldsOf, LocatedPattern, Patterns, NoPattern, MorePattern, Expr, Is, NameOf, Accessor, Lambda, Apply, Strict, Logical, Case, Located, Exprs, NoExpr, MoreExpr, Branches, NoBranch, MoreBranch, Groups, NoGroup, MoreGroup, Group, Together, Constant, Destructure, Functions, NoFunction, MoreFunction}
use Rattle.elm_canon.specs.Proper.{Scope, AreFresh, with_all, locals, bound_by, all_bound_by, Proper, ProperBranches, ProperGroup, ProperGroups, function_names, group_names, after}
use Rattle.js_tree.specs.Tree.{Name, Local, Made, Js, JVar, Stmts, Const, Continue}
use Rattle.js_emit.specs.Patterns.{field_consts, consts, part_consts}
use Rattle.js_emit.specs.Loops.{Loop, Outside, goes_round, variables, assigns}
use Rattle.js_emit.specs.Made.{made_choice, made_in, made_group, made_groups, made_function, made_functions}
use Rattle.js_emit.specs.Emit.{chosen, emit, go_round, bodies, groups, group, functions}
use Rattle.emit_laws.proofs.Names.{Used, IsClear, used, clear_const, clear_made, clear_below}

-- ---- patterns

pub fresh_front : (xs ys : List Ref) (scope : Scope) → AreFresh (xs ++ ys) scope → AreFresh xs scope × AreFresh ys (with_all xs scope)
fresh_front [] ys scope f = (tt, f)
fresh_front (x ∷ xs) ys scope f = let r = fresh_front xs ys (x ∷ scope) f.1 in ((f.0, r.0), r.1)

pub with_front : (xs ys : List Ref) (scope : Scope) → with_all (xs ++ ys) scope ≡ with_all ys (with_all xs scope)
with_front [] ys scope = refl
with_front (x ∷ xs) ys scope = with_front xs ys (x ∷ scope)

pub clear_fields : (xs : List source.Name) (path : Js) (s : Stmts) (scope : Scope) (d : ℕ) → AreFresh (locals xs) scope → IsClear (used (with_all (locals xs) scope) d) s → IsClear (used scope d) (field_consts xs path s)
clear_fields [] path s scope d f fr = fr
clear_fields (x ∷ xs) path s scope d f fr = clear_const (ref.Local x) (field_consts xs path s) scope d f.0 (clear_fields xs path s (ref.Local x ∷ scope) d f.1 fr)

mutual
  pub clear_consts : (p : Pattern) (path : Js) (s : Stmts) (scope : Scope) (d : ℕ) → AreFresh (bound_by p) scope → IsClear (used (with_all (bound_by p) scope) d) s → IsClear (used scope d) (consts p path s)
  clear_consts Anything path s scope d f fr = fr
  clear_consts (Named x) path s scope d f fr = clear_const (ref.Local x) s scope d f.0 fr
  clear_consts (As p x) path s scope d f fr =
      let r = fresh_front (bound_by p) (ref.Local x ∷ []) scope f in
      clear_consts p path (Const (Local x) path s) scope d r.0
      (clear_const (ref.Local x) s (with_all (bound_by p) scope) d r.1.0 (subst (λ z. IsClear (used z d) s) (with_front (bound_by p) (ref.Local x ∷ []) scope) fr))
  clear_consts (Exactly l) path s scope d f fr = fr
  clear_consts (Construct u a ps) path s scope d f fr = clear_parts 0 ps path s scope d f fr
  clear_consts (FieldsOf xs) path s scope d f fr = clear_fields xs path s scope d f fr
  clear_consts (LocatedPattern place p) path s scope d f fr = clear_consts p path s scope d f fr

  pub clear_parts : (i : ℕ) (ps : Patterns) (path : Js) (s : Stmts) (scope : Scope) (d : ℕ) → AreFresh (all_bound_by ps) scope → IsClear (used (with_all (all_bound_by ps) scope) d) s → IsClear (used scope d) (part_consts i ps path s)
  clear_parts i NoPattern path s scope d f fr = fr
  clear_parts i (MorePattern p ps) path s scope d f fr =
      let r = fresh_front (bound_by p) (all_bound_by ps) scope f in
      clear_consts p _ (part_consts (suc i) ps path s) scope d r.0
      (clear_parts (suc i) ps path s (with_all (bound_by p) scope) d r.1 (subst (λ z. IsClear (used z d) s) (with_front (bound_by p) (all_bound_by ps) scope) fr))

-- ---- expressions

abbrev Clears : Scope → ℕ → Stmts → Type 0
Clears scope d s = IsClear (used scope d) s

clear_assigns : (u : Used) (as' : List (Name × Name)) → IsClear u (assigns as')
clear_assigns u [] = tt
clear_assigns u (a ∷ as') = clear_assigns u as'

pub clear_round : (es : Exprs) (rs : List Name) (done : List (Name × Name)) (scope : Scope) (d : ℕ) → Clears scope d (go_round d es rs done)
clear_round NoExpr rs done scope d = clear_assigns (used scope d) done
clear_round (MoreExpr e es) [] done scope d = clear_assigns (used scope d) done
clear_round (MoreExpr e es) (r ∷ rs) done scope d =
    let next = suc d + made_in Outside e in
    clear_made (go_round next es rs (done ++ (r, Made d) ∷ [])) scope d next (omega arith) (clear_round es rs (done ++ (r, Made d) ∷ []) scope next)

clear_either : (t : Bool) (a b : Stmts) (u : Used) → IsClear u a → IsClear u b → IsClear u (if t then a else b)
clear_either true a b u x y = x
clear_either false a b u x y = y

pub clear_functions : (fs : Functions) (s : Stmts) (scope : Scope) (d next : ℕ) → AreFresh (function_names fs) scope → Clears (with_all (function_names fs) scope) d s → Clears scope d (functions next fs s)
clear_functions NoFunction s scope d next fr c = c
clear_functions (MoreFunction title ps e fs) s scope d next fr c =
    let later = next + made_function title.name ps e (λ loop. made_in loop e) in
    clear_const title.name (functions later fs s) scope d fr.0 (clear_functions fs s (title.name ∷ scope) d later fr.1 c)

-- a group, before statements that are clear with more made names
pub clear_group : (g : Group) (s : Stmts) (scope : Scope) (d : ℕ) → ProperGroup scope g → Clears (with_all (group_names g) scope) (d + made_group g) s → Clears scope d (group d g s)
clear_group (Together fs) s scope d pr c = clear_functions fs s scope d d pr.0 (clear_below s (with_all (function_names fs) scope) d (d + made_functions fs) (omega arith) c)
clear_group (Constant title e) s scope d pr c = clear_const title.name s scope d pr.1.0 (clear_below s (title.name ∷ scope) d (d + made_in Outside e) (omega arith) c)
clear_group (Destructure p e) s scope d pr c =
    let next = d + suc (made_in Outside e) in
    clear_made (consts p (JVar (Made d)) s) scope d next (omega arith) (clear_consts p (JVar (Made d)) s scope next pr.0.1 c)

pub clear_groups : (gs : Groups) (s : Stmts) (scope : Scope) (d : ℕ) → ProperGroups scope gs → Clears (after gs scope) (d + made_groups gs) s → Clears scope d (groups d gs s)
clear_groups NoGroup s scope d pr c = subst (λ k. Clears scope k s) (none_more d) c
  where
    none_more : (d : ℕ) → d + 0 ≡ d
    none_more d = omega arith
clear_groups (MoreGroup g gs) s scope d pr c =
    clear_group g (groups (d + made_group g) gs s) scope d pr.0
    (clear_groups gs s (with_all (group_names g) scope) (d + made_group g) pr.1 (subst (λ k. Clears (after gs (with_all (group_names g) scope)) k s) (regroup d (made_group g) (made_groups gs)) c))
  where
    regroup : (a b c : ℕ) → a + (b + c) ≡ a + b + c
    regroup a b c = omega arith

mutual
  pub clear : (e : Expr) (loop : Loop) (scope : Scope) (d : ℕ) → Proper scope e → Clears scope d (emit d loop e)
  clear (Is l) loop scope d pr = tt
  clear (NameOf r) loop scope d pr = tt
  clear (Accessor k) loop scope d pr = tt
  clear (Lambda NoPattern e) loop scope d pr = let l = pr.0 in absurd (cc)
  clear (Lambda (MorePattern p ps) e) loop scope d pr = tt
  clear (Apply f es) loop scope d pr =
      clear_either (goes_round loop f es) (go_round d es (variables loop) []) _ (used scope d) (clear_round es (variables loop) [] scope d) tt
  clear (Strict op es) loop scope d pr = tt
  clear (tree.If c a b) loop scope d pr = tt
  clear (Logical place op a b) loop scope d pr = tt
  clear (tree.Let gs e) loop scope d pr = clear_groups gs (emit (d + made_groups gs) loop e) scope d pr.0 (clear e loop (after gs scope) (d + made_groups gs) pr.1)
  clear (Case e bs) loop scope d pr =
      let next = suc d + made_in Outside e in
      clear_made (chosen next (Made d) bs (bodies (next + made_choice bs) loop (Made d) bs)) scope d next (omega arith) (clear_chosen bs loop scope next (Made d) pr.1)
  clear (Located place e) loop scope d pr = clear e loop scope d pr

  pub clear_chosen : (bs : Branches) (loop : Loop) (scope : Scope) (d : ℕ) (i : Name) → ProperBranches scope bs → Clears scope d (chosen d i bs (bodies (d + made_choice bs) loop i bs))
  clear_chosen NoBranch loop scope d i pr = clear_made Continue scope d (suc d) (omega arith) tt
  clear_chosen (MoreBranch p e NoBranch) loop scope d i pr =
      clear_consts p (JVar i) (emit (d + 0) loop e) scope d pr.0.1 (clear_below (emit (d + 0) loop e) (with_all (bound_by p) scope) d (d + 0) (omega arith) (clear e loop (with_all (bound_by p) scope) (d + 0) pr.1.0))
  clear_chosen (MoreBranch p e (MoreBranch q f bs)) loop scope d i pr = clear_made Continue scope d (suc d) (omega arith) tt

-- what a branch does, with its names
pub clear_body : (p : Pattern) (e : Expr) (loop : Loop) (scope : Scope) (d : ℕ) (i : Name) → AreFresh (bound_by p) scope → Proper (with_all (bound_by p) scope) e → Clears scope d (consts p (JVar i) (emit d loop e))
clear_body p e loop scope d i fr pr = clear_consts p (JVar i) (emit d loop e) scope d fr (clear e loop (with_all (bound_by p) scope) d pr)

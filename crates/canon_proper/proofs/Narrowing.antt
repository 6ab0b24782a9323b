-- What is proper in a scope is proper in a narrower one that has the names of modules that it uses.
use Rattle.std.proofs.Common.{◌≡◌, List, [], ◌++◌, Bool, true, false, refl, sym, ◌∙◌}
use Rattle.std.specs.Prelude.{◌||◌}
use Rattle.elm_canon.specs.Tree.{Expr, Is, NameOf, Accessor, Lambda, Apply, Strict, If, Logical, Let, Case, Located}
use Rattle.elm_canon.specs.Tree.{Exprs, NoExpr, MoreExpr, Branches, NoBranch, MoreBranch, Groups, NoGroup, MoreGroup}
use Rattle.elm_canon.specs.Tree.{Group, Together, Constant, Destructure, Functions, NoFunction, MoreFunction}
use Rattle.elm_canon.specs.declared.reference.Ref.{Ref}
use Rattle.elm_canon.specs.declared.reference.Ref.TheVariants.{Local, Top}
use Rattle.canon_env.specs.Uses.{expr_uses, exprs_uses, branches_uses, groups_uses, group_uses, functions_uses}
use Rattle.elm_canon.specs.Proper.{Scope, among, IsIn, with_all, AreFresh, bound_by, all_bound_by, after}
use Rattle.elm_canon.specs.Proper.{Proper, AllProper, ProperBranches, ProperGroups, ProperGroup, ProperFunctions}
use Rattle.elm_canon.specs.Proper.{function_names, group_names}
use Rattle.decl_groups.proofs.Ordering.{not_true}
use Rattle.std.proofs.lemmas.Bool.{false≢true}
use Rattle.canon_proper.specs.Narrower.{IsNarrower, KeepsAll}
use Rattle.canon_proper.proofs.Scopes.{among-with_all, in_first}
use Rattle.canon_proper.proofs.Apart.{fresh_less, in_left, in_right}

more_or : (c p q : Bool) → (p ≡ true → q ≡ true) → (c || p) ≡ true → (c || q) ≡ true
more_or true p q f e = refl
more_or false p q f e = f e

kept_with : (r : Ref) (xs : List Ref) (a b : Scope) → (IsIn r a → IsIn r b) → IsIn r (with_all xs a) →
    IsIn r (with_all xs b)
kept_with r xs a b f e =
    among-with_all r xs b
    ∙ more_or (among r xs) (among r a) (among r b) f (sym (among-with_all r xs a) ∙ e)

pub narrower_with : (xs : List Ref) (a b : Scope) → IsNarrower a b → IsNarrower (with_all xs a) (with_all xs b)
narrower_with xs a b n = record {
  within = λ r e. kept_with r xs b a (n.within r) e;
  locals = λ x e. kept_with (Local x) xs a b (n.locals x) e;
}

pub narrower_after : (gs : Groups) (a b : Scope) → IsNarrower a b → IsNarrower (after gs a) (after gs b)
narrower_after NoGroup a b n = n
narrower_after (MoreGroup g gs) a b n =
    narrower_after gs (with_all (group_names g) a) (with_all (group_names g) b) (narrower_with (group_names g) a b n)

pub keeps_with : (xs : List Ref) (a b : Scope) (refs : List Ref) → KeepsAll a b refs →
    KeepsAll (with_all xs a) (with_all xs b) refs
keeps_with xs a b refs h = λ r i e. kept_with r xs a b (h r i) e

keeps_after : (gs : Groups) (a b : Scope) (refs : List Ref) → KeepsAll a b refs → KeepsAll (after gs a) (after gs b) refs
keeps_after NoGroup a b refs h = h
keeps_after (MoreGroup g gs) a b refs h =
    keeps_after gs (with_all (group_names g) a) (with_all (group_names g) b) refs (keeps_with (group_names g) a b refs h)

keeps_left : (a b : Scope) (xs ys : List Ref) → KeepsAll a b (xs ++ ys) → KeepsAll a b xs
keeps_left a b xs ys h = λ r i. h r (in_left r xs ys i)

keeps_right : (a b : Scope) (xs ys : List Ref) → KeepsAll a b (xs ++ ys) → KeepsAll a b ys
keeps_right a b xs ys h = λ r i. h r (in_right r xs ys i)

fresh_narrower : (xs : List Ref) (a b : Scope) → IsNarrower a b → AreFresh xs a → AreFresh xs b
fresh_narrower xs a b n f = fresh_less xs a b n.within f

mutual
  pub narrow : (e : Expr) (a b : Scope) → IsNarrower a b → KeepsAll a b (expr_uses e) → Proper a e → Proper b e
  narrow (Is l) a b n h p = p
  narrow (NameOf (Local x)) a b n h p = n.locals x p
  narrow (NameOf (Top m x)) a b n h p = h (Top m x) (in_first (Top m x) []) p
  narrow (Accessor k) a b n h p = p
  narrow (Lambda ps e) a b n h p = (
    p.0,
    (
      (p.1.0.0, fresh_narrower (all_bound_by ps) a b n p.1.0.1),
      narrow e (with_all (all_bound_by ps) a) (with_all (all_bound_by ps) b) (narrower_with (all_bound_by ps) a b n)
          (keeps_with (all_bound_by ps) a b (expr_uses e) h) p.1.1,
    ),
  )
  narrow (Apply f es) a b n h p = (
    narrow f a b n (keeps_left a b (expr_uses f) (exprs_uses es) h) p.0,
    narrow_all es a b n (keeps_right a b (expr_uses f) (exprs_uses es) h) p.1,
  )
  narrow (Strict op es) a b n h p = (p.0, narrow_all es a b n h p.1)
  narrow (If c d e) a b n h p =
      let k = keeps_left a b (expr_uses c ++ expr_uses d) (expr_uses e) h in (
        narrow c a b n (keeps_left a b (expr_uses c) (expr_uses d) k) p.0,
        (
          narrow d a b n (keeps_right a b (expr_uses c) (expr_uses d) k) p.1.0,
          narrow e a b n (keeps_right a b (expr_uses c ++ expr_uses d) (expr_uses e) h) p.1.1,
        ),
      )
  narrow (Logical place op d e) a b n h p = (
    narrow d a b n (keeps_left a b (expr_uses d) (expr_uses e) h) p.0,
    narrow e a b n (keeps_right a b (expr_uses d) (expr_uses e) h) p.1,
  )
  narrow (Let gs e) a b n h p = (
    narrow_groups gs a b n (keeps_left a b (groups_uses gs) (expr_uses e) h) p.0,
    narrow e (after gs a) (after gs b) (narrower_after gs a b n)
        (keeps_after gs a b (expr_uses e) (keeps_right a b (groups_uses gs) (expr_uses e) h)) p.1,
  )
  narrow (Case e bs) a b n h p = (
    narrow e a b n (keeps_left a b (expr_uses e) (branches_uses bs) h) p.0,
    narrow_branches bs a b n (keeps_right a b (expr_uses e) (branches_uses bs) h) p.1,
  )
  narrow (Located place e) a b n h p = narrow e a b n h p

  pub narrow_all : (es : Exprs) (a b : Scope) → IsNarrower a b → KeepsAll a b (exprs_uses es) → AllProper a es →
      AllProper b es
  narrow_all NoExpr a b n h p = tt
  narrow_all (MoreExpr e es) a b n h p = (
    narrow e a b n (keeps_left a b (expr_uses e) (exprs_uses es) h) p.0,
    narrow_all es a b n (keeps_right a b (expr_uses e) (exprs_uses es) h) p.1,
  )

  pub narrow_branches : (bs : Branches) (a b : Scope) → IsNarrower a b → KeepsAll a b (branches_uses bs) →
      ProperBranches a bs → ProperBranches b bs
  narrow_branches NoBranch a b n h p = tt
  narrow_branches (MoreBranch q e bs) a b n h p = (
    (p.0.0, fresh_narrower (bound_by q) a b n p.0.1),
    (
      narrow e (with_all (bound_by q) a) (with_all (bound_by q) b) (narrower_with (bound_by q) a b n)
          (keeps_with (bound_by q) a b (expr_uses e) (keeps_left a b (expr_uses e) (branches_uses bs) h)) p.1.0,
      narrow_branches bs a b n (keeps_right a b (expr_uses e) (branches_uses bs) h) p.1.1,
    ),
  )

  pub narrow_groups : (gs : Groups) (a b : Scope) → IsNarrower a b → KeepsAll a b (groups_uses gs) → ProperGroups a gs →
      ProperGroups b gs
  narrow_groups NoGroup a b n h p = tt
  narrow_groups (MoreGroup g gs) a b n h p = (
    narrow_group g a b n (keeps_left a b (group_uses g) (groups_uses gs) h) p.0,
    narrow_groups gs (with_all (group_names g) a) (with_all (group_names g) b) (narrower_with (group_names g) a b n)
        (keeps_with (group_names g) a b (groups_uses gs) (keeps_right a b (group_uses g) (groups_uses gs) h)) p.1,
  )

  pub narrow_group : (g : Group) (a b : Scope) → IsNarrower a b → KeepsAll a b (group_uses g) → ProperGroup a g →
      ProperGroup b g
  narrow_group (Together fs) a b n h p = (
    fresh_narrower (function_names fs) a b n p.0,
    narrow_functions fs (with_all (function_names fs) a) (with_all (function_names fs) b)
        (narrower_with (function_names fs) a b n) (keeps_with (function_names fs) a b (functions_uses fs) h) p.1,
  )
  narrow_group (Constant title e) a b n h p = (
    p.0,
    (
      not_true (among title.name b) (λ k. false≢true (sym p.1.0 ∙ n.within title.name k)),
      narrow e a b n h p.1.1,
    ),
  )
  narrow_group (Destructure q e) a b n h p =
      ((p.0.0, fresh_narrower (bound_by q) a b n p.0.1), narrow e a b n h p.1)

  pub narrow_functions : (fs : Functions) (a b : Scope) → IsNarrower a b → KeepsAll a b (functions_uses fs) →
      ProperFunctions a fs → ProperFunctions b fs
  narrow_functions NoFunction a b n h p = tt
  narrow_functions (MoreFunction title ps e fs) a b n h p = (
    p.0,
    (
      p.1.0,
      (
        (p.1.1.0.0, fresh_narrower (all_bound_by ps) a b n p.1.1.0.1),
        (
          narrow e (with_all (all_bound_by ps) a) (with_all (all_bound_by ps) b) (narrower_with (all_bound_by ps) a b n)
              (keeps_with (all_bound_by ps) a b (expr_uses e) (keeps_left a b (expr_uses e) (functions_uses fs) h)) p.1.1.1.0,
          narrow_functions fs a b n (keeps_right a b (expr_uses e) (functions_uses fs) h) p.1.1.1.1,
        ),
      ),
    ),
  )

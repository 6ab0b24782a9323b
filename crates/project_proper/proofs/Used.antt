-- What an expression uses is in scope where it is proper, as far as it is proper too where all of that is in scope:
-- `used`, `group_used`.
use Rattle.std.proofs.Common.{◌≡◌, List, [], ◌∷◌, ◌++◌, Bool, true, false, refl, sym, ◌∙◌, subst, ⊎_elim}
use Rattle.std.proofs.Common.{if◌then◌else◌}
use Rattle.std.proofs.lemmas.Bool.{false≢true}
use Rattle.elm_canon.specs.Tree.{Expr, Is, NameOf, Accessor, Lambda, Apply, Strict, If, Logical, Let, Case, Located}
use Rattle.elm_canon.specs.Tree.{Exprs, NoExpr, MoreExpr, Branches, NoBranch, MoreBranch, Groups, NoGroup, MoreGroup}
use Rattle.elm_canon.specs.Tree.{Group, Together, Constant, Destructure, Functions, NoFunction, MoreFunction}
use Rattle.elm_canon.specs.Names.{same_ref}
use Rattle.elm_canon.specs.declared.reference.Ref.{Ref}
use Rattle.elm_canon.specs.declared.reference.Ref.TheVariants.{Local, Top}
use Rattle.canon_env.specs.Uses.{expr_uses, exprs_uses, branches_uses, groups_uses, group_uses, functions_uses}
use Rattle.elm_canon.specs.Proper.{Scope, IsIn, with_all, AreFresh, bound_by, all_bound_by, after}
use Rattle.elm_canon.specs.Proper.{Proper, AllProper, ProperBranches, ProperGroups, ProperGroup, ProperFunctions}
use Rattle.elm_canon.specs.Proper.{function_names, group_names}
use Rattle.canon_proper.specs.Narrower.{KeepsAll}
use Rattle.canon_proper.proofs.Scopes.{in_more, one_ref}
use Rattle.canon_proper.proofs.Apart.{fresh_none, in_either}
use Rattle.module_proper.specs.Inside.{IsInsideGroup}
use Rattle.project_proper.proofs.Left.{in_with}

-- what stands in both scopes is no name that is new in the wider one
below : (xs : List Ref) (a w : Scope) (r : Ref) → AreFresh xs w → IsIn r w → IsIn r (with_all xs a) → IsIn r a
below xs a w r f h e =
    ⊎_elim (λ k. absurd (false≢true (sym (fresh_none xs w f r k) ∙ h))) (λ k. k) (in_with r xs a e)

group_fresh : (g : Group) (w : Scope) → ProperGroup w g → AreFresh (group_names g) w
group_fresh (Together fs) w q = q.0
group_fresh (Constant title e) w q = (q.1.0, tt)
group_fresh (Destructure p e) w q = q.0.1

below_groups : (gs : Groups) (a w : Scope) (r : Ref) → ProperGroups w gs → IsIn r w → IsIn r (after gs a) → IsIn r a
below_groups NoGroup a w r q h e = e
below_groups (MoreGroup g gs) a w r q h e =
    below (group_names g) a w r (group_fresh g w q.0) h
    (below_groups gs (with_all (group_names g) a) (with_all (group_names g) w) r q.1 (in_more r (group_names g) w h) e)

in_after : (gs : Groups) (w : Scope) (r : Ref) → IsIn r w → IsIn r (after gs w)
in_after NoGroup w r h = h
in_after (MoreGroup g gs) w r h = in_after gs (with_all (group_names g) w) r (in_more r (group_names g) w h)

pub only : (x y : Ref) → IsIn x (y ∷ []) → x ≡ y
only x y i = one_ref x y (by (same_ref x y) i)
  where
    by : (b : Bool) → (if b then true else false) ≡ true → b ≡ true
    by true e = refl
    by false e = e

pub only_one : (r q : Ref) (a : Scope) → IsIn r (q ∷ []) → IsIn q a → IsIn r a
only_one r q a i h = subst (λ z. IsIn z a) (sym (only r q i)) h

mutual
  pub used : (e : Expr) (a w : Scope) → Proper a e → Proper w e → KeepsAll w a (expr_uses e)
  used (Is l) a w p q r i h = absurd (false≢true i)
  used (NameOf (Local x)) a w p q r i h = absurd (false≢true i)
  used (NameOf (Top m x)) a w p q r i h = only_one r (Top m x) a i p
  used (Accessor k) a w p q r i h = absurd (false≢true i)
  used (Lambda ps e) a w p q r i h =
      let xs = all_bound_by ps in
      below xs a w r q.1.0.1 h (used e (with_all xs a) (with_all xs w) p.1.1 q.1.1 r i (in_more r xs w h))
  used (Apply f es) a w p q r i h =
      ⊎_elim (λ k. used f a w p.0 q.0 r k h) (λ k. used_all es a w p.1 q.1 r k h)
      (in_either r (expr_uses f) (exprs_uses es) i)
  used (Strict op es) a w p q r i h = used_all es a w p.1 q.1 r i h
  used (If c d e) a w p q r i h =
      ⊎_elim (λ k. ⊎_elim (λ l. used c a w p.0 q.0 r l h) (λ l. used d a w p.1.0 q.1.0 r l h)
      (in_either r (expr_uses c) (expr_uses d) k)) (λ k. used e a w p.1.1 q.1.1 r k h)
      (in_either r (expr_uses c ++ expr_uses d) (expr_uses e) i)
  used (Logical place op d e) a w p q r i h =
      ⊎_elim (λ k. used d a w p.0 q.0 r k h) (λ k. used e a w p.1 q.1 r k h)
      (in_either r (expr_uses d) (expr_uses e) i)
  used (Let gs e) a w p q r i h =
      ⊎_elim (λ k. used_groups gs a w p.0 q.0 r k h)
      (λ k. below_groups gs a w r q.0 h (used e (after gs a) (after gs w) p.1 q.1 r k (in_after gs w r h)))
      (in_either r (groups_uses gs) (expr_uses e) i)
  used (Case e bs) a w p q r i h =
      ⊎_elim (λ k. used e a w p.0 q.0 r k h) (λ k. used_branches bs a w p.1 q.1 r k h)
      (in_either r (expr_uses e) (branches_uses bs) i)
  used (Located place e) a w p q r i h = used e a w p q r i h

  used_all : (es : Exprs) (a w : Scope) → AllProper a es → AllProper w es → KeepsAll w a (exprs_uses es)
  used_all NoExpr a w p q r i h = absurd (false≢true i)
  used_all (MoreExpr e es) a w p q r i h =
      ⊎_elim (λ k. used e a w p.0 q.0 r k h) (λ k. used_all es a w p.1 q.1 r k h)
      (in_either r (expr_uses e) (exprs_uses es) i)

  used_branches : (bs : Branches) (a w : Scope) → ProperBranches a bs → ProperBranches w bs →
      KeepsAll w a (branches_uses bs)
  used_branches NoBranch a w p q r i h = absurd (false≢true i)
  used_branches (MoreBranch x e bs) a w p q r i h =
      let xs = bound_by x in
      ⊎_elim
      (λ k. below xs a w r q.0.1 h (used e (with_all xs a) (with_all xs w) p.1.0 q.1.0 r k (in_more r xs w h)))
      (λ k. used_branches bs a w p.1.1 q.1.1 r k h) (in_either r (expr_uses e) (branches_uses bs) i)

  used_groups : (gs : Groups) (a w : Scope) → ProperGroups a gs → ProperGroups w gs → KeepsAll w a (groups_uses gs)
  used_groups NoGroup a w p q r i h = absurd (false≢true i)
  used_groups (MoreGroup g gs) a w p q r i h =
      let xs = group_names g in
      ⊎_elim (λ k. used_group g a w p.0 q.0 r k h)
      (λ k. below xs a w r (group_fresh g w q.0) h
      (used_groups gs (with_all xs a) (with_all xs w) p.1 q.1 r k (in_more r xs w h)))
      (in_either r (group_uses g) (groups_uses gs) i)

  used_group : (g : Group) (a w : Scope) → ProperGroup a g → ProperGroup w g → KeepsAll w a (group_uses g)
  used_group (Together fs) a w p q r i h =
      let xs = function_names fs in
      below xs a w r q.0 h (used_functions fs (with_all xs a) (with_all xs w) p.1 q.1 r i (in_more r xs w h))
  used_group (Constant title e) a w p q r i h = used e a w p.1.1 q.1.1 r i h
  used_group (Destructure x e) a w p q r i h = used e a w p.1 q.1 r i h

  pub used_functions : (fs : Functions) (a w : Scope) → ProperFunctions a fs → ProperFunctions w fs →
      KeepsAll w a (functions_uses fs)
  used_functions NoFunction a w p q r i h = absurd (false≢true i)
  used_functions (MoreFunction title ps e fs) a w p q r i h =
      let xs = all_bound_by ps in
      ⊎_elim
      (λ k. below xs a w r q.1.1.0.1 h
      (used e (with_all xs a) (with_all xs w) p.1.1.1.0 q.1.1.1.0 r k (in_more r xs w h)))
      (λ k. used_functions fs a w p.1.1.1.1 q.1.1.1.1 r k h) (in_either r (expr_uses e) (functions_uses fs) i)

-- of a group that is proper in the one scope, and inside the other
pub inside_used : (g : Group) (a w : Scope) → ProperGroup a g → IsInsideGroup w g →
    KeepsAll w (with_all (group_names g) a) (group_uses g)
inside_used (Together fs) a w p q r i h = used_functions fs (with_all (function_names fs) a) w p.1 q r i h
inside_used (Constant title e) a w p q r i h = in_more r (title.name ∷ []) a (used e a w p.1.1 q.1 r i h)
inside_used (Destructure x e) a w p q r i h = absurd q

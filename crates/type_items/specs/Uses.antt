-- The names that an expression uses, in the order in which they stand in its canonical tree.
use Rattle.std.specs.Prelude.{List, [], ◌∷◌, ◌++◌}
use Rattle.elm_canon.specs.declared.reference.Ref.{Ref}
use Rattle.elm_canon.specs.Tree.{Expr, Is, NameOf, Accessor, Lambda, Apply, Strict, If, Logical, Let, Case, Located}
use Rattle.elm_canon.specs.Tree.{Exprs, NoExpr, MoreExpr, Branches, NoBranch, MoreBranch, Groups, NoGroup, MoreGroup}
use Rattle.elm_canon.specs.Tree.{Group, Together, Constant, Destructure, Functions, NoFunction, MoreFunction}

abbrev mutual
  pub used : Expr → List Ref
  used (Is l) = []
  used (NameOf x) = x ∷ []
  used (Accessor x) = []
  used (Lambda qs e) = used e
  used (Apply f es) = used f ++ used_each es
  used (Strict op es) = used_each es
  used (If c a b) = used c ++ used a ++ used b
  used (Logical pos op a b) = used a ++ used b
  used (Let gs e) = used_groups gs ++ used e
  used (Case e bs) = used e ++ used_branches bs
  used (Located pos e) = used e

  pub used_each : Exprs → List Ref
  used_each NoExpr = []
  used_each (MoreExpr e es) = used e ++ used_each es

  pub used_branches : Branches → List Ref
  used_branches NoBranch = []
  used_branches (MoreBranch q e bs) = used e ++ used_branches bs

  pub used_groups : Groups → List Ref
  used_groups NoGroup = []
  used_groups (MoreGroup g gs) = used_group g ++ used_groups gs

  pub used_group : Group → List Ref
  used_group (Together fs) = used_functions fs
  used_group (Constant title e) = used e
  used_group (Destructure q e) = used e

  pub used_functions : Functions → List Ref
  used_functions NoFunction = []
  used_functions (MoreFunction title qs e fs) = used e ++ used_functions fs

-- The names of modules that an expression uses, in the order in which they stand in its canonical tree.
use Rattle.std.specs.Prelude.{List, [], ◌∷◌, ◌++◌}
use Rattle.elm_canon.specs.declared.reference.Ref.{Ref}
use Rattle.elm_canon.specs.declared.reference.Ref.TheVariants.{Local, Top}
use Rattle.elm_canon.specs.Tree.{Expr, Is, NameOf, Accessor, Lambda, Apply, Strict, If, Logical, Let, Case, Located}
use Rattle.elm_canon.specs.Tree.{Exprs, NoExpr, MoreExpr, Branches, NoBranch, MoreBranch, Groups, NoGroup, MoreGroup}
use Rattle.elm_canon.specs.Tree.{Group, Together, Constant, Destructure, Functions, NoFunction, MoreFunction}

abbrev pub ref_uses : Ref → List Ref
ref_uses (Local x) = []
ref_uses (Top m x) = Top m x ∷ []

abbrev mutual
  pub expr_uses : Expr → List Ref
  expr_uses (Is l) = []
  expr_uses (NameOf r) = ref_uses r
  expr_uses (Accessor x) = []
  expr_uses (Lambda ps e) = expr_uses e
  expr_uses (Apply f es) = expr_uses f ++ exprs_uses es
  expr_uses (Strict o es) = exprs_uses es
  expr_uses (If c a b) = expr_uses c ++ expr_uses a ++ expr_uses b
  expr_uses (Logical place c a b) = expr_uses a ++ expr_uses b
  expr_uses (Let gs e) = groups_uses gs ++ expr_uses e
  expr_uses (Case e bs) = expr_uses e ++ branches_uses bs
  expr_uses (Located place e) = expr_uses e

  pub exprs_uses : Exprs → List Ref
  exprs_uses NoExpr = []
  exprs_uses (MoreExpr e es) = expr_uses e ++ exprs_uses es

  pub branches_uses : Branches → List Ref
  branches_uses NoBranch = []
  branches_uses (MoreBranch p e bs) = expr_uses e ++ branches_uses bs

  pub groups_uses : Groups → List Ref
  groups_uses NoGroup = []
  groups_uses (MoreGroup g gs) = group_uses g ++ groups_uses gs

  pub group_uses : Group → List Ref
  group_uses (Together fs) = functions_uses fs
  group_uses (Constant t e) = expr_uses e
  group_uses (Destructure p e) = expr_uses e

  pub functions_uses : Functions → List Ref
  functions_uses NoFunction = []
  functions_uses (MoreFunction t ps e fs) = expr_uses e ++ functions_uses fs

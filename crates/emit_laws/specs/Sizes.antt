-- Expressions without huge parts: a tuple has fewer than 2 ^ 32 parts, so that their names differ in the output, and a
-- case has fewer than 2 ^ 32 branches, so that their numbers are exact.
use Rattle.std.specs.Prelude.{ℕ, suc, ◌<◌, List, [], ◌∷◌}
use Rattle.elm_canon.specs.Tree.{Op, TupleOf, Expr, Is, NameOf, Accessor, Lambda, Apply, Strict, If, Logical, Let, Case}
use Rattle.elm_canon.specs.Tree.{Located, Exprs, NoExpr, MoreExpr, Branches, NoBranch, MoreBranch, Groups, NoGroup}
use Rattle.elm_canon.specs.Tree.{MoreGroup, Group, Together, Constant, Destructure, Functions, NoFunction, MoreFunction}
use Rattle.elm_canon.specs.Tree.{Declaration, Given, Define}
use Rattle.elm_canon.specs.Proper.{count_exprs}

abbrev pub FewFor : Op → ℕ → Type 0
FewFor TupleOf n = n < 4294967296
FewFor op n = Unit {0}

abbrev pub count_branches : Branches → ℕ
count_branches NoBranch = 0
count_branches (MoreBranch p e bs) = suc (count_branches bs)

abbrev mutual
  pub FewParts : Expr → Type 0
  FewParts (Is l) = Unit {0}
  FewParts (NameOf r) = Unit {0}
  FewParts (Accessor k) = Unit {0}
  FewParts (Lambda ps e) = FewParts e
  FewParts (Apply f es) = FewParts f × FewInAll es
  FewParts (Strict op es) = FewFor op (count_exprs es) × FewInAll es
  FewParts (If c a b) = FewParts c × (FewParts a × FewParts b)
  FewParts (Logical place op a b) = FewParts a × FewParts b
  FewParts (Let gs e) = FewInGroups gs × FewParts e
  FewParts (Case e bs) = FewParts e × ((count_branches bs < 4294967296) × FewInBranches bs)
  FewParts (Located place e) = FewParts e

  pub FewInAll : Exprs → Type 0
  FewInAll NoExpr = Unit {0}
  FewInAll (MoreExpr e es) = FewParts e × FewInAll es

  pub FewInBranches : Branches → Type 0
  FewInBranches NoBranch = Unit {0}
  FewInBranches (MoreBranch p e bs) = FewParts e × FewInBranches bs

  pub FewInGroups : Groups → Type 0
  FewInGroups NoGroup = Unit {0}
  FewInGroups (MoreGroup g gs) = FewInGroup g × FewInGroups gs

  pub FewInGroup : Group → Type 0
  FewInGroup (Together fs) = FewInFunctions fs
  FewInGroup (Constant title e) = FewParts e
  FewInGroup (Destructure p e) = FewParts e

  pub FewInFunctions : Functions → Type 0
  FewInFunctions NoFunction = Unit {0}
  FewInFunctions (MoreFunction title ps e fs) = FewParts e × FewInFunctions fs

abbrev pub FewInDeclarations : List Declaration → Type 0
FewInDeclarations [] = Unit {0}
FewInDeclarations (Given r k ∷ ds) = FewInDeclarations ds
FewInDeclarations (Define g ∷ ds) = FewInGroup g × FewInDeclarations ds

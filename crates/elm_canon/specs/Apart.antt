-- What names give of each `let`: the names that its definitions bind inside are none of its own names.
use Rattle.std.specs.Prelude.{◌≡◌, List, [], ◌++◌, false}
use Rattle.elm_canon.specs.declared.reference.Ref.{Ref}
use Rattle.elm_canon.specs.Tree.{Expr, Is, NameOf, Accessor, Lambda, Apply, Strict, If, Logical, Let, Case, Located}
use Rattle.elm_canon.specs.Tree.{Exprs, NoExpr, MoreExpr, Branches, NoBranch, MoreBranch, Groups, NoGroup, MoreGroup}
use Rattle.elm_canon.specs.Tree.{Group, Together, Constant, Destructure, Functions, NoFunction, MoreFunction}
use Rattle.elm_canon.specs.Proper.{among, IsIn, bound_by, all_bound_by, group_names}

-- the names of the definitions of a `let`
abbrev pub let_names : Groups → List Ref
let_names NoGroup = []
let_names (MoreGroup g gs) = group_names g ++ let_names gs

-- the names that are bound inside an expression
abbrev mutual
  pub inner_names : Expr → List Ref
  inner_names (Is l) = []
  inner_names (NameOf x) = []
  inner_names (Accessor x) = []
  inner_names (Lambda ps e) = all_bound_by ps ++ inner_names e
  inner_names (Apply f es) = inner_names f ++ inner_each es
  inner_names (Strict op es) = inner_each es
  inner_names (If c a b) = inner_names c ++ (inner_names a ++ inner_names b)
  inner_names (Logical pos op a b) = inner_names a ++ inner_names b
  inner_names (Let gs e) = let_names gs ++ (inner_groups gs ++ inner_names e)
  inner_names (Case e bs) = inner_names e ++ inner_branches bs
  inner_names (Located pos e) = inner_names e

  pub inner_each : Exprs → List Ref
  inner_each NoExpr = []
  inner_each (MoreExpr e es) = inner_names e ++ inner_each es

  pub inner_branches : Branches → List Ref
  inner_branches NoBranch = []
  inner_branches (MoreBranch p e bs) = bound_by p ++ (inner_names e ++ inner_branches bs)

  -- inside the definitions
  pub inner_groups : Groups → List Ref
  inner_groups NoGroup = []
  inner_groups (MoreGroup g gs) = inner_group g ++ inner_groups gs

  pub inner_group : Group → List Ref
  inner_group (Together fs) = inner_functions fs
  inner_group (Constant title e) = inner_names e
  inner_group (Destructure p e) = inner_names e

  pub inner_functions : Functions → List Ref
  inner_functions NoFunction = []
  inner_functions (MoreFunction title ps e fs) = all_bound_by ps ++ (inner_names e ++ inner_functions fs)

-- no name of the definitions is bound inside one of them
abbrev pub NamesApart : Groups → Type 0
NamesApart gs = (x : Ref) → IsIn x (let_names gs) → among x (inner_groups gs) ≡ false

-- so it is of each `let`
abbrev mutual
  pub LetsApart : Expr → Type 0
  LetsApart (Is l) = Unit {0}
  LetsApart (NameOf x) = Unit {0}
  LetsApart (Accessor x) = Unit {0}
  LetsApart (Lambda ps e) = LetsApart e
  LetsApart (Apply f es) = LetsApart f × AllLetsApart es
  LetsApart (Strict op es) = AllLetsApart es
  LetsApart (If c a b) = LetsApart c × (LetsApart a × LetsApart b)
  LetsApart (Logical pos op a b) = LetsApart a × LetsApart b
  LetsApart (Let gs e) = NamesApart gs × (GroupsApart gs × LetsApart e)
  LetsApart (Case e bs) = LetsApart e × BranchesApart bs
  LetsApart (Located pos e) = LetsApart e

  pub AllLetsApart : Exprs → Type 0
  AllLetsApart NoExpr = Unit {0}
  AllLetsApart (MoreExpr e es) = LetsApart e × AllLetsApart es

  pub BranchesApart : Branches → Type 0
  BranchesApart NoBranch = Unit {0}
  BranchesApart (MoreBranch p e bs) = LetsApart e × BranchesApart bs

  pub GroupsApart : Groups → Type 0
  GroupsApart NoGroup = Unit {0}
  GroupsApart (MoreGroup g gs) = GroupApart g × GroupsApart gs

  pub GroupApart : Group → Type 0
  GroupApart (Together fs) = FunctionsApart fs
  GroupApart (Constant title e) = LetsApart e
  GroupApart (Destructure p e) = LetsApart e

  pub FunctionsApart : Functions → Type 0
  FunctionsApart NoFunction = Unit {0}
  FunctionsApart (MoreFunction title ps e fs) = LetsApart e × FunctionsApart fs

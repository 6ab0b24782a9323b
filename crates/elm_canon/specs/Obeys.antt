-- Canonical trees whose constructors meet conditions, but for mappings: a `case` whose first branch builds again what
-- it takes apart.
use Rattle.std.specs.Prelude.{◌⊎◌}
use Rattle.elm_canon.specs.Tree.{Pattern, Expr, Is, NameOf, Accessor, Lambda, Apply, Strict, If, Logical, Let, Case}
use Rattle.elm_canon.specs.Tree.{Located, Exprs, NoExpr, MoreExpr, Branches, NoBranch, MoreBranch, Groups, NoGroup}
use Rattle.elm_canon.specs.Tree.{MoreGroup, Group, Together, Constant, Destructure, Functions, NoFunction, MoreFunction}
use Rattle.elm_canon.specs.Tree.{Declaration, Given, Define}
use Rattle.elm_canon.specs.Mentions.{Condition, PatternTakes, PatternsTake, OpBuilds}

-- which two branches are a mapping: the pattern and the body of the first, and the pattern of the second
abbrev pub Mapping : Type 1
Mapping = Pattern → Expr → Pattern → Type 0

-- patterns meet the first condition, and what is built the second; or it is a mapping
abbrev mutual
  pub Obeys : Condition → Condition → Mapping → Expr → Type 0
  Obeys P B M (Is l) = Unit {0}
  Obeys P B M (NameOf x) = Unit {0}
  Obeys P B M (Accessor x) = Unit {0}
  Obeys P B M (Lambda qs e) = PatternsTake P qs × Obeys P B M e
  Obeys P B M (Apply f es) = Obeys P B M f × ObeyEach P B M es
  Obeys P B M (Strict op es) = OpBuilds B op × ObeyEach P B M es
  Obeys P B M (If c a b) = Obeys P B M c × (Obeys P B M a × Obeys P B M b)
  Obeys P B M (Logical place op a b) = Obeys P B M a × Obeys P B M b
  Obeys P B M (Let gs e) = GroupsObey P B M gs × Obeys P B M e
  Obeys P B M (Case e bs) = Obeys P B M e × (BranchesObey P B M bs ⊎ BranchesMap P B M bs)
  Obeys P B M (Located place e) = Obeys P B M e

  pub ObeyEach : Condition → Condition → Mapping → Exprs → Type 0
  ObeyEach P B M NoExpr = Unit {0}
  ObeyEach P B M (MoreExpr e es) = Obeys P B M e × ObeyEach P B M es

  pub BranchesObey : Condition → Condition → Mapping → Branches → Type 0
  BranchesObey P B M NoBranch = Unit {0}
  BranchesObey P B M (MoreBranch q e bs) = PatternTakes P q × (Obeys P B M e × BranchesObey P B M bs)

  -- two branches that are a mapping
  pub BranchesMap : Condition → Condition → Mapping → Branches → Type 0
  BranchesMap P B M NoBranch = ⊥
  BranchesMap P B M (MoreBranch q e NoBranch) = ⊥
  BranchesMap P B M (MoreBranch q e (MoreBranch r b NoBranch)) = M q e r × Obeys P B M b
  BranchesMap P B M (MoreBranch q e (MoreBranch r b (MoreBranch s c bs))) = ⊥

  -- the groups of a `let`
  pub GroupsObey : Condition → Condition → Mapping → Groups → Type 0
  GroupsObey P B M NoGroup = Unit {0}
  GroupsObey P B M (MoreGroup g gs) = GroupObeys P B M g × GroupsObey P B M gs

  pub GroupObeys : Condition → Condition → Mapping → Group → Type 0
  GroupObeys P B M (Together fs) = FunctionsObey P B M fs
  GroupObeys P B M (Constant title e) = Obeys P B M e
  GroupObeys P B M (Destructure q e) = PatternTakes P q × Obeys P B M e

  pub FunctionsObey : Condition → Condition → Mapping → Functions → Type 0
  FunctionsObey P B M NoFunction = Unit {0}
  FunctionsObey P B M (MoreFunction title qs e fs) = (PatternsTake P qs × Obeys P B M e) × FunctionsObey P B M fs

-- ---- declarations

abbrev pub DeclarationObeys : Condition → Condition → Mapping → Declaration → Type 0
DeclarationObeys P B M (Given x k) = Unit {0}
DeclarationObeys P B M (Define g) = GroupObeys P B M g

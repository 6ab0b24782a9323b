-- Where patterns meet values: each `case`, each parameter, and each pattern that a definition takes apart. (Elm guide:
-- pattern matching.)
--
-- `expr_sites here e` are those of the expression e, which begins at `here` or where it says.
use Rattle.std.specs.Prelude.{List, [], ◌∷◌, ◌++◌}
use Rattle.elm_base.specs.declared.position.Pos.{Pos}
use Rattle.elm_canon.specs.Tree.{Pattern, Patterns, NoPattern, MorePattern, Expr, Is, NameOf, Accessor, Lambda, Apply}
use Rattle.elm_canon.specs.Tree.{Strict, If, Logical, Let, Case, Located, Exprs, NoExpr, MoreExpr, Branches, NoBranch}
use Rattle.elm_canon.specs.Tree.{MoreBranch, Groups, NoGroup, MoreGroup, Group, Together, Constant, Destructure}
use Rattle.elm_canon.specs.Tree.{Functions, NoFunction, MoreFunction, Declaration, Given, Define, Module}

pub data Site : Type 0 where
  -- a `case` that stands there, with the patterns of its branches
  Choice : Pos → List Pattern → Site
  -- a pattern that has to take every value; one that does not say where it begins stands there
  Sole : Pos → Pattern → Site

abbrev pub branch_patterns : Branches → List Pattern
branch_patterns NoBranch = []
branch_patterns (MoreBranch q e bs) = q ∷ branch_patterns bs

abbrev pub sole_sites : Pos → Patterns → List Site
sole_sites here NoPattern = []
sole_sites here (MorePattern q qs) = Sole here q ∷ sole_sites here qs

abbrev mutual
  pub expr_sites : Pos → Expr → List Site
  expr_sites here (Is l) = []
  expr_sites here (NameOf x) = []
  expr_sites here (Accessor x) = []
  expr_sites here (Lambda qs e) = sole_sites here qs ++ expr_sites here e
  expr_sites here (Apply f es) = expr_sites here f ++ exprs_sites here es
  expr_sites here (Strict op es) = exprs_sites here es
  expr_sites here (If c a b) = expr_sites here c ++ expr_sites here a ++ expr_sites here b
  expr_sites here (Logical place op a b) = expr_sites here a ++ expr_sites here b
  expr_sites here (Let gs e) = groups_sites here gs ++ expr_sites here e
  expr_sites here (Case e bs) = expr_sites here e ++ Choice here (branch_patterns bs) ∷ branches_sites here bs
  expr_sites here (Located place e) = expr_sites place e

  pub exprs_sites : Pos → Exprs → List Site
  exprs_sites here NoExpr = []
  exprs_sites here (MoreExpr e es) = expr_sites here e ++ exprs_sites here es

  -- of the bodies
  pub branches_sites : Pos → Branches → List Site
  branches_sites here NoBranch = []
  branches_sites here (MoreBranch q e bs) = expr_sites here e ++ branches_sites here bs

  pub groups_sites : Pos → Groups → List Site
  groups_sites here NoGroup = []
  groups_sites here (MoreGroup g gs) = group_sites here g ++ groups_sites here gs

  pub group_sites : Pos → Group → List Site
  group_sites here (Together fs) = functions_sites fs
  group_sites here (Constant title e) = expr_sites title.place e
  group_sites here (Destructure q e) = Sole here q ∷ expr_sites here e

  pub functions_sites : Functions → List Site
  functions_sites NoFunction = []
  functions_sites (MoreFunction title qs e fs) =
      sole_sites title.place qs ++ expr_sites title.place e ++ functions_sites fs

-- where a module begins
abbrev pub start : Pos
start = record { row = 1; column = 1 }

abbrev pub declarations_sites : List Declaration → List Site
declarations_sites [] = []
declarations_sites (Given x k ∷ ds) = declarations_sites ds
declarations_sites (Define g ∷ ds) = group_sites start g ++ declarations_sites ds

abbrev pub module_sites : Module → List Site
module_sites m = declarations_sites m.declarations

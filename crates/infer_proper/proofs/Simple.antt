-- The definitions of each `let` are simple.
use Rattle.elm_canon.specs.Tree.{Expr, Is, NameOf, Accessor, Lambda, Apply, Strict, If, Logical, Let, Case, Located}
use Rattle.elm_canon.specs.Tree.{Exprs, NoExpr, MoreExpr, Branches, NoBranch, MoreBranch, Groups, NoGroup, MoreGroup}
use Rattle.elm_canon.specs.Tree.{Group, Together, Constant, Destructure, Functions, NoFunction, MoreFunction}
use Rattle.elm_canon.specs.Proper.{Scope, Proper, AllProper, ProperBranches, ProperGroups, ProperGroup}
use Rattle.elm_canon.specs.Proper.{ProperFunctions}
use Rattle.elm_canon.specs.Apart.{LetsApart, AllLetsApart, BranchesApart, GroupsApart, GroupApart, FunctionsApart}
use Rattle.infer_proper.specs.Simple.{SimpleLets, AllSimpleLets, SimpleBranches, SimpleGroups, SimpleGroup}
use Rattle.infer_proper.specs.Simple.{SimpleFunctions}
use Rattle.infer_proper.proofs.Grouping.{apart_are_simple}

mutual
  pub proper_simple : (scope : Scope) (e : Expr) → Proper scope e → LetsApart e → SimpleLets e
  proper_simple scope (Is l) p h = tt
  proper_simple scope (NameOf x) p h = tt
  proper_simple scope (Accessor x) p h = tt
  proper_simple scope (Lambda ps e) p h = proper_simple _ e p.1.1 h
  proper_simple scope (Apply f es) p h = (proper_simple scope f p.0 h.0, all_simple scope es p.1 h.1)
  proper_simple scope (Strict op es) p h = all_simple scope es p.1 h
  proper_simple scope (If c a b) p h =
      (proper_simple scope c p.0 h.0, (proper_simple scope a p.1.0 h.1.0, proper_simple scope b p.1.1 h.1.1))
  proper_simple scope (Logical pos op a b) p h = (proper_simple scope a p.0 h.0, proper_simple scope b p.1 h.1)
  proper_simple scope (Let gs e) p h =
      (apart_are_simple scope gs p.0 h.0, (groups_simple scope gs p.0 h.1.0, proper_simple _ e p.1 h.1.1))
  proper_simple scope (Case e bs) p h = (proper_simple scope e p.0 h.0, branches_simple scope bs p.1 h.1)
  proper_simple scope (Located pos e) p h = proper_simple scope e p h

  pub all_simple : (scope : Scope) (es : Exprs) → AllProper scope es → AllLetsApart es → AllSimpleLets es
  all_simple scope NoExpr p h = tt
  all_simple scope (MoreExpr e es) p h = (proper_simple scope e p.0 h.0, all_simple scope es p.1 h.1)

  pub branches_simple : (scope : Scope) (bs : Branches) → ProperBranches scope bs → BranchesApart bs
      → SimpleBranches bs
  branches_simple scope NoBranch p h = tt
  branches_simple scope (MoreBranch q e bs) p h =
      (proper_simple _ e p.1.0 h.0, branches_simple scope bs p.1.1 h.1)

  pub groups_simple : (scope : Scope) (gs : Groups) → ProperGroups scope gs → GroupsApart gs → SimpleGroups gs
  groups_simple scope NoGroup p h = tt
  groups_simple scope (MoreGroup g gs) p h = (group_simple scope g p.0 h.0, groups_simple _ gs p.1 h.1)

  pub group_simple : (scope : Scope) (g : Group) → ProperGroup scope g → GroupApart g → SimpleGroup g
  group_simple scope (Together fs) p h = functions_simple _ fs p.1 h
  group_simple scope (Constant title e) p h = proper_simple scope e p.1.1 h
  group_simple scope (Destructure q e) p h = proper_simple scope e p.1 h

  pub functions_simple : (scope : Scope) (fs : Functions) → ProperFunctions scope fs → FunctionsApart fs
      → SimpleFunctions fs
  functions_simple scope NoFunction p h = tt
  functions_simple scope (MoreFunction title ps e fs) p h =
      (proper_simple _ e p.1.1.1.0 h.0, functions_simple scope fs p.1.1.1.1 h.1)

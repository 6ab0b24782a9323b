-- What names give of expressions, but for what the check of patterns promises.
use Rattle.std.specs.Prelude.{List}
use Rattle.std.specs.List.{AllByRecursion}
use Rattle.elm_canon.specs.Tree.{Pattern, Anything, Named, As, Exactly, Construct, FieldsOf, LocatedPattern, Patterns}
use Rattle.elm_canon.specs.Tree.{NoPattern, MorePattern, Op, TupleOf, ListOf, Build, RecordOf, Access, Update, Negate}
use Rattle.elm_canon.specs.Tree.{Binary, Expr, Is, NameOf, Accessor, Lambda, Apply, Strict, If, Logical, Let, Case}
use Rattle.elm_canon.specs.Tree.{Located}
use Rattle.elm_canon.specs.Tree.{Exprs, NoExpr, MoreExpr, Branches, NoBranch, MoreBranch, Groups, NoGroup, MoreGroup}
use Rattle.elm_canon.specs.Tree.{Group, Together, Constant, Destructure, Functions, NoFunction, MoreFunction}
use Rattle.elm_canon.specs.Tree.{Declaration, Given, Define}
use Rattle.elm_canon.specs.Proper.{Scope}
use Rattle.elm_canon.specs.Declarations.{ProperDeclarations}
use Rattle.elm_canon.specs.Obeys.{DeclarationObeys}
use Rattle.elm_canon.specs.Apart.{GroupApart}
use Rattle.typed_values.specs.World.{World, Declares, Makes}
use Rattle.typed_values.specs.Simple.{IsSome, MapsPorts}
use Rattle.type_safety.specs.Modules.{groups_in}
use Rattle.type_safety.specs.Resolved.{ResolvedGroups}

-- each record that a pattern takes apart, or an expression changes, has a field
abbrev mutual
  pub PatternHasFields : Pattern → Type 0
  PatternHasFields Anything = Unit {0}
  PatternHasFields (Named x) = Unit {0}
  PatternHasFields (As q x) = PatternHasFields q
  PatternHasFields (Exactly l) = Unit {0}
  PatternHasFields (Construct u c qs) = PatternsHaveFields qs
  PatternHasFields (FieldsOf xs) = IsSome xs
  PatternHasFields (LocatedPattern pos q) = PatternHasFields q

  pub PatternsHaveFields : Patterns → Type 0
  PatternsHaveFields NoPattern = Unit {0}
  PatternsHaveFields (MorePattern q qs) = PatternHasFields q × PatternsHaveFields qs

abbrev pub OpHasFields : Op → Type 0
OpHasFields TupleOf = Unit {0}
OpHasFields ListOf = Unit {0}
OpHasFields (Build pos u c) = Unit {0}
OpHasFields (RecordOf xs) = Unit {0}
OpHasFields (Access x) = Unit {0}
OpHasFields (Update xs) = IsSome xs
OpHasFields Negate = Unit {0}
OpHasFields (Binary pos op) = Unit {0}

abbrev mutual
  pub HasFields : Expr → Type 0
  HasFields (Is l) = Unit {0}
  HasFields (NameOf x) = Unit {0}
  HasFields (Accessor x) = Unit {0}
  HasFields (Lambda qs e) = PatternsHaveFields qs × HasFields e
  HasFields (Apply f es) = HasFields f × EachHasFields es
  HasFields (Strict op es) = OpHasFields op × EachHasFields es
  HasFields (If c a b) = HasFields c × (HasFields a × HasFields b)
  HasFields (Logical pos op a b) = HasFields a × HasFields b
  HasFields (Let gs e) = GroupsHaveFields gs × HasFields e
  HasFields (Case e bs) = HasFields e × BranchesHaveFields bs
  HasFields (Located pos e) = HasFields e

  pub EachHasFields : Exprs → Type 0
  EachHasFields NoExpr = Unit {0}
  EachHasFields (MoreExpr e es) = HasFields e × EachHasFields es

  pub BranchesHaveFields : Branches → Type 0
  BranchesHaveFields NoBranch = Unit {0}
  BranchesHaveFields (MoreBranch q e bs) = PatternHasFields q × (HasFields e × BranchesHaveFields bs)

  pub GroupsHaveFields : Groups → Type 0
  GroupsHaveFields NoGroup = Unit {0}
  GroupsHaveFields (MoreGroup g gs) = GroupHasFields g × GroupsHaveFields gs

  pub GroupHasFields : Group → Type 0
  GroupHasFields (Together fs) = FunctionsHaveFields fs
  GroupHasFields (Constant title e) = HasFields e
  GroupHasFields (Destructure q e) = PatternHasFields q × HasFields e

  pub FunctionsHaveFields : Functions → Type 0
  FunctionsHaveFields NoFunction = Unit {0}
  FunctionsHaveFields (MoreFunction title qs e fs) = (PatternsHaveFields qs × HasFields e) × FunctionsHaveFields fs

-- ---- declarations

abbrev pub DeclarationApart : Declaration → Type 0
DeclarationApart (Given r k) = Unit {0}
DeclarationApart (Define g) = GroupApart g

abbrev pub DeclarationHasFields : Declaration → Type 0
DeclarationHasFields (Given r k) = Unit {0}
DeclarationHasFields (Define g) = GroupHasFields g

-- Declarations that are proper in order. What they take apart and build are constructors of the world's unions, and the
-- names that the definitions of a `let` bind inside are none of its own.
pub record AreResolved (w : World) (ds : List Declaration) : Type 0 where
  pub scope : Scope
  pub proper : ProperDeclarations scope ds
  pub obey : AllByRecursion (DeclarationObeys (Declares w) (Makes w) (MapsPorts w)) ds
  pub apart : AllByRecursion DeclarationApart ds
  pub fields : AllByRecursion DeclarationHasFields ds

abbrev pub ResolvedAreTyped : Type 0
ResolvedAreTyped =
    (w : World) (ds : List Declaration) → AreResolved w ds → ResolvedGroups w (groups_in ds)

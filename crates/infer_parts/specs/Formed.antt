-- What type inference asks of a tree, and the resolution of names gives: an operation has all its parts, a record, its
-- pattern and its type name each field once, and a pattern with its value shares its type group with no other
-- definition.
use Rattle.std.specs.Prelude.{◌≡◌, ℕ, suc, length, Option, Some, None}
use Rattle.elm_canon.specs.Tree.{Op, TupleOf, ListOf, Build, RecordOf, Access, Update, Negate, Binary}
use Rattle.elm_canon.specs.Tree.{Expr, Is, NameOf, Accessor, Lambda, Apply, Strict, If, Logical, Let, Case, Located}
use Rattle.elm_canon.specs.Tree.{Exprs, NoExpr, MoreExpr, Branches, NoBranch, MoreBranch, Groups, NoGroup, MoreGroup}
use Rattle.elm_canon.specs.Tree.{Group, Together, Constant, Destructure, Functions, NoFunction, MoreFunction}
use Rattle.elm_canon.specs.Tree.{Annotation, Title}
use Rattle.elm_canon.specs.Proper.{count_exprs}
use Rattle.infer_patterns.specs.Once.{FieldsOnce, EachFieldsOnce}
use Rattle.infer_steps.specs.Operations.{NamesOnce}
use Rattle.infer_order.specs.Order.{IsSimple}
use Rattle.infer_types.specs.Once as annotations

-- so many parts an operation has
abbrev pub HasParts : Op → ℕ → Type 0
HasParts TupleOf n = Unit {0}
HasParts ListOf n = Unit {0}
HasParts (Build pos u c) n = Unit {0}
HasParts (RecordOf xs) n = n ≡ length xs
HasParts (Access x) n = n ≡ 1
HasParts (Update xs) n = n ≡ suc (length xs)
HasParts Negate n = n ≡ 1
HasParts (Binary pos op) n = n ≡ 2

abbrev pub FormedOp : Op → ℕ → Type 0
FormedOp op n = NamesOnce op × HasParts op n

-- the types of records in an annotation name each field once
abbrev pub WrittenOnce : Option Annotation → Type 0
WrittenOnce None = Unit {0}
WrittenOnce (Some t) = annotations.FieldsOnce t

abbrev pub TitleOnce : Title → Type 0
TitleOnce title = WrittenOnce title.annotation

abbrev mutual
  pub Formed : Expr → Type 0
  Formed (Is l) = Unit {0}
  Formed (NameOf x) = Unit {0}
  Formed (Accessor x) = Unit {0}
  Formed (Lambda qs e) = EachFieldsOnce qs × Formed e
  Formed (Apply f es) = Formed f × AllFormed es
  Formed (Strict op es) = FormedOp op (count_exprs es) × AllFormed es
  Formed (If c a b) = Formed c × (Formed a × Formed b)
  Formed (Logical pos op a b) = Formed a × Formed b
  Formed (Let gs e) = IsSimple gs × (FormedGroups gs × Formed e)
  Formed (Case e bs) = Formed e × FormedBranches bs
  Formed (Located pos e) = Formed e

  pub AllFormed : Exprs → Type 0
  AllFormed NoExpr = Unit {0}
  AllFormed (MoreExpr e es) = Formed e × AllFormed es

  pub FormedBranches : Branches → Type 0
  FormedBranches NoBranch = Unit {0}
  FormedBranches (MoreBranch q e bs) = FieldsOnce q × (Formed e × FormedBranches bs)

  pub FormedGroups : Groups → Type 0
  FormedGroups NoGroup = Unit {0}
  FormedGroups (MoreGroup g gs) = FormedGroup g × FormedGroups gs

  pub FormedGroup : Group → Type 0
  FormedGroup (Together fs) = FormedFunctions fs
  FormedGroup (Constant title e) = TitleOnce title × Formed e
  FormedGroup (Destructure q e) = FieldsOnce q × Formed e

  pub FormedFunctions : Functions → Type 0
  FormedFunctions NoFunction = Unit {0}
  FormedFunctions (MoreFunction title qs e fs) =
      TitleOnce title × (EachFieldsOnce qs × (Formed e × FormedFunctions fs))

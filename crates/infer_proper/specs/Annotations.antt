-- What holds of each annotation that a canonical tree writes.
use Rattle.std.specs.Prelude.{Option, Some, None}
use Rattle.std.specs.List.{AllByRecursion}
use Rattle.elm_canon.specs.Tree.{Annotation, Annotations, NoAnnotation, MoreAnnotation, Expr, Is, NameOf, Accessor}
use Rattle.elm_canon.specs.Tree.{Lambda, Apply, Strict, If, Logical, Let, Case, Located, Exprs, NoExpr, MoreExpr}
use Rattle.elm_canon.specs.Tree.{Branches, NoBranch, MoreBranch, Groups, NoGroup, MoreGroup, Group, Together, Constant}
use Rattle.elm_canon.specs.Tree.{Destructure, Functions, NoFunction, MoreFunction, Declaration, Given, Define, Module}

abbrev pub EachOf : (Annotation → Type 0) → Annotations → Type 0
EachOf P NoAnnotation = Unit {0}
EachOf P (MoreAnnotation t ts) = P t × EachOf P ts

abbrev pub IfWritten : (Annotation → Type 0) → Option Annotation → Type 0
IfWritten P None = Unit {0}
IfWritten P (Some t) = P t

-- ---- in expressions: those of the definitions of each let

abbrev mutual
  pub InExpr : (Annotation → Type 0) → Expr → Type 0
  InExpr P (Is l) = Unit {0}
  InExpr P (NameOf r) = Unit {0}
  InExpr P (Accessor k) = Unit {0}
  InExpr P (Lambda ps e) = InExpr P e
  InExpr P (Apply f es) = InExpr P f × InExprs P es
  InExpr P (Strict op es) = InExprs P es
  InExpr P (If c a b) = InExpr P c × (InExpr P a × InExpr P b)
  InExpr P (Logical place op a b) = InExpr P a × InExpr P b
  InExpr P (Let gs e) = InGroups P gs × InExpr P e
  InExpr P (Case e bs) = InExpr P e × InBranches P bs
  InExpr P (Located place e) = InExpr P e

  pub InExprs : (Annotation → Type 0) → Exprs → Type 0
  InExprs P NoExpr = Unit {0}
  InExprs P (MoreExpr e es) = InExpr P e × InExprs P es

  pub InBranches : (Annotation → Type 0) → Branches → Type 0
  InBranches P NoBranch = Unit {0}
  InBranches P (MoreBranch p e bs) = InExpr P e × InBranches P bs

  pub InGroups : (Annotation → Type 0) → Groups → Type 0
  InGroups P NoGroup = Unit {0}
  InGroups P (MoreGroup g gs) = InGroup P g × InGroups P gs

  pub InGroup : (Annotation → Type 0) → Group → Type 0
  InGroup P (Together fs) = InFunctions P fs
  InGroup P (Constant title e) = IfWritten P title.annotation × InExpr P e
  InGroup P (Destructure p e) = InExpr P e

  pub InFunctions : (Annotation → Type 0) → Functions → Type 0
  InFunctions P NoFunction = Unit {0}
  InFunctions P (MoreFunction title ps e fs) = IfWritten P title.annotation × (InExpr P e × InFunctions P fs)

-- ---- in modules

abbrev pub InDeclaration : (Annotation → Type 0) → Declaration → Type 0
InDeclaration P (Given r k) = Unit {0}
InDeclaration P (Define g) = InGroup P g

-- of the fields of each constructor, of what each alias stands for, of the type of each port, and of each definition's
-- annotation
pub record InModule (P : Annotation → Type 0) (m : Module) : Type 0 where
  pub unions : AllByRecursion (λ u. AllByRecursion (EachOf P) u.fields) m.unions
  pub aliases : AllByRecursion (λ a. P a.body) m.aliases
  pub ports : AllByRecursion (λ p. P p.port_type) m.ports
  pub declarations : AllByRecursion (InDeclaration P) m.declarations

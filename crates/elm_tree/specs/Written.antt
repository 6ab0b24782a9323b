-- Trees as they are written: each record update names a field.
use Rattle.std.specs.Prelude.{List}
use Rattle.std.specs.List.{AllByRecursion}
use Rattle.elm_tree.specs.Tree.{Expr, Is, Name, Constructor, OperatorName, Accessor, Lambda, Apply, Chain, Negate}
use Rattle.elm_tree.specs.Tree.{If, Case, Let, ListOf, TupleOf, RecordOf, Update, Access, Exprs, NoExpr, MoreExpr}
use Rattle.elm_tree.specs.Tree.{Parts, NoPart, MorePart, Branches, NoBranch, MoreBranch, Definitions, NoDefinition}
use Rattle.elm_tree.specs.Tree.{MoreDefinition, Definition, Annotate, Define, Destructure, Declaration, Value, Port}
use Rattle.elm_tree.specs.Tree.{Union, Alias}

abbrev pub HasPart : Parts → Type 0
HasPart NoPart = ⊥
HasPart (MorePart x e ps) = Unit {0}

abbrev mutual
  pub UpdatesSome : Expr → Type 0
  UpdatesSome (Is p l) = Unit {0}
  UpdatesSome (Name x) = Unit {0}
  UpdatesSome (Constructor x) = Unit {0}
  UpdatesSome (OperatorName op) = Unit {0}
  UpdatesSome (Accessor x) = Unit {0}
  UpdatesSome (Lambda p qs e) = UpdatesSome e
  UpdatesSome (Apply f es) = UpdatesSome f × EachUpdatesSome es
  UpdatesSome (Chain e ps) = UpdatesSome e × PartsUpdateSome ps
  UpdatesSome (Negate p e) = UpdatesSome e
  UpdatesSome (If c a b) = UpdatesSome c × (UpdatesSome a × UpdatesSome b)
  UpdatesSome (Case p e bs) = UpdatesSome e × BranchesUpdateSome bs
  UpdatesSome (Let ds e) = DefinitionsUpdateSome ds × UpdatesSome e
  UpdatesSome (ListOf p es) = EachUpdatesSome es
  UpdatesSome (TupleOf p es) = EachUpdatesSome es
  UpdatesSome (RecordOf p fs) = PartsUpdateSome fs
  UpdatesSome (Update p r fs) = HasPart fs × PartsUpdateSome fs
  UpdatesSome (Access p e xs) = UpdatesSome e

  pub EachUpdatesSome : Exprs → Type 0
  EachUpdatesSome NoExpr = Unit {0}
  EachUpdatesSome (MoreExpr e es) = UpdatesSome e × EachUpdatesSome es

  -- the operands of a chain, or the values of fields
  pub PartsUpdateSome : Parts → Type 0
  PartsUpdateSome NoPart = Unit {0}
  PartsUpdateSome (MorePart x e ps) = UpdatesSome e × PartsUpdateSome ps

  pub BranchesUpdateSome : Branches → Type 0
  BranchesUpdateSome NoBranch = Unit {0}
  BranchesUpdateSome (MoreBranch q e bs) = UpdatesSome e × BranchesUpdateSome bs

  pub DefinitionsUpdateSome : Definitions → Type 0
  DefinitionsUpdateSome NoDefinition = Unit {0}
  DefinitionsUpdateSome (MoreDefinition d ds) = DefinitionUpdatesSome d × DefinitionsUpdateSome ds

  pub DefinitionUpdatesSome : Definition → Type 0
  DefinitionUpdatesSome (Annotate x t) = Unit {0}
  DefinitionUpdatesSome (Define x qs e) = UpdatesSome e
  DefinitionUpdatesSome (Destructure q e) = UpdatesSome e

abbrev pub DeclarationUpdatesSome : Declaration → Type 0
DeclarationUpdatesSome (Value d) = DefinitionUpdatesSome d
DeclarationUpdatesSome (Port x t) = Unit {0}
DeclarationUpdatesSome (Union x ps cs) = Unit {0}
DeclarationUpdatesSome (Alias x ps t) = Unit {0}

abbrev pub DeclarationsUpdateSome : List Declaration → Type 0
DeclarationsUpdateSome ds = AllByRecursion DeclarationUpdatesSome ds

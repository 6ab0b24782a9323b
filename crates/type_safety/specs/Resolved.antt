-- What the safety of typed programs asks of expressions, but for what the check of patterns promises.
use Rattle.std.specs.Prelude.{◌≡◌, [], true, ◌⊎◌}
use Rattle.elm_canon.specs.Tree.{Expr, Is, NameOf, Accessor, Lambda, Apply, Strict, If, Logical, Let}
use Rattle.elm_canon.specs.Tree.{Case, Located, Exprs, NoExpr, MoreExpr, Branches, NoBranch, MoreBranch, Groups}
use Rattle.elm_canon.specs.Tree.{NoGroup, MoreGroup, Group, Together, Constant, Destructure, Functions, NoFunction}
use Rattle.elm_canon.specs.Tree.{MoreFunction, Module}
use Rattle.elm_canon.specs.Proper.{count_exprs, has_parameter, is_function}
use Rattle.type_items.specs.Expressions.{definitions}
use Rattle.typed_values.specs.World.{World}
use Rattle.typed_values.specs.Simple.{IsPattern, ArePatterns, IsOperation, MapsPorts, AreApart, UseEarlier}
use Rattle.typed_values.specs.Simple.{SimpleGroups}
use Rattle.type_safety.specs.Modules.{groups_in}
use Rattle.pattern_check.specs.Faults.{module_faults}

abbrev mutual
  pub Resolved : World → Expr → Type 0
  Resolved w (Is l) = Unit {0}
  Resolved w (NameOf x) = Unit {0}
  Resolved w (Accessor x) = Unit {0}
  Resolved w (Lambda qs e) = (has_parameter qs ≡ true) × ArePatterns w qs × Resolved w e
  Resolved w (Apply f es) = Resolved w f × ResolvedEach w es
  Resolved w (Strict op es) = IsOperation w op (count_exprs es) × ResolvedEach w es
  Resolved w (If c a b) = Resolved w c × Resolved w a × Resolved w b
  Resolved w (Logical pos op a b) = Resolved w a × Resolved w b
  Resolved w (Let gs e) = AreApart (definitions gs) × UseEarlier gs × ResolvedGroups w gs × Resolved w e
  Resolved w (Case e bs) = Resolved w e × (ResolvedBranches w bs ⊎ ResolvedMap w bs)
  Resolved w (Located pos e) = Resolved w e

  pub ResolvedEach : World → Exprs → Type 0
  ResolvedEach w NoExpr = Unit {0}
  ResolvedEach w (MoreExpr e es) = Resolved w e × ResolvedEach w es

  pub ResolvedBranches : World → Branches → Type 0
  ResolvedBranches w NoBranch = Unit {0}
  ResolvedBranches w (MoreBranch q e bs) = IsPattern w q × Resolved w e × ResolvedBranches w bs

  pub ResolvedMap : World → Branches → Type 0
  ResolvedMap w NoBranch = ⊥
  ResolvedMap w (MoreBranch q e NoBranch) = ⊥
  ResolvedMap w (MoreBranch q e (MoreBranch r b NoBranch)) = MapsPorts w q e r × Resolved w b
  ResolvedMap w (MoreBranch q e (MoreBranch r b (MoreBranch s c bs))) = ⊥

  pub ResolvedGroups : World → Groups → Type 0
  ResolvedGroups w NoGroup = Unit {0}
  ResolvedGroups w (MoreGroup g gs) = ResolvedGroup w g × ResolvedGroups w gs

  pub ResolvedGroup : World → Group → Type 0
  ResolvedGroup w (Together fs) = ResolvedFunctions w fs
  ResolvedGroup w (Constant title e) = Resolved w e
  ResolvedGroup w (Destructure q e) = IsPattern w q × Resolved w e

  pub ResolvedFunctions : World → Functions → Type 0
  ResolvedFunctions w NoFunction = Unit {0}
  ResolvedFunctions w (MoreFunction title qs e fs) =
      (is_function qs e ≡ true) × (ArePatterns w qs × Resolved w e) × ResolvedFunctions w fs

-- in a module without faults of patterns these are all that is asked of its definitions
abbrev pub FaultlessIsSimple : Type 0
FaultlessIsSimple =
    (w : World) (m : Module) → module_faults m ≡ [] → ResolvedGroups w (groups_in m.declarations)
    → SimpleGroups w (groups_in m.declarations)

-- none of them is asked for nothing
abbrev pub SimpleIsResolved : Type 0
SimpleIsResolved = (w : World) (gs : Groups) → SimpleGroups w gs → ResolvedGroups w gs

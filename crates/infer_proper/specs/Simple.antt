-- Expressions in which the definitions of each `let` are simple: a pattern with its value is alone in its type group.
use Rattle.std.specs.Prelude.{◌≡◌, List, false}
use Rattle.std.specs.List.{AllByRecursion}
use Rattle.elm_canon.specs.Tree.{Expr, Is, NameOf, Accessor, Lambda, Apply, Strict, If, Logical, Let, Case, Located}
use Rattle.elm_canon.specs.Tree.{Exprs, NoExpr, MoreExpr, Branches, NoBranch, MoreBranch, Groups, NoGroup, MoreGroup}
use Rattle.elm_canon.specs.Tree.{Group, Together, Constant, Destructure, Functions, NoFunction, MoreFunction}
use Rattle.elm_canon.specs.Tree.{groups_of}
use Rattle.elm_canon.specs.Proper.{Scope, Proper, ProperGroups, ProperGroup}
use Rattle.elm_canon.specs.Declarations.{is_destructuring}
use Rattle.infer_order.specs.Order.{IsSimple}
use Rattle.elm_canon.specs.Apart.{NamesApart, LetsApart, GroupApart}

abbrev mutual
  pub SimpleLets : Expr → Type 0
  SimpleLets (Is l) = Unit {0}
  SimpleLets (NameOf x) = Unit {0}
  SimpleLets (Accessor x) = Unit {0}
  SimpleLets (Lambda ps e) = SimpleLets e
  SimpleLets (Apply f es) = SimpleLets f × AllSimpleLets es
  SimpleLets (Strict op es) = AllSimpleLets es
  SimpleLets (If c a b) = SimpleLets c × (SimpleLets a × SimpleLets b)
  SimpleLets (Logical pos op a b) = SimpleLets a × SimpleLets b
  SimpleLets (Let gs e) = IsSimple gs × (SimpleGroups gs × SimpleLets e)
  SimpleLets (Case e bs) = SimpleLets e × SimpleBranches bs
  SimpleLets (Located pos e) = SimpleLets e

  pub AllSimpleLets : Exprs → Type 0
  AllSimpleLets NoExpr = Unit {0}
  AllSimpleLets (MoreExpr e es) = SimpleLets e × AllSimpleLets es

  pub SimpleBranches : Branches → Type 0
  SimpleBranches NoBranch = Unit {0}
  SimpleBranches (MoreBranch p e bs) = SimpleLets e × SimpleBranches bs

  pub SimpleGroups : Groups → Type 0
  SimpleGroups NoGroup = Unit {0}
  SimpleGroups (MoreGroup g gs) = SimpleGroup g × SimpleGroups gs

  pub SimpleGroup : Group → Type 0
  SimpleGroup (Together fs) = SimpleFunctions fs
  SimpleGroup (Constant title e) = SimpleLets e
  SimpleGroup (Destructure p e) = SimpleLets e

  pub SimpleFunctions : Functions → Type 0
  SimpleFunctions NoFunction = Unit {0}
  SimpleFunctions (MoreFunction title ps e fs) = SimpleLets e × SimpleFunctions fs

-- ---- laws

-- definitions that are proper in order, and bind none of their names inside, are simple
abbrev pub ApartAreSimple : Type 0
ApartAreSimple = (scope : Scope) (gs : Groups) → ProperGroups scope gs → NamesApart gs → IsSimple gs

-- and so they are in each `let`
abbrev pub ProperIsSimple : Type 0
ProperIsSimple = (scope : Scope) (e : Expr) → Proper scope e → LetsApart e → SimpleLets e

abbrev pub ProperGroupIsSimple : Type 0
ProperGroupIsSimple = (scope : Scope) (g : Group) → ProperGroup scope g → GroupApart g → SimpleGroup g

-- definitions without patterns are simple
abbrev pub TitledAreSimple : Type 0
TitledAreSimple = (gs : List Group) → AllByRecursion (λ g. is_destructuring g ≡ false) gs → IsSimple (groups_of gs)

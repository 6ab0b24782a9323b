-- The expressions whose types are followed so far.
use Rattle.std.specs.Prelude.{◌≡◌, ℕ, suc, length, List, [], ◌∷◌, Bool, true, false, ◌||◌, None, ◌⊎◌, codes}
use Rattle.std.specs.List.{AllByRecursion}
use Rattle.elm_canon.specs.Names.{Name}
use Rattle.elm_canon.specs.declared.reference.Ref.{Ref}
use Rattle.elm_canon.specs.Tree.{Pattern, Anything, Named, As, Exactly, Construct, FieldsOf, LocatedPattern}
use Rattle.elm_canon.specs.Tree.{Patterns, NoPattern, MorePattern, Op, Build, Update, Expr, Is, NameOf, Accessor}
use Rattle.elm_canon.specs.Tree.{Lambda, Apply, Strict, If, Logical, Let, Case, Located, Exprs, NoExpr, MoreExpr}
use Rattle.elm_canon.specs.Tree.{Branches, NoBranch, MoreBranch, Groups, NoGroup, MoreGroup, Group, Together, Constant}
use Rattle.elm_canon.specs.Tree.{Destructure, Functions, NoFunction, MoreFunction}
use Rattle.elm_canon.specs.Spelled.{are_fields}
use Rattle.elm_canon.specs.Proper.{ProperOp, among, count_of, count_exprs, has_parameter, is_function}
use Rattle.type_items.specs.Uses.{used, used_functions}
use Rattle.type_items.specs.Definitions.{Definition}
use Rattle.type_items.specs.Expressions.{definitions}
use Rattle.pattern_check.specs.Missing.{missing}
use Rattle.elm_canon.specs.Maps.{Carrying, Rebuilds, IsSame, IsAfter}
use Rattle.typed_values.specs.World.{World, Declares, Makes, Holds}

-- none of the names is hidden
abbrev pub Without : (Ref → Bool) → List Ref → Type 0
Without hidden xs = AllByRecursion (λ x. hidden x ≡ false) xs

-- ---- what the check of patterns promises

-- the pattern alone leaves nothing out
abbrev pub Takes : Pattern → Type 0
Takes q = missing (q ∷ []) ≡ None

abbrev pub TakesAll : Patterns → Type 0
TakesAll NoPattern = Unit {0}
TakesAll (MorePattern q qs) = Takes q × TakesAll qs

abbrev pub branch_patterns : Branches → List Pattern
branch_patterns NoBranch = []
branch_patterns (MoreBranch q e bs) = q ∷ branch_patterns bs

-- ---- the expressions that are spoken of

-- names of fields, each once. Of no fields a pattern would take what is no record.
abbrev pub IsSome : {X : Type 0} → List X → Type 0
IsSome [] = ⊥
IsSome (x ∷ xs) = Unit {0}

abbrev pub AreFields : List Name → Type 0
AreFields xs = (are_fields xs ≡ true) × IsSome xs

-- its constructors are those of their unions, with all their fields; the fields of a record are different
abbrev mutual
  pub IsPattern : World → Pattern → Type 0
  IsPattern w Anything = Unit {0}
  IsPattern w (Named x) = Unit {0}
  IsPattern w (As q x) = IsPattern w q
  IsPattern w (Exactly l) = Unit {0}
  IsPattern w (Construct u alt qs) = Declares w u alt × (count_of qs ≡ alt.arity) × ArePatterns w qs
  IsPattern w (FieldsOf xs) = AreFields xs
  IsPattern w (LocatedPattern pos q) = IsPattern w q

  pub ArePatterns : World → Patterns → Type 0
  ArePatterns w NoPattern = Unit {0}
  ArePatterns w (MorePattern q qs) = IsPattern w q × ArePatterns w qs

-- parameters of a function, each of which leaves nothing out
pub record AreParameters (w : World) (qs : Patterns) : Type 0 where
  pub takes : TakesAll qs
  pub proper : ArePatterns w qs

-- of so many parts
abbrev pub IsOperation : World → Op → ℕ → Type 0
IsOperation w (Build pos u alt) n = Makes w u alt × (n ≡ alt.arity)
IsOperation w (Update xs) n = AreFields xs × (n ≡ suc (length xs))
IsOperation w op n = ProperOp op n

-- ---- the definitions of a `let`

-- the name is one of those of the definitions
abbrev pub defines : List Definition → Ref → Bool
defines [] x = false
defines (d ∷ ds) x = among x d.names || defines ds x

-- each name is defined once
abbrev pub AreApart : List Definition → Type 0
AreApart [] = Unit {0}
AreApart (d ∷ ds) = Without (defines ds) d.names × AreApart ds

-- no definition uses a name that is bound after it; what is no function does not use itself
abbrev pub UseEarlier : Groups → Type 0
UseEarlier NoGroup = Unit {0}
UseEarlier (MoreGroup (Together fs) gs) = Without (defines (definitions gs)) (used_functions fs) × UseEarlier gs
UseEarlier (MoreGroup (Constant title e) gs) =
    Without (defines (definitions (MoreGroup (Constant title e) gs))) (used e) × UseEarlier gs
UseEarlier (MoreGroup (Destructure q e) gs) =
    Without (defines (definitions (MoreGroup (Destructure q e) gs))) (used e) × UseEarlier gs

-- ---- `map` of commands and of subscriptions

-- the constructors are those of the union
abbrev pub RebuildsIn : World → Name → Name → Carrying → Pattern → Expr → Pattern → Type 0
RebuildsIn w m x Again q e r =
    (i : Rebuilds m x Again q e r) × Holds w m x i.constructors i.carrier × Holds w m x i.constructors i.batch

-- the first branch, with its body, and the pattern of the second
abbrev pub MapsPorts : World → Pattern → Expr → Pattern → Type 0
MapsPorts w q e r =
    RebuildsIn w (codes "Platform.Cmd") (codes "Cmd") IsSame q e r
    ⊎ RebuildsIn w (codes "Platform.Sub") (codes "Sub") IsAfter q e r

-- ---- expressions: constructors are those of their unions, and branches leave nothing out or are those of a `map`

abbrev mutual
  pub Simple : World → Expr → Type 0
  Simple w (Is l) = Unit {0}
  Simple w (NameOf x) = Unit {0}
  Simple w (Accessor x) = Unit {0}
  Simple w (Lambda qs e) = (has_parameter qs ≡ true) × AreParameters w qs × Simple w e
  Simple w (Apply f es) = Simple w f × SimpleEach w es
  Simple w (Strict op es) = IsOperation w op (count_exprs es) × SimpleEach w es
  Simple w (If c a b) = Simple w c × Simple w a × Simple w b
  Simple w (Logical pos op a b) = Simple w a × Simple w b
  Simple w (Let gs e) = AreApart (definitions gs) × UseEarlier gs × SimpleGroups w gs × Simple w e
  Simple w (Case e bs) =
      Simple w e × ((SimpleBranches w bs × (missing (branch_patterns bs) ≡ None)) ⊎ SimpleMap w bs)
  Simple w (Located pos e) = Simple w e

  pub SimpleEach : World → Exprs → Type 0
  SimpleEach w NoExpr = Unit {0}
  SimpleEach w (MoreExpr e es) = Simple w e × SimpleEach w es

  pub SimpleBranches : World → Branches → Type 0
  SimpleBranches w NoBranch = Unit {0}
  SimpleBranches w (MoreBranch q e bs) = IsPattern w q × Simple w e × SimpleBranches w bs

  pub SimpleMap : World → Branches → Type 0
  SimpleMap w NoBranch = ⊥
  SimpleMap w (MoreBranch q e NoBranch) = ⊥
  SimpleMap w (MoreBranch q e (MoreBranch r b NoBranch)) = MapsPorts w q e r × Simple w b
  SimpleMap w (MoreBranch q e (MoreBranch r b (MoreBranch s c bs))) = ⊥

  pub SimpleGroups : World → Groups → Type 0
  SimpleGroups w NoGroup = Unit {0}
  SimpleGroups w (MoreGroup g gs) = SimpleGroup w g × SimpleGroups w gs

  pub SimpleGroup : World → Group → Type 0
  SimpleGroup w (Together fs) = SimpleFunctions w fs
  SimpleGroup w (Constant title e) = Simple w e
  SimpleGroup w (Destructure q e) = (IsPattern w q × Takes q) × Simple w e

  pub SimpleFunctions : World → Functions → Type 0
  SimpleFunctions w NoFunction = Unit {0}
  SimpleFunctions w (MoreFunction title qs e fs) =
      (is_function qs e ≡ true) × (AreParameters w qs × Simple w e) × SimpleFunctions w fs

-- a function whose parameters and body are such
abbrev pub Checked : World → Patterns → Expr → Type 0
Checked w qs e = AreParameters w qs × Simple w e

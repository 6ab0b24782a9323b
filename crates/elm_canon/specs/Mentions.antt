-- Canonical trees whose constructors meet conditions: those that patterns take apart, and those that expressions build.
-- Their `let`s bind local names.
use Rattle.std.specs.Prelude.{◌≡◌, List}
use Rattle.std.specs.List.{AllByRecursion}
use Rattle.elm_canon.specs.Names.{Name}
use Rattle.elm_canon.specs.declared.reference.Ref.{Ref}
use Rattle.elm_canon.specs.declared.reference.Ref.TheVariants.{Local, Top}
use Rattle.elm_canon.specs.declared.unions.Alternative.{Alternative}
use Rattle.elm_canon.specs.Unions.{Union}
use Rattle.elm_canon.specs.Tree.{Pattern, Anything, Named, As, Exactly, Construct, FieldsOf, LocatedPattern, Patterns}
use Rattle.elm_canon.specs.Tree.{NoPattern, MorePattern, Op, TupleOf, ListOf, Build, RecordOf, Access, Update, Negate}
use Rattle.elm_canon.specs.Tree.{Binary, Expr, Is, NameOf, Accessor, Lambda, Apply, Strict, If, Logical, Let, Case}
use Rattle.elm_canon.specs.Tree.{Located}
use Rattle.elm_canon.specs.Tree.{Exprs, NoExpr, MoreExpr, Branches, NoBranch, MoreBranch, Groups, NoGroup, MoreGroup}
use Rattle.elm_canon.specs.Tree.{Group, Together, Constant, Destructure, Functions, NoFunction, MoreFunction}
use Rattle.elm_canon.specs.Tree.{Declaration, Given, Define}
use Rattle.elm_canon.specs.Proper.{group_names}

-- a condition on a constructor of a union, and the one that each meets
abbrev pub Condition : Type 1
Condition = Union → Alternative → Type 0

abbrev pub anything : Condition
anything u c = Unit {0}

abbrev pub IsLocal : Ref → Type 0
IsLocal (Local x) = Unit {0}
IsLocal (Top m x) = ⊥

abbrev mutual
  pub PatternTakes : Condition → Pattern → Type 0
  PatternTakes P Anything = Unit {0}
  PatternTakes P (Named x) = Unit {0}
  PatternTakes P (As q x) = PatternTakes P q
  PatternTakes P (Exactly l) = Unit {0}
  PatternTakes P (Construct u c qs) = P u c × PatternsTake P qs
  PatternTakes P (FieldsOf xs) = Unit {0}
  PatternTakes P (LocatedPattern pos q) = PatternTakes P q

  pub PatternsTake : Condition → Patterns → Type 0
  PatternsTake P NoPattern = Unit {0}
  PatternsTake P (MorePattern q qs) = PatternTakes P q × PatternsTake P qs

abbrev pub OpBuilds : Condition → Op → Type 0
OpBuilds B TupleOf = Unit {0}
OpBuilds B ListOf = Unit {0}
OpBuilds B (Build pos u c) = B u c
OpBuilds B (RecordOf xs) = Unit {0}
OpBuilds B (Access x) = Unit {0}
OpBuilds B (Update xs) = Unit {0}
OpBuilds B Negate = Unit {0}
OpBuilds B (Binary pos op) = Unit {0}

-- patterns meet the first condition, and what is built the second
abbrev mutual
  pub Mentions : Condition → Condition → Expr → Type 0
  Mentions P B (Is l) = Unit {0}
  Mentions P B (NameOf x) = Unit {0}
  Mentions P B (Accessor x) = Unit {0}
  Mentions P B (Lambda qs e) = PatternsTake P qs × Mentions P B e
  Mentions P B (Apply f es) = Mentions P B f × MentionEach P B es
  Mentions P B (Strict op es) = OpBuilds B op × MentionEach P B es
  Mentions P B (If c a b) = Mentions P B c × (Mentions P B a × Mentions P B b)
  Mentions P B (Logical pos op a b) = Mentions P B a × Mentions P B b
  Mentions P B (Let gs e) = GroupsMention P B gs × Mentions P B e
  Mentions P B (Case e bs) = Mentions P B e × BranchesMention P B bs
  Mentions P B (Located pos e) = Mentions P B e

  pub MentionEach : Condition → Condition → Exprs → Type 0
  MentionEach P B NoExpr = Unit {0}
  MentionEach P B (MoreExpr e es) = Mentions P B e × MentionEach P B es

  pub BranchesMention : Condition → Condition → Branches → Type 0
  BranchesMention P B NoBranch = Unit {0}
  BranchesMention P B (MoreBranch q e bs) = PatternTakes P q × (Mentions P B e × BranchesMention P B bs)

  -- the groups of a `let`
  pub GroupsMention : Condition → Condition → Groups → Type 0
  GroupsMention P B NoGroup = Unit {0}
  GroupsMention P B (MoreGroup g gs) =
      (AllByRecursion IsLocal (group_names g) × GroupMentions P B g) × GroupsMention P B gs

  pub GroupMentions : Condition → Condition → Group → Type 0
  GroupMentions P B (Together fs) = FunctionsMention P B fs
  GroupMentions P B (Constant title e) = Mentions P B e
  GroupMentions P B (Destructure q e) = PatternTakes P q × Mentions P B e

  pub FunctionsMention : Condition → Condition → Functions → Type 0
  FunctionsMention P B NoFunction = Unit {0}
  FunctionsMention P B (MoreFunction title qs e fs) =
      (PatternsTake P qs × Mentions P B e) × FunctionsMention P B fs

-- ---- declarations of a module

abbrev pub IsOfModule : Name → Ref → Type 0
IsOfModule home (Local x) = ⊥
IsOfModule home (Top m x) = m ≡ home

abbrev pub DeclarationMentions : Condition → Condition → Name → Declaration → Type 0
DeclarationMentions P B home (Given r k) = IsOfModule home r
DeclarationMentions P B home (Define g) = AllByRecursion (IsOfModule home) (group_names g) × GroupMentions P B g

abbrev pub DeclarationsMention : Condition → Condition → Name → List Declaration → Type 0
DeclarationsMention P B home ds = AllByRecursion (DeclarationMentions P B home) ds

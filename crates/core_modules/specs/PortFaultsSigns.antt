-- Expressions, sign by sign. Each sign stands in front of its parts, and the place where something begins has none.
use Rattle.std.specs.Prelude.{List, [], ◌∷◌, ◌++◌, if◌then◌else◌}
use Rattle.elm_canon.specs.Names.{Name}
use Rattle.elm_canon.specs.Unions.{Union}
use Rattle.elm_canon.specs.Tree.{Pattern, Anything, Named, As, Exactly, Construct, FieldsOf, LocatedPattern, Patterns}
use Rattle.elm_canon.specs.Tree.{NoPattern, MorePattern, Op, TupleOf, ListOf, Build, RecordOf, Access, Update, Negate}
use Rattle.elm_canon.specs.Tree.{Binary, Expr, Is, NameOf, Accessor, Lambda, Apply, Strict, If, Logical, Let, Case}
use Rattle.elm_canon.specs.Tree.{Located, Exprs, NoExpr, MoreExpr, Branches, NoBranch, MoreBranch, Groups, NoGroup}
use Rattle.elm_canon.specs.Tree.{MoreGroup, Group, Together, Constant, Destructure, Functions, NoFunction, MoreFunction}
use Rattle.core_modules.specs.Makers.{name_sign, is_ported, taken_sign, built_sign}
use Rattle.core_modules.specs.declared.port_faults_sign.Sign.{Sign}
use Rattle.core_modules.specs.declared.port_faults_sign.Sign.TheVariants as sign
use Rattle.core_modules.specs.declared.port_faults_sign.Form.TheVariants as form

abbrev pub other : Sign
other = sign.Form form.Other

-- after the last part
abbrev pub end : Sign
end = sign.Form form.End

-- a pattern that is a name
abbrev pub named : Name → Sign
named x = sign.Named x

-- ---- patterns

-- the fields of commands and subscriptions have an end
abbrev pub ends : Union → List Sign
ends u = if is_ported u then end ∷ [] else []

abbrev mutual
  pub pattern_signs : Pattern → List Sign
  pattern_signs Anything = other ∷ []
  pattern_signs (Named x) = sign.Named x ∷ []
  pattern_signs (As p x) = other ∷ pattern_signs p
  pattern_signs (Exactly l) = other ∷ []
  pattern_signs (Construct u c ps) = (taken_sign u c ∷ patterns_signs ps) ++ ends u
  pattern_signs (FieldsOf xs) = other ∷ []
  pattern_signs (LocatedPattern place p) = pattern_signs p

  pub patterns_signs : Patterns → List Sign
  patterns_signs NoPattern = []
  patterns_signs (MorePattern p ps) = pattern_signs p ++ patterns_signs ps

-- ---- expressions

abbrev pub op_sign : Op → Sign
op_sign TupleOf = other
op_sign ListOf = other
op_sign (Build place u c) = built_sign u c
op_sign (RecordOf xs) = other
op_sign (Access x) = other
op_sign (Update xs) = other
op_sign Negate = other
op_sign (Binary place o) = other

-- what is built has an end
abbrev pub op_ends : Op → List Sign
op_ends TupleOf = []
op_ends ListOf = []
op_ends (Build place u c) = end ∷ []
op_ends (RecordOf xs) = []
op_ends (Access x) = []
op_ends (Update xs) = []
op_ends Negate = []
op_ends (Binary place o) = []

-- a function of one parameter
abbrev pub lambda_sign : Patterns → Sign
lambda_sign (MorePattern p NoPattern) = sign.Form form.Lambda
lambda_sign _ = other

-- a choice of two branches
abbrev pub case_sign : Branches → Sign
case_sign (MoreBranch p e (MoreBranch q d NoBranch)) = sign.Form form.Two
case_sign _ = other

-- one function alone
abbrev pub together_sign : Functions → Sign
together_sign (MoreFunction t ps e NoFunction) = sign.Form form.Alone
together_sign _ = other

abbrev mutual
  pub signs : Expr → List Sign
  signs (Is l) = other ∷ []
  signs (NameOf r) = name_sign r ∷ []
  signs (Accessor x) = other ∷ []
  signs (Lambda ps e) = (lambda_sign ps ∷ patterns_signs ps) ++ signs e
  signs (Apply f es) = (sign.Form form.Apply ∷ signs f) ++ exprs_signs es ++ end ∷ []
  signs (Strict o es) = (op_sign o ∷ exprs_signs es) ++ op_ends o
  signs (If c a b) = (other ∷ signs c) ++ signs a ++ signs b
  signs (Logical place c a b) = (other ∷ signs a) ++ signs b
  signs (Let gs e) = (other ∷ groups_signs gs) ++ signs e
  signs (Case e bs) = (case_sign bs ∷ signs e) ++ branches_signs bs
  signs (Located place e) = signs e

  pub exprs_signs : Exprs → List Sign
  exprs_signs NoExpr = []
  exprs_signs (MoreExpr e es) = signs e ++ exprs_signs es

  pub branches_signs : Branches → List Sign
  branches_signs NoBranch = []
  branches_signs (MoreBranch p e bs) = pattern_signs p ++ signs e ++ branches_signs bs

  pub groups_signs : Groups → List Sign
  groups_signs NoGroup = []
  groups_signs (MoreGroup g gs) = group_signs g ++ groups_signs gs

  pub group_signs : Group → List Sign
  group_signs (Together fs) = together_sign fs ∷ functions_signs fs
  group_signs (Constant t e) = signs e
  group_signs (Destructure p e) = pattern_signs p ++ signs e

  pub functions_signs : Functions → List Sign
  functions_signs NoFunction = []
  functions_signs (MoreFunction t ps e fs) = patterns_signs ps ++ end ∷ signs e ++ functions_signs fs

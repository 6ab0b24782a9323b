-- Expressions that are proper, whose lets are simple and whose annotations have each field once, are as inference asks.
use Rattle.std.proofs.Common.{ℕ, Option, Some, None}
use Rattle.elm_canon.specs.Tree.{Annotation, Op, TupleOf, ListOf, Build, RecordOf, Access, Update, Negate, Binary}
use Rattle.elm_canon.specs.Tree.{Expr, Is, NameOf, Accessor, Lambda, Apply, Strict, If, Logical, Let, Case, Located}
use Rattle.elm_canon.specs.Tree.{Exprs, NoExpr, MoreExpr, Branches, NoBranch, MoreBranch, Groups, NoGroup, MoreGroup}
use Rattle.elm_canon.specs.Tree.{Group, Together, Constant, Destructure, Functions, NoFunction, MoreFunction}
use Rattle.elm_canon.specs.Proper.{count_exprs, Scope, ProperOp, Proper, AllProper, ProperBranches, ProperGroups}
use Rattle.elm_canon.specs.Proper.{ProperGroup, ProperFunctions}
use Rattle.infer_proper.specs.Annotations.{IfWritten, InExpr, InExprs, InBranches, InGroups, InGroup, InFunctions}
use Rattle.infer_types.specs.Once.{FieldsOnce}
use Rattle.infer_patterns.proofs.Once.{fields_distinct, proper_once, all_proper_once}
use Rattle.infer_proper.specs.Simple.{SimpleLets, AllSimpleLets, SimpleBranches, SimpleGroups, SimpleGroup}
use Rattle.infer_proper.specs.Simple.{SimpleFunctions}
use Rattle.infer_parts.specs.Formed.{FormedOp, WrittenOnce, Formed, AllFormed, FormedBranches, FormedGroups}
use Rattle.infer_parts.specs.Formed.{FormedGroup}
use Rattle.infer_parts.specs.Formed.{FormedFunctions}

op_formed : (op : Op) (n : ℕ) → ProperOp op n → FormedOp op n
op_formed TupleOf n h = (tt, tt)
op_formed ListOf n h = (tt, tt)
op_formed (Build pos u c) n h = (tt, tt)
op_formed (RecordOf xs) n h = (fields_distinct xs h.0, h.1)
op_formed (Access x) n h = (tt, h.1)
op_formed (Update xs) n h = (fields_distinct xs h.0, h.1)
op_formed Negate n h = (tt, h)
op_formed (Binary pos op) n h = (tt, h)

title_formed : (o : Option Annotation) → IfWritten FieldsOnce o → WrittenOnce o
title_formed None h = tt
title_formed (Some t) h = h

mutual
  pub expr_formed : (scope : Scope) (e : Expr) → Proper scope e → SimpleLets e → InExpr FieldsOnce e → Formed e
  expr_formed scope (Is l) h s a = tt
  expr_formed scope (NameOf x) h s a = tt
  expr_formed scope (Accessor x) h s a = tt
  expr_formed scope (Lambda qs e) h s a = (all_proper_once qs h.1.0.0, expr_formed _ e h.1.1 s a)
  expr_formed scope (Apply f es) h s a = (expr_formed scope f h.0 s.0 a.0, all_formed scope es h.1 s.1 a.1)
  expr_formed scope (Strict op es) h s a = (op_formed op (count_exprs es) h.0, all_formed scope es h.1 s a)
  expr_formed scope (If c t u) h s a = (
    expr_formed scope c h.0 s.0 a.0,
    (expr_formed scope t h.1.0 s.1.0 a.1.0, expr_formed scope u h.1.1 s.1.1 a.1.1),
  )
  expr_formed scope (Logical pos op t u) h s a = (expr_formed scope t h.0 s.0 a.0, expr_formed scope u h.1 s.1 a.1)
  expr_formed scope (Let gs e) h s a =
      (s.0, (groups_formed scope gs h.0 s.1.0 a.0, expr_formed _ e h.1 s.1.1 a.1))
  expr_formed scope (Case e bs) h s a = (expr_formed scope e h.0 s.0 a.0, branches_formed scope bs h.1 s.1 a.1)
  expr_formed scope (Located pos e) h s a = expr_formed scope e h s a

  all_formed : (scope : Scope) (es : Exprs) → AllProper scope es → AllSimpleLets es → InExprs FieldsOnce es
      → AllFormed es
  all_formed scope NoExpr h s a = tt
  all_formed scope (MoreExpr e es) h s a = (expr_formed scope e h.0 s.0 a.0, all_formed scope es h.1 s.1 a.1)

  branches_formed : (scope : Scope) (bs : Branches) → ProperBranches scope bs → SimpleBranches bs
      → InBranches FieldsOnce bs → FormedBranches bs
  branches_formed scope NoBranch h s a = tt
  branches_formed scope (MoreBranch q e bs) h s a =
      (proper_once q h.0.0, (expr_formed _ e h.1.0 s.0 a.0, branches_formed scope bs h.1.1 s.1 a.1))

  groups_formed : (scope : Scope) (gs : Groups) → ProperGroups scope gs → SimpleGroups gs → InGroups FieldsOnce gs
      → FormedGroups gs
  groups_formed scope NoGroup h s a = tt
  groups_formed scope (MoreGroup g gs) h s a =
      (group_formed scope g h.0 s.0 a.0, groups_formed _ gs h.1 s.1 a.1)

  pub group_formed : (scope : Scope) (g : Group) → ProperGroup scope g → SimpleGroup g → InGroup FieldsOnce g
      → FormedGroup g
  group_formed scope (Together fs) h s a = functions_formed _ fs h.1 s a
  group_formed scope (Constant title e) h s a =
      (title_formed title.annotation a.0, expr_formed scope e h.1.1 s a.1)
  group_formed scope (Destructure q e) h s a = (proper_once q h.0.0, expr_formed scope e h.1 s a)

  functions_formed : (scope : Scope) (fs : Functions) → ProperFunctions scope fs → SimpleFunctions fs
      → InFunctions FieldsOnce fs → FormedFunctions fs
  functions_formed scope NoFunction h s a = tt
  functions_formed scope (MoreFunction title qs e fs) h s a = (
    title_formed title.annotation a.0,
    (
      all_proper_once qs h.1.1.0.0,
      (expr_formed _ e h.1.1.1.0 s.0 a.1.0, functions_formed scope fs h.1.1.1.1 s.1 a.1.1),
    ),
  )

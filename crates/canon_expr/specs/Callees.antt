-- What is called, with its arguments so far. A constructor with all its fields is built, and any other function is
-- applied, so what a call means is known once its arguments are. `x |> f` and `f <| x` are `f` with one argument more.
use Rattle.std.specs.Prelude.{pos, List, [], ◌∷◌, ◌++◌, length, nat_eq, if◌then◌else◌}
use Rattle.elm_canon.specs.Names.{Name}
use Rattle.elm_canon.specs.declared.reference.Ref.TheVariants.{Local, Top}
use Rattle.elm_canon.specs.declared.tree.Literal.TheVariants as literal
use Rattle.elm_canon.specs.declared.tree.Operator.{Operator}
use Rattle.elm_canon.specs.declared.tree.Connective.{Connective}
use Rattle.elm_canon.specs.Tree.{Expr, Is, NameOf, Apply, Strict, Logical, Located, Build, Binary, exprs_of}
use Rattle.elm_canon.specs.Unions.{Union}
use Rattle.elm_canon.specs.declared.unions.Alternative.{Alternative}
use Rattle.elm_tree.specs.Tree.{Pos, Word, Long}
use Rattle.elm_tree.specs.Regroup as regroup
use Rattle.canon_env.specs.Found.{Found, One}
use Rattle.canon_env.specs.Shown.{MakerMeaning, OfUnion, OfRecord}
use Rattle.canon_env.specs.Naming.{own_name}
use Rattle.canon_env.specs.Sites.{ValueMeaning, LocalValue, Elsewhere}
use Rattle.canon_expr.specs.Operators.{meaning_of, function_of, both}
use Rattle.canon_expr.specs.declared.operators.Between.{Between}
use Rattle.canon_expr.specs.declared.operators.Between.TheVariants.{ToRight, ToLeft, Computes, Decides, Calls}

-- what a use without meaning is
abbrev pub blank : Expr
blank = Is (literal.Int (pos 0))

-- a constructor of a union, whose name stands there, by its module and name; or any other expression
pub data Head : Type 0 where
  Maker : Pos → Name → Name → Union → Alternative → Head
  Plain : Expr → Head

pub record Callee : Type 0 where
  pub head : Head
  pub arguments : List Expr

abbrev pub alone : Head → Callee
alone h = record { head = h; arguments = [] }

abbrev pub plain : Expr → Callee
plain e = alone (Plain e)

abbrev pub with_arguments : Callee → List Expr → Callee
with_arguments c es = record { head = c.head; arguments = c.arguments ++ es }

-- a name of a module
abbrev pub top_name : Pos → Name → Name → Expr
top_name p home x = Located p (NameOf (Top home x))

-- the constructor of a record's alias is a function
abbrev pub maker_head : Long → Found MakerMeaning → Head
maker_head x (One r) = by r.meaning
  where
    by : MakerMeaning → Head
    by (OfUnion u c) = Maker x.place r.home (own_name x) u c
    by (OfRecord fields) = Plain (top_name x.place r.home (own_name x))
maker_head x _ = Plain blank

-- with these arguments, if there are any
abbrev pub given : Expr → List Expr → Expr
given f [] = f
given f (e ∷ es) = Apply f (exprs_of (e ∷ es))

abbrev pub finished_by : Head → List Expr → Expr
finished_by (Maker p home x u c) es =
    if nat_eq (length es) c.arity then Strict (Build p u c) (exprs_of es) else given (top_name p home x) es
finished_by (Plain e) es = given e es

abbrev pub finished : Callee → Expr
finished c = finished_by c.head c.arguments

abbrev pub value_of : Long → ValueMeaning → Expr
value_of x (LocalValue place) = Located x.place (NameOf (Local (own_name x)))
value_of x (Elsewhere found) = by found
  where
    by : Found (Unit {0}) → Expr
    by (One r) = top_name x.place r.home (own_name x)
    by _ = blank

-- ---- operators

abbrev pub computed : Pos → Operator → Expr → Expr → Expr
computed place o a b = Strict (Binary place o) (both a b)

abbrev pub decided : Pos → Connective → Expr → Expr → Expr
decided place c a b = Logical place c a b

abbrev pub called : Expr → Expr → Expr → Expr
called f a b = Apply f (both a b)

abbrev pub joined_by : Word → Between → Callee → Callee → Callee
joined_by op ToRight a b = with_arguments b (finished a ∷ [])
joined_by op ToLeft a b = with_arguments a (finished b ∷ [])
joined_by op (Computes o) a b = plain (computed op.place o (finished a) (finished b))
joined_by op (Decides c) a b = plain (decided op.place c (finished a) (finished b))
joined_by op Calls a b = plain (called (function_of op) (finished a) (finished b))

abbrev pub joined : Word → Callee → Callee → Callee
joined op a b = joined_by op (meaning_of op.text).between a b

-- the operands of a tree, joined
abbrev pub joined_in : regroup.Tree Callee → Callee
joined_in (regroup.Leaf c) = c
joined_in (regroup.Node l op r) = joined op (joined_in l) (joined_in r)

-- a chain: an operand, and the others, each with the operator before it
abbrev pub chain_of : Callee → List (Word × Callee) → Callee
chain_of c others = joined_in (regroup.grouped c others)

-- Trees as their nodes in postorder: the parts of a node stand before it, the first of them first. The state after the
-- nodes so far is a list of trees, the last one first: a node takes its parts from it and puts its tree on it. A part
-- of another kind, or one that is not there, counts as the number 0, as no items, or as `continue;`.
use Rattle.std.specs.Prelude.{ℕ, zero, suc, pos, List, [], ◌∷◌, take}
use Rattle.js_tree.specs.Tree.{Name, Top, Local, Made, Operator, Helper, Js, JInt, JBool, JText, JVar, JArrow, JBlock}
use Rattle.js_tree.specs.Tree.{JCall, JBinary, JConditional, JObject, JProperty, JList, JHelper, JsList, NoJs, MoreJs}
use Rattle.js_tree.specs.Tree.{Fields, NoField, MoreField, Stmts, Const, Let, Assign, Return, If, While, Continue}
use Rattle.js_tree.specs.Tree.{Lines, NoLine, MoreLine, Program}
use Rattle.js_tree.specs.Tree as plain
use Rattle.js_tree.specs.declared.tree.Name as name
use Rattle.js_tree.specs.declared.tree.Operator as operator
use Rattle.js_tree.specs.declared.tree.Helper as helper
use Rattle.js_tree.specs.declared.tree.Node as node

-- the parts of a list so far, the last one outermost
pub data Items : Type 0 where
  NoItem : Items
  Item : Items → Js → Items

pub data Members : Type 0 where
  NoMember : Members
  Member : Members → List ℕ → Js → Members

-- statements that others follow
pub data Before : Type 0 where
  NoStatement : Before
  ConstThen : Before → Name → Js → Before
  LetThen : Before → Name → Js → Before
  AssignThen : Before → Name → Js → Before

pub data LinesBefore : Type 0 where
  NoLineYet : LinesBefore
  LineThen : LinesBefore → Name → Js → LinesBefore

-- the whole, with what follows
abbrev pub items_then : Items → JsList → JsList
items_then NoItem es = es
items_then (Item before e) es = items_then before (MoreJs e es)

abbrev pub members_then : Members → Fields → Fields
members_then NoMember fs = fs
members_then (Member before k e) fs = members_then before (MoreField k e fs)

abbrev pub statements_then : Before → Stmts → Stmts
statements_then NoStatement s = s
statements_then (ConstThen before x e) s = statements_then before (Const x e s)
statements_then (LetThen before x e) s = statements_then before (Let x e s)
statements_then (AssignThen before x e) s = statements_then before (Assign x e s)

abbrev pub lines_then : LinesBefore → Lines → Lines
lines_then NoLineYet ls = ls
lines_then (LineThen before x e) ls = lines_then before (MoreLine x e ls)

-- what nodes make
pub data Tree : Type 0 where
  Expression : Js → Tree
  ItemsOf : Items → Tree
  MembersOf : Members → Tree
  StatementsOf : Before → Tree
  BlockOf : Stmts → Tree
  LinesOf : LinesBefore → Tree
  ProgramOf : Program → Tree

-- the last tree, and those before it
abbrev pub top : List Tree → Tree
top [] = Expression (JInt (pos 0))
top (t ∷ ts) = t

abbrev pub below : List Tree → List Tree
below [] = []
below (t ∷ ts) = ts

abbrev pub expression : Tree → Js
expression (Expression e) = e
expression _ = JInt (pos 0)

abbrev pub items : Tree → Items
items (ItemsOf es) = es
items _ = NoItem

abbrev pub members : Tree → Members
members (MembersOf fs) = fs
members _ = NoMember

abbrev pub statements : Tree → Before
statements (StatementsOf s) = s
statements _ = NoStatement

abbrev pub block : Tree → Stmts
block (BlockOf s) = s
block _ = Continue

abbrev pub lines : Tree → LinesBefore
lines (LinesOf ls) = ls
lines _ = NoLineYet

-- the names, operators and functions of a node
abbrev pub name_view : name.Name → Name
name_view (name.Name.Top m x) = Top m x
name_view (name.Name.Local x) = Local x
name_view (name.Name.Made n) = Made n

abbrev pub operator_view : operator.Operator → Operator
operator_view operator.Operator.Plus = plain.Plus
operator_view operator.Operator.Minus = plain.Minus
operator_view operator.Operator.Times = plain.Times
operator_view operator.Operator.StrictEquals = plain.StrictEquals
operator_view operator.Operator.And = plain.And
operator_view operator.Operator.Or = plain.Or

abbrev pub helper_view : helper.Helper → Helper
helper_view helper.Helper.Crash = plain.Crash
helper_view helper.Helper.Quotient = plain.Quotient
helper_view helper.Helper.Remainder = plain.Remainder
helper_view helper.Helper.Modulo = plain.Modulo
helper_view helper.Helper.BitAnd = plain.BitAnd
helper_view helper.Helper.BitOr = plain.BitOr
helper_view helper.Helper.BitXor = plain.BitXor
helper_view helper.Helper.BitNot = plain.BitNot
helper_view helper.Helper.ShiftLeft = plain.ShiftLeft
helper_view helper.Helper.ShiftRight = plain.ShiftRight
helper_view helper.Helper.ShiftRightZero = plain.ShiftRightZero
helper_view helper.Helper.FromInt = plain.FromInt
helper_view helper.Helper.Length = plain.Length
helper_view helper.Helper.UnitAt = plain.UnitAt
helper_view helper.Helper.FromUnit = plain.FromUnit
helper_view helper.Helper.Slice = plain.Slice
helper_view helper.Helper.Find = plain.Find
helper_view helper.Helper.Same = plain.Same
helper_view helper.Helper.Update = plain.Update
helper_view helper.Helper.ArrayOf = plain.ArrayOf
helper_view helper.Helper.Append = plain.Append
helper_view helper.Helper.Pairs = plain.Pairs
helper_view helper.Helper.Size = plain.Size
helper_view helper.Helper.Equal = plain.Equal
helper_view helper.Helper.Compare = plain.Compare
helper_view helper.Helper.DecodeInt = plain.DecodeInt
helper_view helper.Helper.DecodeBool = plain.DecodeBool
helper_view helper.Helper.DecodeText = plain.DecodeText
helper_view helper.Helper.DecodeNull = plain.DecodeNull
helper_view helper.Helper.DecodeAny = plain.DecodeAny
helper_view helper.Helper.DecodeMaybe = plain.DecodeMaybe
helper_view helper.Helper.All = plain.All
helper_view helper.Helper.DecodeList = plain.DecodeList
helper_view helper.Helper.DecodeTuple = plain.DecodeTuple
helper_view helper.Helper.DecodeRecord = plain.DecodeRecord
helper_view helper.Helper.EncodeSame = plain.EncodeSame
helper_view helper.Helper.EncodeNull = plain.EncodeNull
helper_view helper.Helper.EncodeMaybe = plain.EncodeMaybe
helper_view helper.Helper.EncodeList = plain.EncodeList
helper_view helper.Helper.EncodeTuple = plain.EncodeTuple
helper_view helper.Helper.EncodeRecord = plain.EncodeRecord

-- how many trees a node takes
abbrev pub arity : node.Node → ℕ
arity (node.Node.Int n) = 0
arity (node.Node.Bool b) = 0
arity (node.Node.Text us) = 0
arity (node.Node.Var x) = 0
arity node.Node.NoItem = 0
arity node.Node.NoField = 0
arity node.Node.NoStatement = 0
arity node.Node.Continue = 0
arity node.Node.NoLine = 0
arity (node.Node.Arrow p) = 1
arity node.Node.Block = 1
arity node.Node.Object = 1
arity (node.Node.Property k) = 1
arity node.Node.List = 1
arity (node.Node.Helper h) = 1
arity node.Node.Return = 1
arity node.Node.While = 1
arity node.Node.Call = 2
arity (node.Node.Binary op) = 2
arity node.Node.Item = 2
arity (node.Node.Field k) = 2
arity (node.Node.Const x) = 2
arity (node.Node.Let x) = 2
arity (node.Node.Assign x) = 2
arity node.Node.Ended = 2
arity (node.Node.Line x) = 2
arity node.Node.Conditional = 3
arity node.Node.If = 3
arity (node.Node.Program name outs) = 4

-- the trees below so many
abbrev pub below_times : ℕ → List Tree → List Tree
below_times zero ts = ts
below_times (suc n) ts = below_times n (below ts)

-- the trees once a node has come
abbrev pub apply : node.Node → List Tree → List Tree
apply (node.Node.Int n) ts = Expression (JInt n) ∷ ts
apply (node.Node.Bool b) ts = Expression (JBool b) ∷ ts
apply (node.Node.Text us) ts = Expression (JText us) ∷ ts
apply (node.Node.Var x) ts = Expression (JVar (name_view x)) ∷ ts
apply (node.Node.Arrow p) ts = Expression (JArrow (name_view p) (block (top ts))) ∷ below ts
apply node.Node.Block ts = Expression (JBlock (block (top ts))) ∷ below ts
apply node.Node.Call ts = Expression (JCall (expression (top (below ts))) (expression (top ts))) ∷ below (below ts)
apply (node.Node.Binary op) ts = Expression (JBinary (operator_view op) (expression (top (below ts))) (expression (top ts))) ∷ below (below ts)
apply node.Node.Conditional ts =
    Expression (JConditional (expression (top (below (below ts)))) (expression (top (below ts))) (expression (top ts))) ∷ below (below (below ts))
apply node.Node.Object ts = Expression (JObject (members_then (members (top ts)) NoField)) ∷ below ts
apply (node.Node.Property k) ts = Expression (JProperty (expression (top ts)) k) ∷ below ts
apply node.Node.List ts = Expression (JList (items_then (items (top ts)) NoJs)) ∷ below ts
apply (node.Node.Helper h) ts = Expression (JHelper (helper_view h) (items_then (items (top ts)) NoJs)) ∷ below ts
apply node.Node.NoItem ts = ItemsOf NoItem ∷ ts
apply node.Node.Item ts = ItemsOf (Item (items (top (below ts))) (expression (top ts))) ∷ below (below ts)
apply node.Node.NoField ts = MembersOf NoMember ∷ ts
apply (node.Node.Field k) ts = MembersOf (Member (members (top (below ts))) k (expression (top ts))) ∷ below (below ts)
apply node.Node.NoStatement ts = StatementsOf NoStatement ∷ ts
apply (node.Node.Const x) ts = StatementsOf (ConstThen (statements (top (below ts))) (name_view x) (expression (top ts))) ∷ below (below ts)
apply (node.Node.Let x) ts = StatementsOf (LetThen (statements (top (below ts))) (name_view x) (expression (top ts))) ∷ below (below ts)
apply (node.Node.Assign x) ts = StatementsOf (AssignThen (statements (top (below ts))) (name_view x) (expression (top ts))) ∷ below (below ts)
apply node.Node.Return ts = BlockOf (Return (expression (top ts))) ∷ below ts
apply node.Node.If ts = BlockOf (If (expression (top (below (below ts)))) (block (top (below ts))) (block (top ts))) ∷ below (below (below ts))
apply node.Node.While ts = BlockOf (While (block (top ts))) ∷ below ts
apply node.Node.Continue ts = BlockOf Continue ∷ ts
apply node.Node.Ended ts = BlockOf (statements_then (statements (top (below ts))) (block (top ts))) ∷ below (below ts)
apply node.Node.NoLine ts = LinesOf NoLineYet ∷ ts
apply (node.Node.Line x) ts = LinesOf (LineThen (lines (top (below ts))) (name_view x) (expression (top ts))) ∷ below (below ts)
apply (node.Node.Program name outs) ts =
    ProgramOf (record {
      lines = lines_then (lines (top (below (below (below ts))))) NoLine;
      main = expression (top (below (below ts)));
      name = name;
      flags = expression (top (below ts));
      ins = members_then (members (top ts)) NoField;
      outs = outs.items;
    }) ∷ below (below (below (below ts)))

-- the trees that nodes make, after those before them
abbrev pub build_on : List Tree → List node.Node → List Tree
build_on ts [] = ts
build_on ts (n ∷ ns) = build_on (apply n ts) ns

abbrev pub trees_of : List node.Node → List Tree
trees_of ns = build_on [] ns

-- the trees up to a place, which is a number of nodes
abbrev pub trees_at : List node.Node → ℕ → List Tree
trees_at ns place = trees_of (take place ns)

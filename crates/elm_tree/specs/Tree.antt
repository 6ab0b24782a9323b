-- The surface tree of a module, as plain data: what is written, and where. (Elm syntax reference; Elm guide: core
-- language, types, pattern matching, JavaScript interop.) Names and operators are the bytes that spell them; numbers
-- and texts are read already.
--
-- Brackets leave no node: what stands in them is what they are, its place included. A chain of operators is flat, as
-- the text has it; `Regroup` says which tree it means. Annotations may stand alone, and a tuple may have any number
-- of parts. A place is where the first character of a thing stands; it is kept where a fault can stand.
use Rattle.std.specs.Prelude.{ℕ, ℤ, List, [], ◌∷◌, ◌++◌, Bool, Option, codes}
pub use Rattle.elm_base.specs.declared.position.Pos.{Pos}

-- a name or an operator
pub record Word : Type 0 where
  pub place : Pos
  pub text : List ℕ

-- a name with the module that is written before it; empty, there is none
pub record Long : Type 0 where
  pub place : Pos
  pub qualifier : List ℕ
  pub text : List ℕ

-- as it is written
abbrev pub written_with : List ℕ → List ℕ → List ℕ
written_with [] text = text
written_with (c ∷ cs) text = (c ∷ cs) ++ codes "." ++ text

abbrev pub written : Long → List ℕ
written x = written_with x.qualifier x.text

-- an Int, that is negative in patterns alone; a Char and a String, by their UTF-16 units
pub data Literal : Type 0 where
  IntL : ℤ → Literal
  CharL : List ℕ → Literal
  TextL : List ℕ → Literal

-- ---- types

mutual
  pub data TypeTree : Type 0 where
    TypeVariable : Word → TypeTree
    -- a type's name with its arguments
    TypeName : Long → TypeTrees → TypeTree
    -- t -> u -> v: two or more, the last of which is the result
    FunctionType : TypeTrees → TypeTree
    -- ( t, u ); () has no parts
    TupleType : TypeTrees → TypeTree
    RecordType : FieldTypes → TypeTree
    -- { a | x : t }
    ExtendedType : Word → FieldTypes → TypeTree

  pub data TypeTrees : Type 0 where
    NoType : TypeTrees
    MoreType : TypeTree → TypeTrees → TypeTrees

  pub data FieldTypes : Type 0 where
    NoFieldType : FieldTypes
    MoreFieldType : Word → TypeTree → FieldTypes → FieldTypes

-- ---- patterns

mutual
  pub data Pattern : Type 0 where
    -- _
    Anything : Pos → Pattern
    Named : Word → Pattern
    -- p as x, which begins there
    As : Pos → Pattern → Word → Pattern
    Exactly : Pos → Literal → Pattern
    Construct : Long → Patterns → Pattern
    -- p :: q :: r, which begins there: two or more
    ConsPattern : Pos → Patterns → Pattern
    -- [ p, q ]
    ListPattern : Pos → Patterns → Pattern
    -- ( p, q ); () has no parts
    TuplePattern : Pos → Patterns → Pattern
    -- { x, y }
    FieldsPattern : Pos → List Word → Pattern

  pub data Patterns : Type 0 where
    NoPattern : Patterns
    MorePattern : Pattern → Patterns → Patterns

-- ---- expressions

mutual
  pub data Expr : Type 0 where
    Is : Pos → Literal → Expr
    Name : Long → Expr
    Constructor : Long → Expr
    -- (+), whose operator stands there
    OperatorName : Word → Expr
    -- .x, whose point stands there
    Accessor : Word → Expr
    Lambda : Pos → Patterns → Expr → Expr
    -- a function with one argument or more
    Apply : Expr → Exprs → Expr
    -- an operand, and the others, one or more, each with the operator before it
    Chain : Expr → Parts → Expr
    -- -e
    Negate : Pos → Expr → Expr
    If : Expr → Expr → Expr → Expr
    Case : Pos → Expr → Branches → Expr
    Let : Definitions → Expr → Expr
    ListOf : Pos → Exprs → Expr
    -- ( a, b ); () has no parts
    TupleOf : Pos → Exprs → Expr
    RecordOf : Pos → Parts → Expr
    -- { r | x = a }
    Update : Pos → Word → Parts → Expr
    -- a.x.y, which begins there: one field or more
    Access : Pos → Expr → List Word → Expr

  pub data Exprs : Type 0 where
    NoExpr : Exprs
    MoreExpr : Expr → Exprs → Exprs

  -- operands, each with the operator before it; or fields, each with its name
  pub data Parts : Type 0 where
    NoPart : Parts
    MorePart : Word → Expr → Parts → Parts

  pub data Branches : Type 0 where
    NoBranch : Branches
    MoreBranch : Pattern → Expr → Branches → Branches

  pub data Definitions : Type 0 where
    NoDefinition : Definitions
    MoreDefinition : Definition → Definitions → Definitions

  pub data Definition : Type 0 where
    -- x : t
    Annotate : Word → TypeTree → Definition
    -- x p q = e
    Define : Word → Patterns → Expr → Definition
    -- p = e, in a `let` alone
    Destructure : Pattern → Expr → Definition

-- ---- modules

-- C t u
pub record ConstructorOf : Type 0 where
  pub name : Word
  pub fields : TypeTrees

pub data Declaration : Type 0 where
  Value : Definition → Declaration
  Port : Word → TypeTree → Declaration
  -- type T a b = C t | D
  Union : Word → List Word → List ConstructorOf → Declaration
  -- type alias T a b = t
  Alias : Word → List Word → TypeTree → Declaration

-- what a header or an import exposes by name
pub data Exposed : Type 0 where
  OneValue : Word → Exposed
  -- T
  OneType : Word → Exposed
  -- T(..)
  OpenType : Word → Exposed
  -- (+)
  OneOperator : Word → Exposed

pub data Exposing : Type 0 where
  Everything : Exposing
  -- an import without `exposing` has none
  These : List Exposed → Exposing

pub record Import : Type 0 where
  pub name : Word
  pub alias : Option Word
  pub exposes : Exposing

-- module M exposing (..), or port module M exposing (..)
pub record Header : Type 0 where
  pub has_ports : Bool
  pub name : Word
  pub exposes : Exposing

-- what stands before the declarations
pub record Head : Type 0 where
  pub header : Option Header
  pub imports : List Import

pub record Module : Type 0 where
  pub head : Head
  pub declarations : List Declaration

-- ---- lists of parts

abbrev pub types_of : List TypeTree → TypeTrees
types_of [] = NoType
types_of (t ∷ ts) = MoreType t (types_of ts)

abbrev pub field_types_of : List (Word × TypeTree) → FieldTypes
field_types_of [] = NoFieldType
field_types_of (f ∷ fs) = MoreFieldType f.0 f.1 (field_types_of fs)

abbrev pub patterns_of : List Pattern → Patterns
patterns_of [] = NoPattern
patterns_of (p ∷ ps) = MorePattern p (patterns_of ps)

abbrev pub exprs_of : List Expr → Exprs
exprs_of [] = NoExpr
exprs_of (e ∷ es) = MoreExpr e (exprs_of es)

abbrev pub parts_of : List (Word × Expr) → Parts
parts_of [] = NoPart
parts_of (p ∷ ps) = MorePart p.0 p.1 (parts_of ps)

abbrev pub branches_of : List (Pattern × Expr) → Branches
branches_of [] = NoBranch
branches_of (b ∷ bs) = MoreBranch b.0 b.1 (branches_of bs)

abbrev pub definitions_of : List Definition → Definitions
definitions_of [] = NoDefinition
definitions_of (d ∷ ds) = MoreDefinition d (definitions_of ds)

-- the parts of a chain or a record, as a list
abbrev pub part_list : Parts → List (Word × Expr)
part_list NoPart = []
part_list (MorePart x e ps) = (x, e) ∷ part_list ps

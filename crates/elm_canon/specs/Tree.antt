-- The canonical tree of a module, as plain data. (Elm guide: core language, types, pattern matching, modules,
-- JavaScript interop.) Each name is a local one or one of a module, each constructor has its union, and chains of
-- operators and brackets are gone. Names and texts are lists of UTF-16 units. `Located` says where an expression or a
-- pattern begins.
--
-- The definitions of a `let` stand in groups, each after those that it uses. Each keeps the place where it is written
-- and its annotation, so that the written order can be told.
use Rattle.std.specs.Prelude.{List, [], ◌∷◌, Bool, Option}
use Rattle.elm_base.specs.declared.position.Pos.{Pos}
use Rattle.elm_canon.specs.Names.{Name}
use Rattle.elm_canon.specs.declared.reference.Ref.{Ref}
use Rattle.elm_canon.specs.declared.unions.Alternative.{Alternative}
use Rattle.elm_canon.specs.Unions.{Union}
use Rattle.elm_canon.specs.declared.tree.Literal.{Literal}
use Rattle.elm_canon.specs.declared.tree.Operator.{Operator}
use Rattle.elm_canon.specs.declared.tree.Connective.{Connective}

-- ---- types, with their aliases expanded

mutual
  pub data Annotation : Type 0 where
    Variable : Name → Annotation
    -- x of module m with its arguments
    NamedType : Name → Name → Annotations → Annotation
    FunctionType : Annotation → Annotation → Annotation
    -- () is the tuple of no parts
    TupleType : Annotations → Annotation
    RecordType : FieldTypes → Annotation
    -- { a | x : t }
    ExtendedType : Name → FieldTypes → Annotation

  pub data Annotations : Type 0 where
    NoAnnotation : Annotations
    MoreAnnotation : Annotation → Annotations → Annotations

  -- in written order
  pub data FieldTypes : Type 0 where
    NoFieldType : FieldTypes
    MoreFieldType : Name → Annotation → FieldTypes → FieldTypes

-- ---- patterns

mutual
  pub data Pattern : Type 0 where
    -- _
    Anything : Pattern
    Named : Name → Pattern
    -- p as x
    As : Pattern → Name → Pattern
    Exactly : Literal → Pattern
    -- a constructor with a pattern for each field; so are (), tuples, p :: q, and [ p, q ], which is p :: q :: []
    Construct : Union → Alternative → Patterns → Pattern
    -- { x, y }
    FieldsOf : List Name → Pattern
    LocatedPattern : Pos → Pattern → Pattern

  pub data Patterns : Type 0 where
    NoPattern : Patterns
    MorePattern : Pattern → Patterns → Patterns

-- ---- expressions

-- what is done with the values of the parts
pub data Op : Type 0 where
  -- ( a, b ), and () of no parts
  TupleOf : Op
  -- [ a, b ]
  ListOf : Op
  -- a constructor with all its fields; its name stands there
  Build : Pos → Union → Alternative → Op
  -- { x = a, y = b }: the names in written order
  RecordOf : List Name → Op
  -- a.x
  Access : Name → Op
  -- { r | x = a, y = b }: r is the first part
  Update : List Name → Op
  -- -a
  Negate : Op
  -- a + b, whose operator stands there
  Binary : Pos → Operator → Op

-- what a definition defines, where it is written, and its annotation, if it has one
pub record Title : Type 0 where
  pub name : Ref
  pub place : Pos
  pub annotation : Option Annotation

mutual
  pub data Expr : Type 0 where
    Is : Literal → Expr
    NameOf : Ref → Expr
    -- .x
    Accessor : Name → Expr
    Lambda : Patterns → Expr → Expr
    -- a function with its arguments in turn; so are x |> f, f <| x, a ^ b, f << g and f >> g
    Apply : Expr → Exprs → Expr
    -- the parts from left to right, and then one thing with their values
    Strict : Op → Exprs → Expr
    If : Expr → Expr → Expr → Expr
    -- a && b and a || b, whose operator stands there
    Logical : Pos → Connective → Expr → Expr → Expr
    Let : Groups → Expr → Expr
    Case : Expr → Branches → Expr
    Located : Pos → Expr → Expr

  pub data Exprs : Type 0 where
    NoExpr : Exprs
    MoreExpr : Expr → Exprs → Exprs

  pub data Branches : Type 0 where
    NoBranch : Branches
    MoreBranch : Pattern → Expr → Branches → Branches

  -- each after those that it uses
  pub data Groups : Type 0 where
    NoGroup : Groups
    MoreGroup : Group → Groups → Groups

  pub data Group : Type 0 where
    -- functions that may use each other, by their places
    Together : Functions → Group
    -- a definition that is not a function, and does not use itself
    Constant : Title → Expr → Group
    -- p = e
    Destructure : Pattern → Expr → Group

  -- each with its parameters as they are written; of none the body is a lambda
  pub data Functions : Type 0 where
    NoFunction : Functions
    MoreFunction : Title → Patterns → Expr → Functions → Functions

-- ---- what is declared without a body

-- what crosses a port
mutual
  pub data Payload : Type 0 where
    IntPayload : Payload
    BoolPayload : Payload
    TextPayload : Payload
    MaybePayload : Payload → Payload
    ListPayload : Payload → Payload
    -- () is the tuple of no parts
    TuplePayload : Payloads → Payload
    RecordPayload : PayloadFields → Payload

  pub data Payloads : Type 0 where
    NoPayload : Payloads
    MorePayload : Payload → Payloads → Payloads

  pub data PayloadFields : Type 0 where
    NoPayloadField : PayloadFields
    MorePayloadField : Name → Payload → PayloadFields → PayloadFields

-- a function without a body
pub data Known : Type 0 where
  -- a constructor with its fields
  Maker : Alternative → Known
  -- the constructor of a record's alias, with its fields in written order
  RecordMaker : List Name → Known
  OutPort : Name → Payload → Known
  InPort : Name → Payload → Known

-- ---- modules

-- type x a b = C t u | D: its union, and the types of the fields of each constructor
pub record UnionDeclaration : Type 0 where
  pub name : Name
  pub union : Union
  pub parameters : List Name
  pub fields : List Annotations

-- type alias x a b = t; one that is written as a closed record is also a constructor
pub record AliasDeclaration : Type 0 where
  pub name : Name
  pub parameters : List Name
  pub body : Annotation
  pub is_maker : Bool

-- port x : t
pub record PortDeclaration : Type 0 where
  pub name : Name
  pub place : Pos
  pub port_type : Annotation

-- at the top level: what has no body, or a group of definitions
pub data Declaration : Type 0 where
  Given : Ref → Known → Declaration
  Define : Group → Declaration

-- a module; its declarations are the constructors in written order, and then the groups of values, ports among them
pub record Module : Type 0 where
  pub name : Name
  pub unions : List UnionDeclaration
  pub aliases : List AliasDeclaration
  pub ports : List PortDeclaration
  pub declarations : List Declaration

-- ---- lists of parts

abbrev pub annotations_of : List Annotation → Annotations
annotations_of [] = NoAnnotation
annotations_of (t ∷ ts) = MoreAnnotation t (annotations_of ts)

abbrev pub field_types_of : List (Name × Annotation) → FieldTypes
field_types_of [] = NoFieldType
field_types_of (f ∷ fs) = MoreFieldType f.0 f.1 (field_types_of fs)

abbrev pub patterns_of : List Pattern → Patterns
patterns_of [] = NoPattern
patterns_of (p ∷ ps) = MorePattern p (patterns_of ps)

abbrev pub exprs_of : List Expr → Exprs
exprs_of [] = NoExpr
exprs_of (e ∷ es) = MoreExpr e (exprs_of es)

abbrev pub branches_of : List (Pattern × Expr) → Branches
branches_of [] = NoBranch
branches_of (b ∷ bs) = MoreBranch b.0 b.1 (branches_of bs)

abbrev pub groups_of : List Group → Groups
groups_of [] = NoGroup
groups_of (g ∷ gs) = MoreGroup g (groups_of gs)

abbrev pub functions_of : List (Title × Patterns × Expr) → Functions
functions_of [] = NoFunction
functions_of (f ∷ fs) = MoreFunction f.0 f.1 f.2 (functions_of fs)

abbrev pub payloads_of : List Payload → Payloads
payloads_of [] = NoPayload
payloads_of (p ∷ ps) = MorePayload p (payloads_of ps)

abbrev pub payload_fields_of : List (Name × Payload) → PayloadFields
payload_fields_of [] = NoPayloadField
payload_fields_of (f ∷ fs) = MorePayloadField f.0 f.1 (payload_fields_of fs)

-- the names of the fields of a record's type, in written order
abbrev pub field_names : FieldTypes → List Name
field_names NoFieldType = []
field_names (MoreFieldType x t fs) = x ∷ field_names fs

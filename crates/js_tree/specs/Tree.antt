-- The JavaScript of an output, as plain data. (ECMA-262: 13.2 primary expressions, 13.3 member and call expressions,
-- 13.8.1 and 13.7 + - and *, 13.11 ===, 13.13 && and ||, 13.14 conditional expressions, 14.3.1 let and const, 13.15
-- assignment, 14.6 if, 14.7.3 while, 14.8 continue, 14.10 return, 15.3 arrow functions.) An output is a line for each
-- constant, then the line of `_main`, between two fixed texts.
use Rattle.std.specs.Prelude.{ℕ, ℤ, List, Bool, true, false, nat_eq, ◌&&◌, if◌then◌else◌}
use Rattle.std.specs.Str.{bytes_eq}

-- a name: x of a module, as Main$x; a local x, as $x; one that the compiler made, by its number, as $$0. Names are
-- lists of units.
pub data Name : Type 0 where
  Top : List ℕ → List ℕ → Name
  Local : List ℕ → Name
  Made : ℕ → Name

abbrev pub same_name : Name → Name → Bool
same_name (Top m x) (Top n y) = bytes_eq m n && bytes_eq x y
same_name (Local x) (Local y) = bytes_eq x y
same_name (Made i) (Made j) = nat_eq i j
same_name _ _ = false

-- the operators between two expressions: + - * === && ||
pub data Operator : Type 0 where
  Plus : Operator
  Minus : Operator
  Times : Operator
  StrictEquals : Operator
  And : Operator
  Or : Operator

-- the functions of the fixed text in front that a body calls by name, in its order
pub data Helper : Type 0 where
  Crash : Helper
  Quotient : Helper
  Remainder : Helper
  Modulo : Helper
  BitAnd : Helper
  BitOr : Helper
  BitXor : Helper
  BitNot : Helper
  ShiftLeft : Helper
  ShiftRight : Helper
  ShiftRightZero : Helper
  FromInt : Helper
  Length : Helper
  UnitAt : Helper
  FromUnit : Helper
  Slice : Helper
  Find : Helper
  Same : Helper
  Update : Helper
  ArrayOf : Helper
  Append : Helper
  Pairs : Helper
  Size : Helper
  Equal : Helper
  Compare : Helper
  DecodeInt : Helper
  DecodeBool : Helper
  DecodeText : Helper
  DecodeNull : Helper
  DecodeAny : Helper
  DecodeMaybe : Helper
  All : Helper
  DecodeList : Helper
  DecodeTuple : Helper
  DecodeRecord : Helper
  EncodeSame : Helper
  EncodeNull : Helper
  EncodeMaybe : Helper
  EncodeList : Helper
  EncodeTuple : Helper
  EncodeRecord : Helper

mutual
  pub data Js : Type 0 where
    JInt : ℤ → Js
    JBool : Bool → Js
    JText : List ℕ → Js
    JVar : Name → Js
    -- a function of one parameter
    JArrow : Name → Stmts → Js
    -- a function without a parameter, called at once
    JBlock : Stmts → Js
    JCall : Js → Js → Js
    JBinary : Operator → Js → Js → Js
    JConditional : Js → Js → Js → Js
    JObject : Fields → Js
    JProperty : Js → List ℕ → Js
    JList : JsList → Js
    JHelper : Helper → JsList → Js

  pub data JsList : Type 0 where
    NoJs : JsList
    MoreJs : Js → JsList → JsList

  -- the fields of an object, each with its name's units
  pub data Fields : Type 0 where
    NoField : Fields
    MoreField : List ℕ → Js → Fields → Fields

  -- statements up to one that ends them: `const n=E;` `let n=E;` `n=E;` and what follows; `return E;` `if(E){S}else{S}`
  -- `while(true){S}` `continue;`
  pub data Stmts : Type 0 where
    Const : Name → Js → Stmts → Stmts
    Let : Name → Js → Stmts → Stmts
    Assign : Name → Js → Stmts → Stmts
    Return : Js → Stmts
    If : Js → Stmts → Stmts → Stmts
    While : Stmts → Stmts
    Continue : Stmts

-- the block declares the name
abbrev pub declares : Name → Stmts → Bool
declares x (Const y e s) = if same_name x y then true else declares x s
declares x (Let y e s) = if same_name x y then true else declares x s
declares x (Assign y e s) = declares x s
declares x _ = false

-- the block declares a name
abbrev pub declares_any : Stmts → Bool
declares_any (Const x e s) = true
declares_any (Let x e s) = true
declares_any (Assign x e s) = declares_any s
declares_any _ = false

-- the lines before that of `_main`
pub data Lines : Type 0 where
  NoLine : Lines
  MoreLine : Name → Js → Lines → Lines

-- A whole program: its constants; the program that `_main` holds; the name of its module; the decoder of its flags; its
-- incoming ports with their decoders; its outgoing ports.
pub record Program : Type 0 where
  pub lines : Lines
  pub main : Js
  pub name : List ℕ
  pub flags : Js
  pub ins : Fields
  pub outs : List (List ℕ)

-- the constants as statements, which return what stands last
abbrev pub as_statements : Lines → Js → Stmts
as_statements NoLine main = Return main
as_statements (MoreLine x e ls) main = Const x e (as_statements ls main)

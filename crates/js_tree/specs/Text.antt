-- JsText: which bytes are the text of a program. (ECMA-262: 12.7 names, 12.9.3 numbers, 12.9.4 texts; each construct in
-- one spelling, without blanks but those after const, let and return.) It is the fixed front, a line for each constant,
-- the line of `_main`, and the fixed end.
use Rattle.std.specs.Prelude.{◌≡◌, ℕ, suc, ℤ, pos, negsuc, ◌+◌, ◌/◌, ◌%◌, List, [], ◌∷◌, ◌++◌, Bool, true, false}
use Rattle.std.specs.Prelude.{if◌then◌else◌, ◌&&◌, ◌||◌, ◌==◌, nat_le, nat_lt, codes, decimal}
pub use Rattle.elm_base.specs.Quoted.{hex_digit, hex4, unit_text, units_text, text_text}
use Rattle.js_tree.specs.declared.runtime.TheConstants.{HEAD, TAIL}
use Rattle.js_tree.specs.Tree as js
use Rattle.js_tree.specs.Tree.{Name, Top, Local, Made, Operator, Plus, Minus, Times, StrictEquals, And, Or, Helper, Js}
use Rattle.js_tree.specs.Tree.{JInt, JBool, JText, JVar, JArrow, JBlock, JCall, JBinary, JConditional, JObject}
use Rattle.js_tree.specs.Tree.{JProperty, JList, JHelper, JsList, NoJs, MoreJs, Fields, NoField, MoreField, Stmts}
use Rattle.js_tree.specs.Tree.{Const, Let, Assign, Return, If, While, Continue, Lines, NoLine, MoreLine, Program}

-- an integer: in decimal, a negative one as (-5)
abbrev pub int_text : ℤ → List ℕ
int_text (pos n) = decimal n
int_text (negsuc n) = codes "(-" ++ decimal (suc n) ++ codes ")"

-- a letter of ASCII, a digit or _
abbrev pub is_word_char : ℕ → Bool
is_word_char c = (nat_le 65 c && nat_le c 90) || (nat_le 97 c && nat_le c 122) || (nat_le 48 c && nat_le c 57) || c == 95

-- a unit inside of a name: a point, which joins the names of a module, as $; any other past the characters of a word as
-- $$ and four digits
abbrev pub name_unit : ℕ → List ℕ
name_unit u = if u == 46 then 36 ∷ [] else (if is_word_char u then u ∷ [] else 36 ∷ 36 ∷ hex4 u)

abbrev pub name_units : List ℕ → List ℕ
name_units [] = []
name_units (u ∷ us) = name_unit u ++ name_units us

abbrev pub name_text : Name → List ℕ
name_text (Top m x) = name_units m ++ 36 ∷ name_units x
name_text (Local x) = 36 ∷ name_units x
name_text (Made n) = 36 ∷ 36 ∷ decimal n

abbrev pub operator_text : Operator → List ℕ
operator_text Plus = codes "+"
operator_text Minus = codes "-"
operator_text Times = codes "*"
operator_text StrictEquals = codes "==="
operator_text And = codes "&&"
operator_text Or = codes "||"

abbrev pub helper_text : Helper → List ℕ
helper_text js.Crash = codes "_crash"
helper_text js.Quotient = codes "_quot"
helper_text js.Remainder = codes "_rem"
helper_text js.Modulo = codes "_mod"
helper_text js.BitAnd = codes "_and"
helper_text js.BitOr = codes "_or"
helper_text js.BitXor = codes "_xor"
helper_text js.BitNot = codes "_not"
helper_text js.ShiftLeft = codes "_shl"
helper_text js.ShiftRight = codes "_shr"
helper_text js.ShiftRightZero = codes "_shz"
helper_text js.FromInt = codes "_fromInt"
helper_text js.Length = codes "_length"
helper_text js.UnitAt = codes "_unitAt"
helper_text js.FromUnit = codes "_fromUnit"
helper_text js.Slice = codes "_slice"
helper_text js.Find = codes "_find"
helper_text js.Same = codes "_same"
helper_text js.Update = codes "_update"
helper_text js.ArrayOf = codes "_array"
helper_text js.Append = codes "_append"
helper_text js.Pairs = codes "_pairs"
helper_text js.Size = codes "_size"
helper_text js.Equal = codes "_eq"
helper_text js.Compare = codes "_cmp"
helper_text js.DecodeInt = codes "_dInt"
helper_text js.DecodeBool = codes "_dBool"
helper_text js.DecodeText = codes "_dText"
helper_text js.DecodeNull = codes "_dNull"
helper_text js.DecodeAny = codes "_dAny"
helper_text js.DecodeMaybe = codes "_dMaybe"
helper_text js.All = codes "_all"
helper_text js.DecodeList = codes "_dList"
helper_text js.DecodeTuple = codes "_dTuple"
helper_text js.DecodeRecord = codes "_dRecord"
helper_text js.EncodeSame = codes "_eSame"
helper_text js.EncodeNull = codes "_eNull"
helper_text js.EncodeMaybe = codes "_eMaybe"
helper_text js.EncodeList = codes "_eList"
helper_text js.EncodeTuple = codes "_eTuple"
helper_text js.EncodeRecord = codes "_eRecord"

abbrev pub bool_text : Bool → List ℕ
bool_text true = codes "true"
bool_text false = codes "false"

abbrev mutual
  pub js_text : Js → List ℕ
  js_text (JInt n) = int_text n
  js_text (JBool b) = bool_text b
  js_text (JText us) = text_text us
  js_text (JVar x) = name_text x
  js_text (JArrow p s) = codes "(" ++ name_text p ++ codes "=>{" ++ stmts_text s ++ codes "})"
  js_text (JBlock s) = codes "(()=>{" ++ stmts_text s ++ codes "})()"
  js_text (JCall f a) = js_text f ++ codes "(" ++ js_text a ++ codes ")"
  js_text (JBinary op a b) = codes "(" ++ js_text a ++ operator_text op ++ js_text b ++ codes ")"
  js_text (JConditional c a b) = codes "(" ++ js_text c ++ codes "?" ++ js_text a ++ codes ":" ++ js_text b ++ codes ")"
  js_text (JObject fs) = codes "{" ++ fields_text fs ++ codes "}"
  js_text (JProperty e k) = js_text e ++ codes "[" ++ text_text k ++ codes "]"
  js_text (JList es) = codes "_list([" ++ list_text es ++ codes "])"
  js_text (JHelper h es) = helper_text h ++ codes "(" ++ list_text es ++ codes ")"

  -- joined by commas
  pub list_text : JsList → List ℕ
  list_text NoJs = []
  list_text (MoreJs e es) = js_text e ++ more_text es

  pub more_text : JsList → List ℕ
  more_text NoJs = []
  more_text (MoreJs e es) = codes "," ++ js_text e ++ more_text es

  pub fields_text : Fields → List ℕ
  fields_text NoField = []
  fields_text (MoreField k e fs) = text_text k ++ codes ":" ++ js_text e ++ more_fields_text fs

  pub more_fields_text : Fields → List ℕ
  more_fields_text NoField = []
  more_fields_text (MoreField k e fs) = codes "," ++ text_text k ++ codes ":" ++ js_text e ++ more_fields_text fs

  pub stmts_text : Stmts → List ℕ
  stmts_text (Const x e s) = codes "const " ++ name_text x ++ codes "=" ++ js_text e ++ codes ";" ++ stmts_text s
  stmts_text (Let x e s) = codes "let " ++ name_text x ++ codes "=" ++ js_text e ++ codes ";" ++ stmts_text s
  stmts_text (Assign x e s) = name_text x ++ codes "=" ++ js_text e ++ codes ";" ++ stmts_text s
  stmts_text (Return e) = codes "return " ++ js_text e ++ codes ";"
  stmts_text (If c s t) = codes "if(" ++ js_text c ++ codes "){" ++ stmts_text s ++ codes "}else{" ++ stmts_text t ++ codes "}"
  stmts_text (While s) = codes "while(true){" ++ stmts_text s ++ codes "}"
  stmts_text Continue = codes "continue;"

-- the outgoing ports as the fields of an object of zeros
abbrev pub outs_fields : List (List ℕ) → Fields
outs_fields [] = NoField
outs_fields (p ∷ ps) = MoreField p (JInt (pos 0)) (outs_fields ps)

-- the object that `_main` holds
abbrev pub main_object : Program → Js
main_object p =
    JObject (MoreField (codes "name") (JText p.name) (MoreField (codes "program") p.main (MoreField (codes "flags") p.flags
    (MoreField (codes "ins") (JObject p.ins) (MoreField (codes "outs") (JObject (outs_fields p.outs)) NoField)))))

-- the lines, each ended by a line feed (10)
abbrev pub lines_text : Lines → List ℕ
lines_text NoLine = []
lines_text (MoreLine x e ls) = codes "const " ++ name_text x ++ codes "=" ++ js_text e ++ codes ";\n" ++ lines_text ls

abbrev pub main_text : Program → List ℕ
main_text p = codes "const _main=" ++ js_text (main_object p) ++ codes ";\n"

-- the bytes are the program's text
abbrev pub JsText : Program → List ℕ → Type 0
JsText p bytes = bytes ≡ HEAD.now ++ lines_text p.lines ++ main_text p ++ TAIL.now

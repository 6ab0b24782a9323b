-- What the compiler takes for granted of the core library: the unions that its own rules speak of, and the types of the
-- functions that no text can say. (elm/core 1.0.5: Basics, Bitwise, Char, Debug, Dict, Maybe, Platform, Platform.Cmd,
-- Platform.Sub, String.)
use Rattle.std.specs.Prelude.{pos, negsuc, List, [], ◌∷◌, length, map, true, false, codes}
use Rattle.elm_canon.specs.Names.{Name}
use Rattle.elm_canon.specs.Unions.{Declared}
use Rattle.elm_canon.specs.declared.unions.Alternative.{Alternative}
use Rattle.elm_canon.specs.declared.unions.Tag.{Tag}
use Rattle.elm_canon.specs.declared.unions.Tag.TheVariants.{Number, Truth}
use Rattle.elm_canon.specs.Tree.{Annotation, Variable, NamedType, FunctionType, TupleType, RecordType, Annotations}
use Rattle.elm_canon.specs.Tree.{NoFieldType, MoreFieldType, annotations_of, UnionDeclaration}

-- ---- types

abbrev pub type_of : Name → Name → List Annotation → Annotation
type_of m x ts = NamedType m x (annotations_of ts)

abbrev pub int : Annotation
int = type_of (codes "Basics") (codes "Int") []

abbrev pub char : Annotation
char = type_of (codes "Char") (codes "Char") []

abbrev pub text : Annotation
text = type_of (codes "String") (codes "String") []

abbrev pub msg : Annotation
msg = Variable (codes "msg")

abbrev pub cmd : Annotation
cmd = type_of (codes "Platform.Cmd") (codes "Cmd") (msg ∷ [])

abbrev pub sub : Annotation
sub = type_of (codes "Platform.Sub") (codes "Sub") (msg ∷ [])

abbrev pub list : Annotation → Annotation
list t = type_of (codes "List") (codes "List") (t ∷ [])

infixr 5 ◌→→◌
abbrev pub ◌→→◌ : Annotation → Annotation → Annotation
t →→ u = FunctionType t u

-- ---- unions

pub record Made : Type 0 where
  pub alternative : Alternative
  pub fields : Annotations

-- a constructor with these fields
abbrev pub maker : Name → Tag → List Annotation → Made
maker x t fs = record {
  alternative = record { name = x; tag = t; arity = length fs };
  fields = annotations_of fs;
}

-- the union x of the module m, with these parameters
abbrev pub union : Name → Name → List Name → List Made → UnionDeclaration
union m x as_ cs = record {
  name = x;
  union = Declared m x (map (λ c. c.alternative) cs);
  parameters = as_;
  fields = map (λ c. c.fields) cs;
}

-- type Bool = True | False
abbrev pub bool_union : UnionDeclaration
bool_union =
    union (codes "Basics") (codes "Bool") []
    (maker (codes "True") (Truth true) [] ∷ maker (codes "False") (Truth false) [] ∷ [])

-- type Maybe a = Just a | Nothing
abbrev pub maybe_union : UnionDeclaration
maybe_union =
    union (codes "Maybe") (codes "Maybe") (codes "a" ∷ [])
    (maker (codes "Just") (Number (pos 0)) (Variable (codes "a") ∷ []) ∷ maker (codes "Nothing") (Number (pos 1)) []
    ∷ [])

-- type Dict k v = Node Color k v (Dict k v) (Dict k v) | Empty
abbrev pub dict : Annotation
dict = type_of (codes "Dict") (codes "Dict") (Variable (codes "k") ∷ Variable (codes "v") ∷ [])

abbrev pub dict_union : UnionDeclaration
dict_union =
    union (codes "Dict") (codes "Dict") (codes "k" ∷ codes "v" ∷ [])
    (maker (codes "Node") (Number (negsuc 0))
    (type_of (codes "Dict") (codes "Color") [] ∷ Variable (codes "k") ∷ Variable (codes "v") ∷ dict ∷ dict ∷ [])
    ∷ maker (codes "Empty") (Number (negsuc 1)) [] ∷ [])

-- type Cmd msg = Send String Payload | Batch (List (Cmd msg))
abbrev pub cmd_union : UnionDeclaration
cmd_union =
    union (codes "Platform.Cmd") (codes "Cmd") (codes "msg" ∷ [])
    (maker (codes "Send") (Number (pos 0)) (text ∷ type_of (codes "Platform.Cmd") (codes "Payload") [] ∷ [])
    ∷ maker (codes "Batch") (Number (pos 1)) (list cmd ∷ []) ∷ [])

-- type Sub msg = Listen String (Payload -> msg) | Batch (List (Sub msg))
abbrev pub sub_union : UnionDeclaration
sub_union =
    union (codes "Platform.Sub") (codes "Sub") (codes "msg" ∷ [])
    (maker (codes "Listen") (Number (pos 0))
    (text ∷ (type_of (codes "Platform.Sub") (codes "Payload") [] →→ msg) ∷ [])
    ∷ maker (codes "Batch") (Number (pos 1)) (list sub ∷ []) ∷ [])

-- type Program flags model msg =
--     Program
--         { init : flags -> ( model, Cmd msg )
--         , update : msg -> model -> ( model, Cmd msg )
--         , subscriptions : model -> Sub msg
--         }
abbrev pub model : Annotation
model = Variable (codes "model")

abbrev pub step : Annotation
step = TupleType (annotations_of (model ∷ cmd ∷ []))

abbrev pub program_record : Annotation
program_record =
    RecordType
    (MoreFieldType (codes "init") (Variable (codes "flags") →→ step)
    (MoreFieldType (codes "update") (msg →→ model →→ step)
    (MoreFieldType (codes "subscriptions") (model →→ sub) NoFieldType)))

abbrev pub program_union : UnionDeclaration
program_union =
    union (codes "Platform") (codes "Program") (codes "flags" ∷ codes "model" ∷ codes "msg" ∷ [])
    (maker (codes "Program") (Number (pos 0)) (program_record ∷ []) ∷ [])

-- a module, and what it declares
pub record UnionRow : Type 0 where
  pub home : Name
  pub declared : UnionDeclaration

abbrev pub union_rows : List UnionRow
union_rows =
    record { home = codes "Basics"; declared = bool_union }
    ∷ record { home = codes "Maybe"; declared = maybe_union }
    ∷ record { home = codes "Dict"; declared = dict_union }
    ∷ record { home = codes "Platform.Cmd"; declared = cmd_union }
    ∷ record { home = codes "Platform.Sub"; declared = sub_union }
    ∷ record { home = codes "Platform"; declared = program_union }
    ∷ []

-- ---- types without a text

-- a module, and the name of a type of it that no text declares
pub record BareRow : Type 0 where
  pub home : Name
  pub name : Name

abbrev pub bare_rows : List BareRow
bare_rows =
    record { home = codes "Basics"; name = codes "Int" }
    ∷ record { home = codes "Char"; name = codes "Char" }
    ∷ record { home = codes "List"; name = codes "List" }
    ∷ record { home = codes "String"; name = codes "String" }
    ∷ []

-- ---- functions that no text can say

-- a function of a module, and its type
pub record FunctionRow : Type 0 where
  pub home : Name
  pub name : Name
  pub type : Annotation

abbrev pub row : Name → Name → Annotation → FunctionRow
row m x t = record { home = m; name = x; type = t }

abbrev pub function_rows : List FunctionRow
function_rows =
    row (codes "Basics") (codes "modBy") (int →→ int →→ int)
    ∷ row (codes "Basics") (codes "remainderBy") (int →→ int →→ int)
    ∷ row (codes "Bitwise") (codes "and") (int →→ int →→ int)
    ∷ row (codes "Bitwise") (codes "or") (int →→ int →→ int)
    ∷ row (codes "Bitwise") (codes "xor") (int →→ int →→ int)
    ∷ row (codes "Bitwise") (codes "complement") (int →→ int)
    ∷ row (codes "Bitwise") (codes "shiftLeftBy") (int →→ int →→ int)
    ∷ row (codes "Bitwise") (codes "shiftRightBy") (int →→ int →→ int)
    ∷ row (codes "Bitwise") (codes "shiftRightZfBy") (int →→ int →→ int)
    ∷ row (codes "Char") (codes "unitAt") (int →→ char →→ int)
    ∷ row (codes "Char") (codes "fromUnit") (int →→ text)
    ∷ row (codes "Char") (codes "fromText") (text →→ char)
    ∷ row (codes "Debug") (codes "todo") (text →→ Variable (codes "a"))
    ∷ row (codes "String") (codes "length") (text →→ int)
    ∷ row (codes "String") (codes "slice") (int →→ int →→ text →→ text)
    ∷ row (codes "String") (codes "fromInt") (int →→ text)
    ∷ row (codes "String") (codes "fromChar") (char →→ text)
    ∷ row (codes "String") (codes "unitAt") (int →→ text →→ int)
    ∷ row (codes "String") (codes "find") (text →→ int →→ text →→ int)
    ∷ []

-- The text of a type, as Elm writes types: `Maybe (List a)`, `a -> b`, `( a, b )`, `{ x : Int }`, `{ a | x : Int }`. A
-- type of a module that the language brings has its name alone, another type has its module before it.
use Rattle.std.specs.Prelude.{ℕ, List, [], ◌++◌, Bool, ◌||◌, slice_get, unwrap_or, if◌then◌else◌, codes}
use Rattle.std.specs.Str.{bytes_eq, encode_utf8_all}
use Rattle.std.specs.Char.Utf16.{utf16_lossy_chars}
use Rattle.elm_type.specs.Types.{Name, End, Closed, Over, ElmType, ElmTypes, Fields, Made, Record, NoType, MoreType}
use Rattle.elm_type.specs.Types.{NoField, MoreField, Leaf, Free, Fixed, Scheme}
use Rattle.elm_type.specs.Schemes.{rename}
use Rattle.elm_type.specs.declared.head.Head.{Head}
use Rattle.elm_type.specs.declared.head.Head.TheVariants as head
use Rattle.elm_type.specs.Naming.{names_of}
use Rattle.elm_type.specs.declared.frame.Around.{Around}
use Rattle.elm_type.specs.declared.frame.Around.TheVariants.{Alone, Parameter, Argument}

abbrev pub is_core : Name → Bool
is_core m =
    bytes_eq m (codes "Basics") || bytes_eq m (codes "Bitwise") || bytes_eq m (codes "Char") || bytes_eq m (codes "Debug")
    || bytes_eq m (codes "Dict") || bytes_eq m (codes "List") || bytes_eq m (codes "Maybe") || bytes_eq m (codes "Platform")
    || bytes_eq m (codes "Platform.Cmd") || bytes_eq m (codes "Platform.Sub") || bytes_eq m (codes "Result") || bytes_eq m (codes "Set")
    || bytes_eq m (codes "String") || bytes_eq m (codes "Tuple")

-- T of such a module, A.T of another
unfoldable pub type_name : Name → Name → Name
type_name m x = if is_core m then x else m ++ codes "." ++ x

-- Round a function stand brackets where it is a parameter or an argument, round a type with arguments where it is an
-- argument.
abbrev pub function_text : Around → Name → Name
function_text Alone t = t
function_text Parameter t = codes "(" ++ t ++ codes ")"
function_text Argument t = codes "(" ++ t ++ codes ")"

abbrev pub applied_text : Around → Name → Name
applied_text Alone t = t
applied_text Parameter t = t
applied_text Argument t = codes "(" ++ t ++ codes ")"

abbrev pub made_text : Around → Head → ElmTypes (Leaf ℕ) → (arguments parameters parts : Name) → Name
made_text around (head.Named m x) NoType arguments parameters parts = type_name m x
made_text around (head.Named m x) (MoreType t ts) arguments parameters parts = applied_text around (type_name m x ++ arguments)
made_text around head.Function ts arguments parameters parts = function_text around parameters
made_text around head.Tuple NoType arguments parameters parts = codes "()"
made_text around head.Tuple (MoreType t ts) arguments parameters parts = codes "( " ++ parts ++ codes " )"

abbrev pub record_text : (Leaf ℕ → Name) → Fields (Leaf ℕ) → End (Leaf ℕ) → Name → Name
record_text name NoField Closed fields = codes "{}"
record_text name NoField (Over x) fields = name x
record_text name (MoreField k t fs) Closed fields = codes "{ " ++ fields ++ codes " }"
record_text name (MoreField k t fs) (Over x) fields = codes "{ " ++ name x ++ codes " | " ++ fields ++ codes " }"

unfoldable mutual
  pub text_in : (Leaf ℕ → Name) → Around → ElmType (Leaf ℕ) → Name
  text_in name around (Made h ts) = made_text around h ts (arguments_text name ts) (parameters_text name ts) (parts_text name ts)
  text_in name around (Record fs end) = record_text name fs end (fields_text name fs)

  -- each after a blank
  pub arguments_text : (Leaf ℕ → Name) → ElmTypes (Leaf ℕ) → Name
  arguments_text name NoType = []
  arguments_text name (MoreType t ts) = codes " " ++ text_in name Argument t ++ arguments_text name ts

  -- the last is the result
  pub parameters_text : (Leaf ℕ → Name) → ElmTypes (Leaf ℕ) → Name
  parameters_text name NoType = []
  parameters_text name (MoreType t NoType) = text_in name Alone t
  parameters_text name (MoreType t (MoreType u us)) = text_in name Parameter t ++ codes " -> " ++ parameters_text name (MoreType u us)

  pub parts_text : (Leaf ℕ → Name) → ElmTypes (Leaf ℕ) → Name
  parts_text name NoType = []
  parts_text name (MoreType t ts) = text_in name Alone t ++ more_parts_text name ts

  pub more_parts_text : (Leaf ℕ → Name) → ElmTypes (Leaf ℕ) → Name
  more_parts_text name NoType = []
  more_parts_text name (MoreType t ts) = codes ", " ++ text_in name Alone t ++ more_parts_text name ts

  pub fields_text : (Leaf ℕ → Name) → Fields (Leaf ℕ) → Name
  fields_text name NoField = []
  fields_text name (MoreField k t fs) = k ++ codes " : " ++ text_in name Alone t ++ more_fields_text name fs

  pub more_fields_text : (Leaf ℕ → Name) → Fields (Leaf ℕ) → Name
  more_fields_text name NoField = []
  more_fields_text name (MoreField k t fs) = codes ", " ++ k ++ codes " : " ++ text_in name Alone t ++ more_fields_text name fs

-- the name of a variable, by its place, or of a constant
abbrev pub leaf_name : List Name → Leaf ℕ → Name
leaf_name names (Free i) = unwrap_or (slice_get names i) []
leaf_name names (Fixed r) = r.name

-- the text of the scheme with its variables in order
abbrev pub text_of_ordered : Scheme → Name
text_of_ordered s = text_in (leaf_name (names_of s)) Alone s.type

abbrev pub type_text : Scheme → Name
type_text s = text_of_ordered (rename s)

-- in UTF-8; a surrogate without its other half, which no name of the language has, is U+FFFD
abbrev pub utf8 : Name → List ℕ
utf8 units = encode_utf8_all (utf16_lossy_chars units)

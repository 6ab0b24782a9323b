-- What is left to write of the types that a walk over nodes has entered: for each a frame, the innermost first.
use Rattle.std.specs.Prelude.{◌≡◌, ℕ, ◌+◌, ◌≤◌, List, [], ◌∷◌, ◌++◌, length, take, drop, codes, Bool, true, false}
use Rattle.std.specs.Prelude.{nat_eq, if◌then◌else◌, Option, Some, None}
use Rattle.elm_type.specs.Types.{Name, ElmTypes, NoType, MoreType, Leaf}
use Rattle.elm_type.specs.Spelling.{Read, read_types, read_fields, read_node, leaf_of}
use Rattle.elm_type.specs.declared.head.Head.TheVariants as head
use Rattle.elm_type.specs.declared.node.Node.{Node}
use Rattle.elm_type.specs.declared.node.Node.TheVariants as node
use Rattle.elm_type.specs.Text.{type_name, text_in, arguments_text, parameters_text, parts_text, more_parts_text}
use Rattle.elm_type.specs.Text.{fields_text, more_fields_text}
use Rattle.elm_type.specs.declared.frame.Around.{Around}
use Rattle.elm_type.specs.declared.frame.Around.TheVariants.{Alone, Parameter, Argument}
use Rattle.elm_type.specs.declared.frame.Kind.{Kind}
use Rattle.elm_type.specs.declared.frame.Kind.TheVariants.{Single, Arguments, Parameters, Arrows, Parts, MoreParts}
use Rattle.elm_type.specs.declared.frame.Kind.TheVariants.{Fields, MoreFields}
use Rattle.elm_type.specs.declared.frame.Closing.{Closing}
use Rattle.elm_type.specs.declared.frame.Closing.TheVariants.{Nothing, Bracket, TupleEnd, RecordEnd}
use Rattle.elm_type.specs.declared.frame.Frame.{Frame}

abbrev pub closing_text : Closing → Name
closing_text Nothing = []
closing_text Bracket = codes ")"
closing_text TupleEnd = codes " )"
closing_text RecordEnd = codes " }"

abbrev pub arrows_text : (Leaf ℕ → Name) → ElmTypes (Leaf ℕ) → Name
arrows_text name NoType = []
arrows_text name (MoreType t ts) = codes " -> " ++ parameters_text name (MoreType t ts)

abbrev pub single_text : (Leaf ℕ → Name) → ElmTypes (Leaf ℕ) → Name
single_text name NoType = []
single_text name (MoreType t ts) = text_in name Alone t ++ single_text name ts

-- what a frame writes of the types and fields that it has left
abbrev pub frame_text : (Leaf ℕ → Name) → Kind → Read → Name
frame_text name Single rs = single_text name (read_types rs)
frame_text name Arguments rs = arguments_text name (read_types rs)
frame_text name Parameters rs = parameters_text name (read_types rs)
frame_text name Arrows rs = arrows_text name (read_types rs)
frame_text name Parts rs = parts_text name (read_types rs)
frame_text name MoreParts rs = more_parts_text name (read_types rs)
frame_text name Fields rs = fields_text name (read_fields rs)
frame_text name MoreFields rs = more_fields_text name (read_fields rs)

-- of the types to come each frame takes as many as it has left
unfoldable pub pending : (Leaf ℕ → Name) → List Frame → Read → Name
pending name [] rs = []
pending name (f ∷ fs) rs = frame_text name f.kind (take f.left rs) ++ (closing_text f.closing ++ pending name fs (drop f.left rs))

abbrev pub wanted : List Frame → ℕ
wanted [] = 0
wanted (f ∷ fs) = f.left + wanted fs

-- ---- how a node is begun

-- what is written before a part
abbrev pub separator_of : Kind → Name
separator_of Single = []
separator_of Arguments = codes " "
separator_of Parameters = []
separator_of Arrows = codes " -> "
separator_of Parts = []
separator_of MoreParts = codes ", "
separator_of Fields = []
separator_of MoreFields = codes ", "

-- what stands between the name of a field and its type
abbrev pub colon_of : Kind → Name
colon_of Single = []
colon_of Arguments = []
colon_of Parameters = []
colon_of Arrows = []
colon_of Parts = []
colon_of MoreParts = []
colon_of Fields = codes " : "
colon_of MoreFields = codes " : "

abbrev pub last_parameter : ℕ → Around
last_parameter n = if nat_eq n 0 then Alone else Parameter

-- where a part stands, with so many parts after it
abbrev pub around_of : Kind → ℕ → Around
around_of Single n = Alone
around_of Arguments n = Argument
around_of Parameters n = last_parameter n
around_of Arrows n = last_parameter n
around_of Parts n = Alone
around_of MoreParts n = Alone
around_of Fields n = Alone
around_of MoreFields n = Alone

-- what is written of the parts after it
abbrev pub next_of : Kind → Kind
next_of Single = Single
next_of Arguments = Arguments
next_of Parameters = Arrows
next_of Arrows = Arrows
next_of Parts = MoreParts
next_of MoreParts = MoreParts
next_of Fields = MoreFields
next_of MoreFields = MoreFields

abbrev pub has_fields : Kind → Bool
has_fields Single = false
has_fields Arguments = false
has_fields Parameters = false
has_fields Arrows = false
has_fields Parts = false
has_fields MoreParts = false
has_fields Fields = true
has_fields MoreFields = true

abbrev pub frame : Kind → ℕ → Closing → Frame
frame k n c = record { kind = k; left = n; closing = c }

-- the brackets round a function, and round a type with arguments
abbrev pub function_closing : Around → Closing
function_closing Alone = Nothing
function_closing Parameter = Bracket
function_closing Argument = Bracket

abbrev pub applied_closing : Around → Closing
applied_closing Alone = Nothing
applied_closing Parameter = Nothing
applied_closing Argument = Bracket

abbrev pub bracket : Closing → Name
bracket Nothing = []
bracket Bracket = codes "("
bracket TupleEnd = []
bracket RecordEnd = []

-- what is written of a node before its parts
abbrev pub opening_text : (Leaf ℕ → Name) → Around → Node → Name
opening_text name around (node.Made (head.Named m x) n) = if nat_eq n 0 then type_name m x else bracket (applied_closing around) ++ type_name m x
opening_text name around (node.Made head.Function n) = bracket (function_closing around)
opening_text name around (node.Made head.Tuple n) = if nat_eq n 0 then codes "()" else codes "( "
opening_text name around (node.Record n) = if nat_eq n 0 then codes "{}" else codes "{ "
opening_text name around (node.Open x n) = if nat_eq n 0 then name (leaf_of x) else codes "{ " ++ (name (leaf_of x) ++ codes " | ")
opening_text name around (node.Field k) = []

-- the frame of its parts
abbrev pub frame_of : Around → Node → Frame
frame_of around (node.Made (head.Named m x) n) = frame Arguments n (if nat_eq n 0 then Nothing else applied_closing around)
frame_of around (node.Made head.Function n) = frame Parameters n (function_closing around)
frame_of around (node.Made head.Tuple n) = frame Parts n (if nat_eq n 0 then Nothing else TupleEnd)
frame_of around (node.Record n) = frame Fields n (if nat_eq n 0 then Nothing else RecordEnd)
frame_of around (node.Open x n) = frame Fields n (if nat_eq n 0 then Nothing else RecordEnd)
frame_of around (node.Field k) = frame Single 0 Nothing

-- how many parts a node is before
abbrev pub parts_of : Node → ℕ
parts_of (node.Made h n) = n
parts_of (node.Record n) = n
parts_of (node.Open x n) = n
parts_of (node.Field k) = 1

-- a node was written: what was written before it was p, and is q; what was to be written was fs, and is gs
pub record Wrote (name : Leaf ℕ → Name) (n : Node) (p q : Name) (fs gs : List Frame) : Type 0 where
  pub text : (rs : Read) → parts_of n ≤ length rs → wanted fs ≤ length (read_node n rs) → q ++ pending name gs rs ≡ p ++ pending name fs (read_node n rs)
  pub room : (rs : Read) → parts_of n ≤ length rs → wanted fs ≤ length (read_node n rs) → wanted gs ≤ length rs

-- the frames with one more on top, if there is one
abbrev pub with_top : Option Frame → List Frame → List Frame
with_top None fs = fs
with_top (Some f) fs = f ∷ fs

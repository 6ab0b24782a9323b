-- The texts of programs, read character by character: the state after the characters so far, and where one more leads.
-- What no program's text begins with leads to Dead, and everything else to what stands in that text so far.
use Rattle.std.specs.Prelude.{ℕ, zero, suc, ◌+◌, ◌-◌, ◌*◌, ◌^◌, ℤ, pos, negsuc, List, [], ◌∷◌, ◌++◌, Bool, true, false}
use Rattle.std.specs.Prelude.{◌&&◌, ◌||◌, ◌==◌, nat_le, nat_lt, if◌then◌else◌, codes}
use Rattle.std.specs.List.{list_any}
use Rattle.std.specs.Str.{bytes_eq}
use Rattle.js_tree.specs.declared.runtime.TheConstants.{HEAD, TAIL}
use Rattle.js_tree.specs.Tree as js
use Rattle.js_tree.specs.Tree.{Name, Operator, Plus, Minus, Times, StrictEquals, And, Or, Helper, Js, JInt, JBool}
use Rattle.js_tree.specs.Tree.{JText, JVar, JArrow, JBlock, JCall, JBinary, JConditional, JObject, JProperty, JList}
use Rattle.js_tree.specs.Tree.{JHelper, JsList, NoJs, MoreJs, Fields, NoField, MoreField, Stmts, Const, Let, Assign}
use Rattle.js_tree.specs.Tree.{Return, If, While, Continue, Lines, NoLine, MoreLine, Program}
use Rattle.js_tree.specs.Text.{helper_text}
pub use Rattle.js_tree.specs.Postorder.{Items, NoItem, Item, Members, NoMember, Member, Before, NoStatement, ConstThen}
pub use Rattle.js_tree.specs.Postorder.{LetThen, AssignThen, LinesBefore, NoLineYet, LineThen, items_then, members_then}
pub use Rattle.js_tree.specs.Postorder.{statements_then, lines_then}
use Rattle.wire_value.specs.Exact.{is_exact}
use Rattle.js_tree.specs.Subset.{is_upper}
use Rattle.js_tree.specs.NameReader.{Begun, NoName, begin_name, name_step, name_of, Found, Not, Name_is, is_run}
use Rattle.js_tree.specs.NameReader.{is_digit, is_hex_digit, hex_value, greatest}

-- what the object of `_main` has before its incoming ports
pub record Front : Type 0 where
  pub lines : LinesBefore
  pub name : List ℕ
  pub main : Js
  pub flags : Js

-- Where an expression stands, from the inside: the argument of a call; the first in a bracket, or after an operator, a
-- question mark or a colon in it; a field's value; in a list; the argument of a function of the fixed text; in a
-- statement; in a line; in the object of `_main`. Where a block stands: the body of a function; of one called at once;
-- after if and after else; in a loop.
mutual
  pub data Place : Type 0 where
    ArgumentOf : Js → Place → Place
    FirstIn : Place → Place
    RightOf : Operator → Js → Place → Place
    ThenOf : Js → Place → Place
    ElseOf : Js → Js → Place → Place
    FieldIn : Members → List ℕ → Place → Place
    ListIn : Items → Place → Place
    GivenTo : Helper → Items → Place → Place
    ConstIn : Before → Name → Block → Place
    LetIn : Before → Name → Block → Place
    AssignIn : Before → Name → Block → Place
    ReturnIn : Before → Block → Place
    TestIn : Before → Block → Place
    LineIn : LinesBefore → Name → Place
    MainIn : LinesBefore → List ℕ → Place
    FlagsIn : LinesBefore → List ℕ → Js → Place
    PortIn : Front → Members → List ℕ → Place

  pub data Block : Type 0 where
    BodyOf : Name → Place → Block
    CalledIn : Place → Block
    ThenIn : Before → Js → Block → Block
    ElseIn : Before → Js → Stmts → Block → Block
    LoopIn : Before → Block → Block

-- what an object is: an expression, or the incoming ports
pub data ObjectAt : Type 0 where
  Value : Place → ObjectAt
  Ports : Front → ObjectAt

-- what a text is: an expression; a field's name; the name after [; the module's name; the name of an outgoing port
pub data TextAt : Type 0 where
  Literal : Place → TextAt
  Key : Members → ObjectAt → TextAt
  PropertyOf : Js → Place → TextAt
  ModuleIn : LinesBefore → TextAt
  OutIn : Front → Fields → List (List ℕ) → TextAt

-- what a name is: an expression; what a statement declares or assigns; what a line declares
pub data NameAt : Type 0 where
  Variable : Place → NameAt
  ConstAt : Before → Block → NameAt
  LetAt : Before → Block → NameAt
  AssignAt : Before → Block → NameAt
  LineAt : LinesBefore → NameAt

-- Where the reader is: before an expression, and after one; in a name, a number, a negative number (after its -, and
-- after a digit), a text, an escape of one, its digits; in a word; before a name; before a field; before a statement,
-- in the word of one, and after the last of a block; after an = that is part of => or ===; before a line, and a line's
-- name; before an outgoing port, and after one; before characters that are known; at the end. Outs are in reverse
-- order.
pub data State : Type 0 where
  Want : Place → State
  Have : Js → Place → State
  InName : Begun → NameAt → State
  InInt : ℕ → Place → State
  Minus_seen : Place → State
  InNegative : ℕ → Place → State
  InText : List ℕ → TextAt → State
  InEscape : List ℕ → TextAt → State
  InDigits : List ℕ → ℕ → ℕ → TextAt → State
  InWord : List ℕ → Place → State
  WantName : NameAt → State
  WantField : Members → ObjectAt → State
  WantStatement : Before → Block → State
  InKeyword : List ℕ → Before → Block → State
  Ended : Before → Stmts → Block → State
  Equals : Js → Place → State
  WantLine : LinesBefore → State
  WantLineName : LinesBefore → State
  WantOut : Front → Fields → List (List ℕ) → State
  HaveOut : Front → Fields → List ℕ → List (List ℕ) → State
  Known : List ℕ → State → State
  Finished : Program → State
  Dead : State

abbrev pub helpers : List Helper
helpers =
    js.Crash ∷ js.Quotient ∷ js.Remainder ∷ js.Modulo ∷ js.BitAnd ∷ js.BitOr ∷ js.BitXor ∷ js.BitNot ∷ js.ShiftLeft ∷ js.ShiftRight ∷ js.ShiftRightZero
    ∷ js.FromInt ∷ js.Length ∷ js.UnitAt ∷ js.FromUnit ∷ js.Slice ∷ js.Find ∷ js.Same ∷ js.Update ∷ js.ArrayOf ∷ js.Append ∷ js.Pairs ∷ js.Size ∷ js.Equal
    ∷ js.Compare ∷ js.DecodeInt ∷ js.DecodeBool ∷ js.DecodeText ∷ js.DecodeNull ∷ js.DecodeAny ∷ js.DecodeMaybe ∷ js.All ∷ js.DecodeList ∷ js.DecodeTuple
    ∷ js.DecodeRecord ∷ js.EncodeSame ∷ js.EncodeNull ∷ js.EncodeMaybe ∷ js.EncodeList ∷ js.EncodeTuple ∷ js.EncodeRecord ∷ []

-- the words that an expression begins with, each with where it leads
pub data Word : Type 0 where
  TrueWord : Word
  FalseWord : Word
  ListWord : Word
  HelperWord : Helper → Word

abbrev pub word_text : Word → List ℕ
word_text TrueWord = codes "true"
word_text FalseWord = codes "false"
word_text ListWord = codes "_list(["
word_text (HelperWord h) = helper_text h ++ 40 ∷ []

abbrev pub words : List Word
words = TrueWord ∷ FalseWord ∷ ListWord ∷ map_helpers helpers
  where
    map_helpers : List Helper → List Word
    map_helpers [] = []
    map_helpers (h ∷ hs) = HelperWord h ∷ map_helpers hs

abbrev pub begin_statement_words : List (List ℕ)
begin_statement_words = codes "const " ∷ codes "let " ∷ codes "return " ∷ codes "if(" ∷ codes "while(true){" ∷ codes "continue;" ∷ []

-- after such a word
abbrev pub after_word : Word → Place → State
after_word TrueWord k = Have (JBool true) k
after_word FalseWord k = Have (JBool false) k
after_word ListWord k = Want (ListIn NoItem k)
after_word (HelperWord h) k = Want (GivenTo h NoItem k)

-- the word begins so
abbrev pub begins_with : List ℕ → List ℕ → Bool
begins_with w [] = true
begins_with [] (c ∷ cs) = false
begins_with (d ∷ ds) (c ∷ cs) = d == c && begins_with ds cs

abbrev pub find_word : List Word → List ℕ → State → (Word → State) → State
find_word [] cs none found = none
find_word (w ∷ ws) cs none found = if bytes_eq (word_text w) cs then found w else find_word ws cs none found

abbrev pub in_word : List ℕ → Place → State
in_word cs k = find_word words cs (if list_any (λ w. begins_with (word_text w) cs) words then InWord cs k else Dead) (λ w. after_word w k)

abbrev pub in_keyword : List ℕ → Before → Block → State
in_keyword cs before b =
    if bytes_eq cs (codes "const ") then WantName (ConstAt before b)
    else (if bytes_eq cs (codes "let ") then WantName (LetAt before b)
    else (if bytes_eq cs (codes "return ") then Want (ReturnIn before b)
    else (if bytes_eq cs (codes "if(") then Want (TestIn before b)
    else (if bytes_eq cs (codes "while(true){") then WantStatement NoStatement (LoopIn before b)
    else (if bytes_eq cs (codes "continue;") then Ended before Continue b
    else (if list_any (λ w. begins_with w cs) begin_statement_words then InKeyword cs before b else Dead))))))

-- characters that are known, of which the first has been read
abbrev pub known : List ℕ → State → State
known [] s = s
known (c ∷ cs) s = Known (c ∷ cs) s

-- where a block has ended: after its }
abbrev pub close_block : Stmts → Block → State
close_block s (BodyOf p k) = Known (codes ")") (Have (JArrow p s) k)
close_block s (CalledIn k) = Known (codes ")()") (Have (JBlock s) k)
close_block s (ThenIn before c b) = Known (codes "else{") (WantStatement NoStatement (ElseIn before c s b))
close_block s (ElseIn before c t b) = Ended before (If c t s) b
close_block s (LoopIn before b) = Ended before (While s) b

abbrev pub operator_at : ℕ → Js → Place → State
operator_at c e k =
    if c == 43 then Want (RightOf Plus e k)
    else (if c == 45 then Want (RightOf Minus e k)
    else (if c == 42 then Want (RightOf Times e k)
    else (if c == 61 then Equals e k
    else (if c == 38 then Known (codes "&") (Want (RightOf And e k))
    else (if c == 124 then Known (codes "|") (Want (RightOf Or e k))
    else (if c == 63 then Want (ThenOf e k) else Dead))))))

abbrev pub program_of : Front → Fields → List (List ℕ) → Program
program_of f ins outs = record { lines = lines_then f.lines NoLine; main = f.main; name = f.name; flags = f.flags; ins = ins; outs = outs }

abbrev pub on_bracket : ℕ → State → State
on_bracket c s = if c == 41 then s else Dead

-- after an expression that neither a call nor a property follows
abbrev pub close : Place → Js → ℕ → State
close (ArgumentOf f k) e c = on_bracket c (Have (JCall f e) k)
close (FirstIn k) e c = operator_at c e k
close (RightOf op a k) e c = on_bracket c (Have (JBinary op a e) k)
close (ThenOf t k) e c = if c == 58 then Want (ElseOf t e k) else Dead
close (ElseOf t a k) e c = on_bracket c (Have (JConditional t a e) k)
close (FieldIn before key k) e c =
    if c == 44 then WantField (Member before key e) (Value k) else (if c == 125 then Have (JObject (members_then before (MoreField key e NoField))) k else Dead)
close (ListIn before k) e c =
    if c == 44 then Want (ListIn (Item before e) k) else (if c == 93 then Known (codes ")") (Have (JList (items_then before (MoreJs e NoJs))) k) else Dead)
close (GivenTo h before k) e c =
    if c == 44 then Want (GivenTo h (Item before e) k) else on_bracket c (Have (JHelper h (items_then before (MoreJs e NoJs))) k)
close (ConstIn before x b) e c = if c == 59 then WantStatement (ConstThen before x e) b else Dead
close (LetIn before x b) e c = if c == 59 then WantStatement (LetThen before x e) b else Dead
close (AssignIn before x b) e c = if c == 59 then WantStatement (AssignThen before x e) b else Dead
close (ReturnIn before b) e c = if c == 59 then Ended before (Return e) b else Dead
close (TestIn before b) e c = if c == 41 then Known (codes "{") (WantStatement NoStatement (ThenIn before e b)) else Dead
close (LineIn before x) e c = if c == 59 then Known (codes "\n") (WantLine (LineThen before x e)) else Dead
close (MainIn before name) e c = if c == 44 then Known (codes "\"flags\":") (Want (FlagsIn before name e)) else Dead
close (FlagsIn before name main) e c =
    if c == 44 then Known (codes "\"ins\":{") (WantField NoMember (Ports (record { lines = before; name = name; main = main; flags = e }))) else Dead
close (PortIn f before key) e c =
    if c == 44 then WantField (Member before key e) (Ports f)
    else (if c == 125 then Known (codes ",\"outs\":{") (WantOut f (members_then before (MoreField key e NoField)) []) else Dead)

abbrev pub have : Js → Place → ℕ → State
have e k c = if c == 40 then Want (ArgumentOf e k) else (if c == 91 then Known (codes "\"") (InText [] (PropertyOf e k)) else close k e c)

-- after (( : the ) of a function without parameter
abbrev pub no_parameter : Place → ℕ → State
no_parameter (FirstIn k) c = if c == 41 then Known (codes "=>{") (WantStatement NoStatement (CalledIn k)) else Dead
no_parameter _ c = Dead

-- what may stand where an expression is wanted besides one: the end of an empty list, the - of a negative number, and
-- that )
abbrev pub no_expression : Place → ℕ → State
no_expression (ListIn NoItem k) c = if c == 93 then Known (codes ")") (Have (JList NoJs) k) else Dead
no_expression (GivenTo h NoItem k) c = on_bracket c (Have (JHelper h NoJs) k)
no_expression (FirstIn k) c = if c == 45 then Minus_seen k else no_parameter k c
no_expression _ c = Dead

abbrev pub name_at : Begun → NameAt → State
name_at NoName a = Dead
name_at n a = InName n a

abbrev pub int_at : ℕ → Place → State
int_at n k = if is_exact (pos n) then InInt n k else Dead

abbrev pub minus : ℕ → ℤ
minus zero = pos zero
minus (suc n) = negsuc n

abbrev pub negative_at : ℕ → Place → State
negative_at n k = if is_exact (minus n) && nat_lt 0 n then InNegative n k else Dead

abbrev pub want : Place → ℕ → State
want k c =
    if c == 36 || is_upper c then name_at (begin_name c) (Variable k)
    else (if is_digit c then int_at (c - 48) k
    else (if c == 34 then InText [] (Literal k)
    else (if c == 40 then Want (FirstIn k)
    else (if c == 123 then WantField NoMember (Value k)
    else (if c == 95 || (c == 116 || c == 102) then in_word (c ∷ []) k
    else no_expression k c)))))

-- after a name, at the character that ends it
abbrev pub after_name : Name → NameAt → ℕ → State
after_name x (Variable k) c = have (JVar x) k c
after_name x (ConstAt before b) c = if c == 61 then Want (ConstIn before x b) else Dead
after_name x (LetAt before b) c = if c == 61 then Want (LetIn before x b) else Dead
after_name x (AssignAt before b) c = if c == 61 then Want (AssignIn before x b) else Dead
after_name x (LineAt before) c = if c == 61 then Want (LineIn before x) else Dead

abbrev pub end_name : Found → NameAt → ℕ → State
end_name Not a c = Dead
end_name (Name_is x) a c = after_name x a c

abbrev pub in_name : Begun → NameAt → ℕ → State
in_name n a c = if is_run c then name_at (name_step n c) a else end_name (name_of n) a c

abbrev pub in_int : ℕ → Place → ℕ → State
in_int n k c = if is_digit c then (if n == 0 then Dead else int_at (n * 10 + (c - 48)) k) else have (JInt (pos n)) k c

abbrev pub in_negative : ℕ → Place → ℕ → State
in_negative n k c = if is_digit c then negative_at (n * 10 + (c - 48)) k else on_bracket c (Have (JInt (minus n)) k)

-- after the closing quote of a text
abbrev pub after_text : List ℕ → TextAt → State
after_text us (Literal k) = Have (JText us) k
after_text us (Key before (Value k)) = Known (codes ":") (Want (FieldIn before us k))
after_text us (Key before (Ports f)) = Known (codes ":") (Want (PortIn f before us))
after_text us (PropertyOf e k) = Known (codes "]") (Have (JProperty e us) k)
after_text us (ModuleIn before) = Known (codes ",\"program\":") (Want (MainIn before us))
after_text us (OutIn f ins outs) = Known (codes ":0") (HaveOut f ins us outs)

-- a character that stands for itself in a text
abbrev pub is_plain : ℕ → Bool
is_plain c = nat_le 32 c && nat_le c 126

abbrev pub in_text : List ℕ → TextAt → ℕ → State
in_text us a c =
    if c == 34 then after_text us a else (if c == 92 then InEscape us a else (if is_plain c then InText (us ++ c ∷ []) a else Dead))

abbrev pub in_escape : List ℕ → TextAt → ℕ → State
in_escape us a c =
    if c == 34 || c == 92 then InText (us ++ c ∷ []) a else (if c == 117 then InDigits us 3 0 a else Dead)

-- digits of base 16; the unit has to be one that does not stand for itself
abbrev pub next_digit : List ℕ → ℕ → ℕ → TextAt → State
next_digit us zero a t = if nat_lt a 32 || nat_lt 126 a then InText (us ++ a ∷ []) t else Dead
next_digit us (suc n) a t = if nat_lt (a * 16 ^ suc n) 32 || nat_lt 126 (greatest (suc n) a) then InDigits us n a t else Dead

abbrev pub want_name : NameAt → ℕ → State
want_name a c = name_at (begin_name c) a

abbrev pub close_fields : Members → ObjectAt → State
close_fields NoMember (Value k) = Have (JObject NoField) k
close_fields NoMember (Ports f) = Known (codes ",\"outs\":{") (WantOut f NoField [])
close_fields _ _ = Dead

abbrev pub want_field : Members → ObjectAt → ℕ → State
want_field before a c = if c == 34 then InText [] (Key before a) else (if c == 125 then close_fields before a else Dead)

abbrev pub want_statement : Before → Block → ℕ → State
want_statement before b c = if c == 36 || is_upper c then name_at (begin_name c) (AssignAt before b) else in_keyword (c ∷ []) before b

-- after an = in a bracket: of => where its part before is a name, or of ===
abbrev pub equals : Js → Place → ℕ → State
equals (JVar p) k c =
    if c == 62 then Known (codes "{") (WantStatement NoStatement (BodyOf p k)) else (if c == 61 then Known (codes "=") (Want (RightOf StrictEquals (JVar p) k)) else Dead)
equals e k c = if c == 61 then Known (codes "=") (Want (RightOf StrictEquals e k)) else Dead

abbrev pub want_line_name : LinesBefore → ℕ → State
want_line_name before c =
    if c == 95 then Known (codes "main={\"name\":\"") (InText [] (ModuleIn before)) else name_at (begin_name c) (LineAt before)

abbrev pub end_outs : Front → Fields → List (List ℕ) → State
end_outs f ins outs = Known (codes "};\n" ++ TAIL.now) (Finished (program_of f ins outs))

abbrev pub reversed_onto : List (List ℕ) → List (List ℕ) → List (List ℕ)
reversed_onto [] ys = ys
reversed_onto (x ∷ xs) ys = reversed_onto xs (x ∷ ys)

abbrev pub want_out : Front → Fields → List (List ℕ) → ℕ → State
want_out f ins [] c = if c == 34 then InText [] (OutIn f ins []) else (if c == 125 then end_outs f ins [] else Dead)
want_out f ins (o ∷ outs) c = if c == 34 then InText [] (OutIn f ins (o ∷ outs)) else Dead

abbrev pub have_out : Front → Fields → List ℕ → List (List ℕ) → ℕ → State
have_out f ins o outs c = if c == 44 then WantOut f ins (o ∷ outs) else (if c == 125 then end_outs f ins (reversed_onto (o ∷ outs) []) else Dead)

-- where one character leads
abbrev pub step : State → ℕ → State
step (Want k) c = want k c
step (Have e k) c = have e k c
step (InName n a) c = in_name n a c
step (InInt n k) c = in_int n k c
step (Minus_seen k) c = if is_digit c then negative_at (c - 48) k else Dead
step (InNegative n k) c = in_negative n k c
step (InText us a) c = in_text us a c
step (InEscape us a) c = in_escape us a c
step (InDigits us n v a) c = if is_hex_digit c then next_digit us n (v * 16 + hex_value c) a else Dead
step (InWord cs k) c = in_word (cs ++ c ∷ []) k
step (WantName a) c = want_name a c
step (WantField before a) c = want_field before a c
step (WantStatement before b) c = want_statement before b c
step (InKeyword cs before b) c = in_keyword (cs ++ c ∷ []) before b
step (Ended before s b) c = if c == 125 then close_block (statements_then before s) b else Dead
step (Equals e k) c = equals e k c
step (WantLine before) c = if c == 99 then Known (codes "onst ") (WantLineName before) else Dead
step (WantLineName before) c = want_line_name before c
step (WantOut f ins outs) c = want_out f ins outs c
step (HaveOut f ins o outs) c = have_out f ins o outs c
step (Known [] s) c = Dead
step (Known (d ∷ ds) s) c = if c == d then known ds s else Dead
step (Finished p) c = Dead
step Dead c = Dead

-- where a text leads
abbrev pub run : State → List ℕ → State
run s [] = s
run s (c ∷ cs) = run (step s c) cs

abbrev pub start : State
start = Known HEAD.now (WantLine NoLineYet)

-- some text begins so
abbrev pub is_live : State → Bool
is_live Dead = false
is_live _ = true

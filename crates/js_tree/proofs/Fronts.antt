-- What has been read where a state is reached, as text, and that it is spelled.
use Rattle.std.proofs.Common.{◌≡◌, ℕ, suc, ◌-◌, ◌*◌, ◌^◌, pos, List, [], ◌∷◌, ◌++◌, Bool, true, false, ◌&&◌, ◌||◌}
use Rattle.std.proofs.Common.{nat_le, nat_lt, codes, decimal}
use Rattle.std.specs.List.{list_all, list_any}
use Rattle.js_tree.specs.declared.runtime.TheConstants.{HEAD}
use Rattle.js_tree.specs.Tree.{Js, Fields}
use Rattle.js_tree.specs.Text.{js_text, fields_text, stmts_text, name_text, text_text, units_text, operator_text}
use Rattle.js_tree.specs.Text.{helper_text, JsText}
use Rattle.wire_value.specs.Exact.{is_exact}
use Rattle.js_tree.specs.Subset.{is_unit, is_name, is_spelled, fields_spelled, are_spelled, is_program_spelled}
use Rattle.js_tree.specs.NameReader.{is_begun, greatest}
use Rattle.js_tree.proofs.NameTexts.{begun_text, begun_fits, digits_text}
use Rattle.js_tree.specs.Automaton.{Items, NoItem, Item, Members, NoMember, Member, Before, NoStatement, ConstThen}
use Rattle.js_tree.specs.Automaton.{LetThen, AssignThen, LinesBefore, NoLineYet, LineThen, Front, Place, ArgumentOf}
use Rattle.js_tree.specs.Automaton.{FirstIn, RightOf, ThenOf, ElseOf, FieldIn, ListIn, GivenTo, ConstIn, LetIn}
use Rattle.js_tree.specs.Automaton.{AssignIn, ReturnIn, TestIn, LineIn, MainIn, FlagsIn, PortIn, Block, BodyOf}
use Rattle.js_tree.specs.Automaton.{CalledIn, ThenIn, ElseIn, LoopIn, ObjectAt, Value, Ports, TextAt, Literal, Key}
use Rattle.js_tree.specs.Automaton.{PropertyOf, ModuleIn, OutIn, NameAt, Variable, ConstAt, LetAt, AssignAt, LineAt}
use Rattle.js_tree.specs.Automaton.{State, Want, Have, InName, InInt, Minus_seen, InNegative, InText, InEscape}
use Rattle.js_tree.specs.Automaton.{InDigits, InWord, WantName, WantField, WantStatement, InKeyword, Ended, Equals}
use Rattle.js_tree.specs.Automaton.{WantLine, WantLineName, WantOut, HaveOut, Known, Finished, Dead, minus, words}
use Rattle.js_tree.specs.Automaton.{word_text, begins_with, begin_statement_words, is_live}

-- each part is ended by its comma
abbrev pub items_text : Items → List ℕ
items_text NoItem = []
items_text (Item before e) = items_text before ++ js_text e ++ codes ","

abbrev pub members_text : Members → List ℕ
members_text NoMember = []
members_text (Member before k e) = members_text before ++ text_text k ++ codes ":" ++ js_text e ++ codes ","

abbrev pub before_text : Before → List ℕ
before_text NoStatement = []
before_text (ConstThen before x e) = before_text before ++ codes "const " ++ name_text x ++ codes "=" ++ js_text e ++ codes ";"
before_text (LetThen before x e) = before_text before ++ codes "let " ++ name_text x ++ codes "=" ++ js_text e ++ codes ";"
before_text (AssignThen before x e) = before_text before ++ name_text x ++ codes "=" ++ js_text e ++ codes ";"

abbrev pub lines_before_text : LinesBefore → List ℕ
lines_before_text NoLineYet = HEAD.now
lines_before_text (LineThen before x e) = lines_before_text before ++ codes "const " ++ name_text x ++ codes "=" ++ js_text e ++ codes ";\n"

-- the line of `_main` up to the value of `program`, of `flags`, of `ins`, and of `outs`
abbrev pub main_front : LinesBefore → List ℕ → List ℕ
main_front before name = lines_before_text before ++ codes "const _main={\"name\":" ++ text_text name ++ codes ",\"program\":"

abbrev pub flags_front : LinesBefore → List ℕ → Js → List ℕ
flags_front before name main = main_front before name ++ js_text main ++ codes ",\"flags\":"

abbrev pub ports_front : Front → List ℕ
ports_front f = flags_front f.lines f.name f.main ++ js_text f.flags ++ codes ",\"ins\":{"

abbrev pub outs_front : Front → Fields → List ℕ
outs_front f ins = ports_front f ++ fields_text ins ++ codes "},\"outs\":{"

-- outgoing ports, the last first, joined by commas
abbrev pub outs_text : List (List ℕ) → List ℕ
outs_text [] = []
outs_text (o ∷ []) = text_text o ++ codes ":0"
outs_text (o ∷ (q ∷ outs)) = outs_text (q ∷ outs) ++ codes "," ++ text_text o ++ codes ":0"

-- each is followed by a comma
abbrev pub outs_before : List (List ℕ) → List ℕ
outs_before [] = []
outs_before (o ∷ outs) = outs_text (o ∷ outs) ++ codes ","

abbrev mutual
  pub place_text : Place → List ℕ
  place_text (ArgumentOf f k) = place_text k ++ js_text f ++ codes "("
  place_text (FirstIn k) = place_text k ++ codes "("
  place_text (RightOf op a k) = place_text k ++ codes "(" ++ js_text a ++ operator_text op
  place_text (ThenOf c k) = place_text k ++ codes "(" ++ js_text c ++ codes "?"
  place_text (ElseOf c a k) = place_text k ++ codes "(" ++ js_text c ++ codes "?" ++ js_text a ++ codes ":"
  place_text (FieldIn before key k) = place_text k ++ codes "{" ++ members_text before ++ text_text key ++ codes ":"
  place_text (ListIn before k) = place_text k ++ codes "_list([" ++ items_text before
  place_text (GivenTo h before k) = place_text k ++ helper_text h ++ codes "(" ++ items_text before
  place_text (ConstIn before x b) = block_text b ++ before_text before ++ codes "const " ++ name_text x ++ codes "="
  place_text (LetIn before x b) = block_text b ++ before_text before ++ codes "let " ++ name_text x ++ codes "="
  place_text (AssignIn before x b) = block_text b ++ before_text before ++ name_text x ++ codes "="
  place_text (ReturnIn before b) = block_text b ++ before_text before ++ codes "return "
  place_text (TestIn before b) = block_text b ++ before_text before ++ codes "if("
  place_text (LineIn before x) = lines_before_text before ++ codes "const " ++ name_text x ++ codes "="
  place_text (MainIn before name) = main_front before name
  place_text (FlagsIn before name main) = flags_front before name main
  place_text (PortIn f before key) = ports_front f ++ members_text before ++ text_text key ++ codes ":"

  pub block_text : Block → List ℕ
  block_text (BodyOf p k) = place_text k ++ codes "(" ++ name_text p ++ codes "=>{"
  block_text (CalledIn k) = place_text k ++ codes "(()=>{"
  block_text (ThenIn before c b) = block_text b ++ before_text before ++ codes "if(" ++ js_text c ++ codes "){"
  block_text (ElseIn before c s b) = block_text b ++ before_text before ++ codes "if(" ++ js_text c ++ codes "){" ++ stmts_text s ++ codes "}else{"
  block_text (LoopIn before b) = block_text b ++ before_text before ++ codes "while(true){"

abbrev pub object_text : ObjectAt → List ℕ
object_text (Value k) = place_text k ++ codes "{"
object_text (Ports f) = ports_front f

abbrev pub text_front : TextAt → List ℕ
text_front (Literal k) = place_text k
text_front (Key before a) = object_text a ++ members_text before
text_front (PropertyOf e k) = place_text k ++ js_text e ++ codes "["
text_front (ModuleIn before) = lines_before_text before ++ codes "const _main={\"name\":"
text_front (OutIn f ins outs) = outs_front f ins ++ outs_before outs

abbrev pub name_front : NameAt → List ℕ
name_front (Variable k) = place_text k
name_front (ConstAt before b) = block_text b ++ before_text before ++ codes "const "
name_front (LetAt before b) = block_text b ++ before_text before ++ codes "let "
name_front (AssignAt before b) = block_text b ++ before_text before
name_front (LineAt before) = lines_before_text before ++ codes "const "

-- what has been read where the state is reached
abbrev pub IsFront : State → List ℕ → Type 0
IsFront (Want k) f = f ≡ place_text k
IsFront (Have e k) f = f ≡ place_text k ++ js_text e
IsFront (InName n a) f = f ≡ name_front a ++ begun_text n
IsFront (InInt n k) f = f ≡ place_text k ++ decimal n
IsFront (Minus_seen k) f = f ≡ place_text k ++ codes "(-"
IsFront (InNegative n k) f = f ≡ place_text k ++ codes "(-" ++ decimal n
IsFront (InText us a) f = f ≡ text_front a ++ 34 ∷ units_text us
IsFront (InEscape us a) f = f ≡ text_front a ++ 34 ∷ (units_text us ++ 92 ∷ [])
IsFront (InDigits us n v a) f = f ≡ text_front a ++ 34 ∷ (units_text us ++ codes "\\u" ++ digits_text n v)
IsFront (InWord cs k) f = f ≡ place_text k ++ cs
IsFront (WantName a) f = f ≡ name_front a
IsFront (WantField before a) f = f ≡ object_text a ++ members_text before
IsFront (WantStatement before b) f = f ≡ block_text b ++ before_text before
IsFront (InKeyword cs before b) f = f ≡ block_text b ++ before_text before ++ cs
IsFront (Ended before s b) f = f ≡ block_text b ++ before_text before ++ stmts_text s
IsFront (Equals e k) f = f ≡ place_text k ++ codes "(" ++ js_text e ++ codes "="
IsFront (WantLine before) f = f ≡ lines_before_text before
IsFront (WantLineName before) f = f ≡ lines_before_text before ++ codes "const "
IsFront (WantOut g ins outs) f = f ≡ outs_front g ins ++ outs_before outs
IsFront (HaveOut g ins o outs) f = f ≡ outs_front g ins ++ outs_text (o ∷ outs)
IsFront (Known cs s) f = IsFront s (f ++ cs)
IsFront (Finished p) f = JsText p f
IsFront Dead f = Unit

-- what has been read can be spelled
abbrev pub items_fit : Items → Bool
items_fit NoItem = true
items_fit (Item before e) = items_fit before && is_spelled e

abbrev pub members_fit : Members → Bool
members_fit NoMember = true
members_fit (Member before k e) = members_fit before && (list_all is_unit k && is_spelled e)

abbrev pub before_fits : Before → Bool
before_fits NoStatement = true
before_fits (ConstThen before x e) = before_fits before && (is_name x && is_spelled e)
before_fits (LetThen before x e) = before_fits before && (is_name x && is_spelled e)
before_fits (AssignThen before x e) = before_fits before && (is_name x && is_spelled e)

abbrev pub lines_fit : LinesBefore → Bool
lines_fit NoLineYet = true
lines_fit (LineThen before x e) = lines_fit before && (is_name x && is_spelled e)

abbrev pub front_fits : Front → Bool
front_fits f = lines_fit f.lines && (list_all is_unit f.name && (is_spelled f.main && is_spelled f.flags))

abbrev pub outs_fit : List (List ℕ) → Bool
outs_fit outs = list_all (λ o. list_all is_unit o) outs

abbrev mutual
  pub place_fits : Place → Bool
  place_fits (ArgumentOf f k) = place_fits k && is_spelled f
  place_fits (FirstIn k) = place_fits k
  place_fits (RightOf op a k) = place_fits k && is_spelled a
  place_fits (ThenOf c k) = place_fits k && is_spelled c
  place_fits (ElseOf c a k) = place_fits k && (is_spelled c && is_spelled a)
  place_fits (FieldIn before key k) = place_fits k && (members_fit before && list_all is_unit key)
  place_fits (ListIn before k) = place_fits k && items_fit before
  place_fits (GivenTo h before k) = place_fits k && items_fit before
  place_fits (ConstIn before x b) = block_fits b && (before_fits before && is_name x)
  place_fits (LetIn before x b) = block_fits b && (before_fits before && is_name x)
  place_fits (AssignIn before x b) = block_fits b && (before_fits before && is_name x)
  place_fits (ReturnIn before b) = block_fits b && before_fits before
  place_fits (TestIn before b) = block_fits b && before_fits before
  place_fits (LineIn before x) = lines_fit before && is_name x
  place_fits (MainIn before name) = lines_fit before && list_all is_unit name
  place_fits (FlagsIn before name main) = lines_fit before && (list_all is_unit name && is_spelled main)
  place_fits (PortIn f before key) = front_fits f && (members_fit before && list_all is_unit key)

  pub block_fits : Block → Bool
  block_fits (BodyOf p k) = place_fits k && is_name p
  block_fits (CalledIn k) = place_fits k
  block_fits (ThenIn before c b) = block_fits b && (before_fits before && is_spelled c)
  block_fits (ElseIn before c s b) = block_fits b && (before_fits before && (is_spelled c && are_spelled s))
  block_fits (LoopIn before b) = block_fits b && before_fits before

abbrev pub object_fits : ObjectAt → Bool
object_fits (Value k) = place_fits k
object_fits (Ports f) = front_fits f

abbrev pub text_fits : TextAt → Bool
text_fits (Literal k) = place_fits k
text_fits (Key before a) = object_fits a && members_fit before
text_fits (PropertyOf e k) = place_fits k && is_spelled e
text_fits (ModuleIn before) = lines_fit before
text_fits (OutIn f ins outs) = front_fits f && (fields_spelled ins && outs_fit outs)

abbrev pub name_at_fits : NameAt → Bool
name_at_fits (Variable k) = place_fits k
name_at_fits (ConstAt before b) = block_fits b && before_fits before
name_at_fits (LetAt before b) = block_fits b && before_fits before
name_at_fits (AssignAt before b) = block_fits b && before_fits before
name_at_fits (LineAt before) = lines_fit before

-- so many digits of base 16 of four are to come after the next, and a unit can come of them that does not stand for
-- itself
abbrev pub escape_fits : ℕ → ℕ → Bool
escape_fits n a = nat_le n 3 && (nat_lt a (16 ^ (3 - n)) && (nat_lt (a * 16 ^ suc n) 32 || nat_lt 126 (greatest (suc n) a)))

abbrev pub state_fits : State → Bool
state_fits (Want k) = place_fits k
state_fits (Have e k) = place_fits k && is_spelled e
state_fits (InName n a) = name_at_fits a && (is_begun n && begun_fits n)
state_fits (InInt n k) = place_fits k && is_exact (pos n)
state_fits (Minus_seen k) = place_fits k
state_fits (InNegative n k) = place_fits k && (is_exact (minus n) && nat_lt 0 n)
state_fits (InText us a) = text_fits a && list_all is_unit us
state_fits (InEscape us a) = text_fits a && list_all is_unit us
state_fits (InDigits us n v a) = text_fits a && (list_all is_unit us && escape_fits n v)
state_fits (InWord cs k) = place_fits k && list_any (λ w. begins_with (word_text w) cs) words
state_fits (WantName a) = name_at_fits a
state_fits (WantField before a) = object_fits a && members_fit before
state_fits (WantStatement before b) = block_fits b && before_fits before
state_fits (InKeyword cs before b) = block_fits b && (before_fits before && list_any (λ w. begins_with w cs) begin_statement_words)
state_fits (Ended before s b) = block_fits b && (before_fits before && are_spelled s)
state_fits (Equals e k) = place_fits k && is_spelled e
state_fits (WantLine before) = lines_fit before
state_fits (WantLineName before) = lines_fit before
state_fits (WantOut f ins outs) = front_fits f && (fields_spelled ins && outs_fit outs)
state_fits (HaveOut f ins o outs) = front_fits f && (fields_spelled ins && outs_fit (o ∷ outs))
state_fits (Known cs s) = is_live s && state_fits s
state_fits (Finished p) = is_program_spelled p
state_fits Dead = true

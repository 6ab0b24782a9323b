-- The text of an expression, of statements and of a program is read to its end, as that.
use Rattle.std.proofs.Common.{◌≡◌, ℕ, List, [], ◌∷◌, ◌++◌, true, false, not, nat_eq, refl, ap, sym, ◌∙◌, arith, codes}
use Rattle.std.proofs.Common.{append_assoc, append-nil}
use Rattle.std.proofs.lemmas.Bool.Decides.{nat_tests}
use Rattle.std.specs.List.{list_all}
use Rattle.js_tree.specs.declared.runtime.TheConstants.{HEAD, TAIL}
use Rattle.js_tree.specs.Tree as js
use Rattle.js_tree.specs.Tree.{Name, Operator, Plus, Minus, Times, StrictEquals, And, Or, Helper, Js, JInt, JBool}
use Rattle.js_tree.specs.Tree.{JText, JVar, JArrow, JBlock, JCall, JBinary, JConditional, JObject, JProperty, JList}
use Rattle.js_tree.specs.Tree.{JHelper, JsList, NoJs, MoreJs, Fields, NoField, MoreField, Stmts, Const, Let, Assign}
use Rattle.js_tree.specs.Tree.{Return, If, While, Continue, Lines, NoLine, MoreLine, Program}
use Rattle.js_tree.specs.Text.{js_text, list_text, more_text, fields_text, more_fields_text, stmts_text, name_text}
use Rattle.js_tree.specs.Text.{units_text, operator_text, helper_text, lines_text, outs_fields, main_text, JsText}
use Rattle.js_tree.specs.Subset.{is_unit, is_name, is_spelled, list_spelled, fields_spelled, are_spelled, lines_spelled}
use Rattle.js_tree.specs.Subset.{is_program_spelled}
use Rattle.js_tree.specs.NameReader.{is_run}
use Rattle.js_tree.proofs.NameFronts.{and_true}
use Rattle.js_tree.specs.Automaton.{Items, NoItem, Item, Members, NoMember, Member, Before, NoStatement, ConstThen}
use Rattle.js_tree.specs.Automaton.{LetThen, AssignThen, LinesBefore, NoLineYet, LineThen, items_then, members_then}
use Rattle.js_tree.specs.Automaton.{statements_then, lines_then, Front, Place, ArgumentOf, FirstIn, RightOf, ThenOf}
use Rattle.js_tree.specs.Automaton.{ElseOf, FieldIn, ListIn, GivenTo, ConstIn, LetIn, AssignIn, ReturnIn, TestIn}
use Rattle.js_tree.specs.Automaton.{LineIn, MainIn, FlagsIn, PortIn, Block, BodyOf, CalledIn, ThenIn, ElseIn, LoopIn}
use Rattle.js_tree.specs.Automaton.{Value, Ports, Literal, Key, PropertyOf, ModuleIn, OutIn, Variable, ConstAt, LetAt}
use Rattle.js_tree.specs.Automaton.{AssignAt, LineAt, State, Want, Have, WantName, WantField, WantStatement, WantLine}
use Rattle.js_tree.specs.Automaton.{WantLineName, WantOut, HaveOut, Known, Finished, known, close_block, program_of}
use Rattle.js_tree.specs.Automaton.{reversed_onto, after_text, step, run, start}
use Rattle.js_tree.proofs.Steps.{zero_text, main_parts}
use Rattle.js_tree.proofs.StepFits.{thirds}
use Rattle.js_tree.proofs.Complete.{stops, along, lead, read_int, read_text, read_name, BeginsName}

value_begins : (k : Place) → BeginsName (Want k) (Variable k)
value_begins k c h = rw h refl

statement_begins : (before : Before) (b : Block) → BeginsName (WantStatement before b) (AssignAt before b)
statement_begins before b c h = rw h refl

line_begins : (before : LinesBefore) → BeginsName (WantLineName before) (LineAt before)
line_begins before c h = let n : nat_eq c 95 ≡ false = grind (arith, nat_tests) in rw n refl

read_helper : (h : Helper) (k : Place) (rest : List ℕ) → run (Want k) (helper_text h ++ 40 ∷ rest) ≡ run (Want (GivenTo h NoItem k)) rest
read_helper js.Crash k rest = refl
read_helper h k rest = refl

-- what follows a part of a list ends a word
stops_items : (es : JsList) (c : ℕ) (rest : List ℕ) → not (is_run c) ≡ true → stops (more_text es ++ c ∷ rest) ≡ true
stops_items NoJs c rest h = h
stops_items (MoreJs e es) c rest h = refl

stops_fields : (fs : Fields) (rest : List ℕ) → stops (more_fields_text fs ++ 125 ∷ rest) ≡ true
stops_fields NoField rest = refl
stops_fields (MoreField k e fs) rest = refl

-- texts, part by part
arrow_parts : (p s rest : List ℕ) → (codes "(" ++ p ++ codes "=>{" ++ s ++ codes "})") ++ rest ≡ 40 ∷ (p ++ 61 ∷ 62 ∷ 123 ∷ (s ++ 125 ∷ 41 ∷ rest))
arrow_parts p s rest = simp append_assoc

block_parts : (s rest : List ℕ) → (codes "(()=>{" ++ s ++ codes "})()") ++ rest ≡ 40 ∷ 40 ∷ 41 ∷ 61 ∷ 62 ∷ 123 ∷ (s ++ 125 ∷ 41 ∷ 40 ∷ 41 ∷ rest)
block_parts s rest = simp append_assoc

call_parts : (f a rest : List ℕ) → (f ++ codes "(" ++ a ++ codes ")") ++ rest ≡ f ++ 40 ∷ (a ++ 41 ∷ rest)
call_parts f a rest = simp append_assoc

binary_parts : (a op b rest : List ℕ) → (codes "(" ++ a ++ op ++ b ++ codes ")") ++ rest ≡ 40 ∷ (a ++ (op ++ (b ++ 41 ∷ rest)))
binary_parts a op b rest = simp append_assoc

conditional_parts : (c a b rest : List ℕ) → (codes "(" ++ c ++ codes "?" ++ a ++ codes ":" ++ b ++ codes ")") ++ rest ≡ 40 ∷ (c ++ 63 ∷ (a ++ 58 ∷ (b ++ 41 ∷ rest)))
conditional_parts c a b rest = simp append_assoc

object_parts : (fs rest : List ℕ) → (codes "{" ++ fs ++ codes "}") ++ rest ≡ 123 ∷ (fs ++ 125 ∷ rest)
object_parts fs rest = simp append_assoc

property_parts : (e us rest : List ℕ) → (e ++ codes "[" ++ 34 ∷ (us ++ 34 ∷ []) ++ codes "]") ++ rest ≡ e ++ 91 ∷ 34 ∷ (us ++ 34 ∷ 93 ∷ rest)
property_parts e us rest = simp append_assoc

list_parts : (es rest : List ℕ) → (codes "_list([" ++ es ++ codes "])") ++ rest ≡ codes "_list([" ++ (es ++ 93 ∷ 41 ∷ rest)
list_parts es rest = simp append_assoc

helper_parts : (h es rest : List ℕ) → (h ++ codes "(" ++ es ++ codes ")") ++ rest ≡ h ++ 40 ∷ (es ++ 41 ∷ rest)
helper_parts h es rest = simp append_assoc

next_parts : (e more rest : List ℕ) → (codes "," ++ e ++ more) ++ rest ≡ 44 ∷ (e ++ (more ++ rest))
next_parts e more rest = simp append_assoc

field_parts : (us e more rest : List ℕ) → (34 ∷ (us ++ 34 ∷ []) ++ codes ":" ++ e ++ more) ++ rest ≡ 34 ∷ (us ++ 34 ∷ 58 ∷ (e ++ (more ++ rest)))
field_parts us e more rest = simp append_assoc

next_field_parts : (us e more rest : List ℕ) → (codes "," ++ 34 ∷ (us ++ 34 ∷ []) ++ codes ":" ++ e ++ more) ++ rest ≡ 44 ∷ 34 ∷ (us ++ 34 ∷ 58 ∷ (e ++ (more ++ rest)))
next_field_parts us e more rest = simp append_assoc

text_parts : (us rest : List ℕ) → 34 ∷ (us ++ 34 ∷ []) ++ rest ≡ 34 ∷ (us ++ 34 ∷ rest)
text_parts us rest = simp append_assoc

const_parts : (w x e s rest : List ℕ) → (w ++ x ++ codes "=" ++ e ++ codes ";" ++ s) ++ rest ≡ w ++ (x ++ 61 ∷ (e ++ 59 ∷ (s ++ rest)))
const_parts w x e s rest = simp append_assoc

assign_parts : (x e s rest : List ℕ) → (x ++ codes "=" ++ e ++ codes ";" ++ s) ++ rest ≡ x ++ 61 ∷ (e ++ 59 ∷ (s ++ rest))
assign_parts x e s rest = simp append_assoc

return_parts : (e rest : List ℕ) → (codes "return " ++ e ++ codes ";") ++ rest ≡ codes "return " ++ (e ++ 59 ∷ rest)
return_parts e rest = simp append_assoc

if_parts : (c s t rest : List ℕ) → (codes "if(" ++ c ++ codes "){" ++ s ++ codes "}else{" ++ t ++ codes "}") ++ rest ≡ codes "if(" ++ (c ++ 41 ∷ 123 ∷ (s ++ 125 ∷ (codes "else{" ++ (t ++ 125 ∷ rest))))
if_parts c s t rest = simp append_assoc

while_parts : (s rest : List ℕ) → (codes "while(true){" ++ s ++ codes "}") ++ rest ≡ codes "while(true){" ++ (s ++ 125 ∷ rest)
while_parts s rest = simp append_assoc

-- an operator after the first part of a bracket
read_operator : (op : Operator) (a : Js) (k : Place) (rest : List ℕ) → run (Have a (FirstIn k)) (operator_text op ++ rest) ≡ run (Want (RightOf op a k)) rest
read_operator Plus a k rest = refl
read_operator Minus a k rest = refl
read_operator Times a k rest = refl
read_operator StrictEquals (JVar x) k rest = refl
read_operator StrictEquals a k rest = refl
read_operator And a k rest = refl
read_operator Or a k rest = refl

stops_operator : (op : Operator) (rest : List ℕ) → stops (operator_text op ++ rest) ≡ true
stops_operator Plus rest = refl
stops_operator op rest = refl

mutual
  pub read_js : (e : Js) (k : Place) (rest : List ℕ) → is_spelled e ≡ true → stops rest ≡ true → run (Want k) (js_text e ++ rest) ≡ run (Have e k) rest
  read_js (JInt n) k rest h stop = read_int n k rest h stop
  read_js (JBool true) k rest h stop = refl
  read_js (JBool false) k rest h stop = refl
  read_js (JText us) k rest h stop = along (Want k) (text_parts (units_text us) rest) ∙ read_text us (Literal k) rest h
  read_js (JVar x) k [] h stop = absurd cc
  read_js (JVar x) k (d ∷ rest) h stop = read_name (Want k) (Variable k) (value_begins k) x d rest h stop
  read_js (JArrow p s) k rest h stop =
      let w = and_true (is_name p) (are_spelled s) h in
      along (Want k) (arrow_parts (name_text p) (stmts_text s) rest)
      ∙ (read_name (Want (FirstIn k)) (Variable (FirstIn k)) (value_begins (FirstIn k)) p 61 (62 ∷ 123 ∷ (stmts_text s ++ 125 ∷ 41 ∷ rest)) w.0 refl
      ∙ read_stmts s NoStatement (BodyOf p k) (41 ∷ rest) w.1)
  read_js (JBlock s) k rest h stop = along (Want k) (block_parts (stmts_text s) rest) ∙ read_stmts s NoStatement (CalledIn k) (41 ∷ 40 ∷ 41 ∷ rest) h
  read_js (JCall f a) k rest h stop =
      let w = and_true (is_spelled f) (is_spelled a) h in
      along (Want k) (call_parts (js_text f) (js_text a) rest) ∙ (read_js f k (40 ∷ (js_text a ++ 41 ∷ rest)) w.0 refl ∙ read_js a (ArgumentOf f k) (41 ∷ rest) w.1 refl)
  read_js (JBinary op a b) k rest h stop =
      let w = and_true (is_spelled a) (is_spelled b) h in
      along (Want k) (binary_parts (js_text a) (operator_text op) (js_text b) rest)
      ∙ (read_js a (FirstIn k) (operator_text op ++ (js_text b ++ 41 ∷ rest)) w.0 (stops_operator op (js_text b ++ 41 ∷ rest))
      ∙ (read_operator op a k (js_text b ++ 41 ∷ rest) ∙ read_js b (RightOf op a k) (41 ∷ rest) w.1 refl))
  read_js (JConditional c a b) k rest h stop =
      let w = thirds (is_spelled c) (is_spelled a) (is_spelled b) h in
      along (Want k) (conditional_parts (js_text c) (js_text a) (js_text b) rest)
      ∙ (read_js c (FirstIn k) (63 ∷ (js_text a ++ 58 ∷ (js_text b ++ 41 ∷ rest))) w.0 refl
      ∙ (read_js a (ThenOf c k) (58 ∷ (js_text b ++ 41 ∷ rest)) w.1.0 refl ∙ read_js b (ElseOf c a k) (41 ∷ rest) w.1.1 refl))
  read_js (JObject fs) k rest h stop = along (Want k) (object_parts (fields_text fs) rest) ∙ read_fields fs k rest h
  read_js (JProperty e us) k rest h stop =
      let w = and_true (is_spelled e) (list_all is_unit us) h in
      along (Want k) (property_parts (js_text e) (units_text us) rest) ∙ (read_js e k (91 ∷ 34 ∷ (units_text us ++ 34 ∷ 93 ∷ rest)) w.0 refl ∙ read_text us (PropertyOf e k) (93 ∷ rest) w.1)
  read_js (JList es) k rest h stop = along (Want k) (list_parts (list_text es) rest) ∙ read_list es k rest h
  read_js (JHelper g es) k rest h stop = along (Want k) (helper_parts (helper_text g) (list_text es) rest) ∙ (read_helper g k (list_text es ++ 41 ∷ rest) ∙ read_arguments es g k rest h)

  pub read_list : (es : JsList) (k : Place) (rest : List ℕ) → list_spelled es ≡ true → run (Want (ListIn NoItem k)) (list_text es ++ 93 ∷ 41 ∷ rest) ≡ run (Have (JList es) k) rest
  read_list NoJs k rest h = refl
  read_list (MoreJs e es) k rest h =
      let w = and_true (is_spelled e) (list_spelled es) h in
      along (Want (ListIn NoItem k)) (append_assoc (js_text e) (more_text es) (93 ∷ 41 ∷ rest))
      ∙ (read_js e (ListIn NoItem k) (more_text es ++ 93 ∷ 41 ∷ rest) w.0 (stops_items es 93 (41 ∷ rest) refl) ∙ read_more_list es e NoItem k rest w.1)

  pub read_more_list : (es : JsList) (e : Js) (before : Items) (k : Place) (rest : List ℕ) → list_spelled es ≡ true → run (Have e (ListIn before k)) (more_text es ++ 93 ∷ 41 ∷ rest) ≡ run (Have (JList (items_then before (MoreJs e es))) k) rest
  read_more_list NoJs e before k rest h = refl
  read_more_list (MoreJs d es) e before k rest h =
      let w = and_true (is_spelled d) (list_spelled es) h in
      along (Have e (ListIn before k)) (next_parts (js_text d) (more_text es) (93 ∷ 41 ∷ rest))
      ∙ (read_js d (ListIn (Item before e) k) (more_text es ++ 93 ∷ 41 ∷ rest) w.0 (stops_items es 93 (41 ∷ rest) refl) ∙ read_more_list es d (Item before e) k rest w.1)

  pub read_arguments : (es : JsList) (g : Helper) (k : Place) (rest : List ℕ) → list_spelled es ≡ true → run (Want (GivenTo g NoItem k)) (list_text es ++ 41 ∷ rest) ≡ run (Have (JHelper g es) k) rest
  read_arguments NoJs g k rest h = refl
  read_arguments (MoreJs e es) g k rest h =
      let w = and_true (is_spelled e) (list_spelled es) h in
      along (Want (GivenTo g NoItem k)) (append_assoc (js_text e) (more_text es) (41 ∷ rest))
      ∙ (read_js e (GivenTo g NoItem k) (more_text es ++ 41 ∷ rest) w.0 (stops_items es 41 rest refl) ∙ read_more_arguments es e g NoItem k rest w.1)

  pub read_more_arguments : (es : JsList) (e : Js) (g : Helper) (before : Items) (k : Place) (rest : List ℕ) → list_spelled es ≡ true → run (Have e (GivenTo g before k)) (more_text es ++ 41 ∷ rest) ≡ run (Have (JHelper g (items_then before (MoreJs e es))) k) rest
  read_more_arguments NoJs e g before k rest h = refl
  read_more_arguments (MoreJs d es) e g before k rest h =
      let w = and_true (is_spelled d) (list_spelled es) h in
      along (Have e (GivenTo g before k)) (next_parts (js_text d) (more_text es) (41 ∷ rest))
      ∙ (read_js d (GivenTo g (Item before e) k) (more_text es ++ 41 ∷ rest) w.0 (stops_items es 41 rest refl) ∙ read_more_arguments es d g (Item before e) k rest w.1)

  pub read_fields : (fs : Fields) (k : Place) (rest : List ℕ) → fields_spelled fs ≡ true → run (WantField NoMember (Value k)) (fields_text fs ++ 125 ∷ rest) ≡ run (Have (JObject fs) k) rest
  read_fields NoField k rest h = refl
  read_fields (MoreField i e fs) k rest h =
      let w = thirds (list_all is_unit i) (is_spelled e) (fields_spelled fs) h in
      along (WantField NoMember (Value k)) (field_parts (units_text i) (js_text e) (more_fields_text fs) (125 ∷ rest))
      ∙ (read_text i (Key NoMember (Value k)) (58 ∷ (js_text e ++ (more_fields_text fs ++ 125 ∷ rest))) w.0
      ∙ (read_js e (FieldIn NoMember i k) (more_fields_text fs ++ 125 ∷ rest) w.1.0 (stops_fields fs rest) ∙ read_more_fields fs i e NoMember k rest w.1.1))

  pub read_more_fields : (fs : Fields) (j : List ℕ) (e : Js) (before : Members) (k : Place) (rest : List ℕ) → fields_spelled fs ≡ true
      → run (Have e (FieldIn before j k)) (more_fields_text fs ++ 125 ∷ rest) ≡ run (Have (JObject (members_then before (MoreField j e fs))) k) rest
  read_more_fields NoField j e before k rest h = refl
  read_more_fields (MoreField i d fs) j e before k rest h =
      let w = thirds (list_all is_unit i) (is_spelled d) (fields_spelled fs) h in
      along (Have e (FieldIn before j k)) (next_field_parts (units_text i) (js_text d) (more_fields_text fs) (125 ∷ rest))
      ∙ (read_text i (Key (Member before j e) (Value k)) (58 ∷ (js_text d ++ (more_fields_text fs ++ 125 ∷ rest))) w.0
      ∙ (read_js d (FieldIn (Member before j e) i k) (more_fields_text fs ++ 125 ∷ rest) w.1.0 (stops_fields fs rest) ∙ read_more_fields fs i d (Member before j e) k rest w.1.1))

  pub read_stmts : (s : Stmts) (before : Before) (b : Block) (rest : List ℕ) → are_spelled s ≡ true → run (WantStatement before b) (stmts_text s ++ 125 ∷ rest) ≡ run (close_block (statements_then before s) b) rest
  read_stmts (Const x e s) before b rest h =
      let w = thirds (is_name x) (is_spelled e) (are_spelled s) h in
      along (WantStatement before b) (const_parts (codes "const ") (name_text x) (js_text e) (stmts_text s) (125 ∷ rest))
      ∙ (read_name (WantName (ConstAt before b)) (ConstAt before b) (λ c q. refl) x 61 (js_text e ++ 59 ∷ (stmts_text s ++ 125 ∷ rest)) w.0 refl
      ∙ (read_js e (ConstIn before x b) (59 ∷ (stmts_text s ++ 125 ∷ rest)) w.1.0 refl ∙ read_stmts s (ConstThen before x e) b rest w.1.1))
  read_stmts (Let x e s) before b rest h =
      let w = thirds (is_name x) (is_spelled e) (are_spelled s) h in
      along (WantStatement before b) (const_parts (codes "let ") (name_text x) (js_text e) (stmts_text s) (125 ∷ rest))
      ∙ (read_name (WantName (LetAt before b)) (LetAt before b) (λ c q. refl) x 61 (js_text e ++ 59 ∷ (stmts_text s ++ 125 ∷ rest)) w.0 refl
      ∙ (read_js e (LetIn before x b) (59 ∷ (stmts_text s ++ 125 ∷ rest)) w.1.0 refl ∙ read_stmts s (LetThen before x e) b rest w.1.1))
  read_stmts (Assign x e s) before b rest h =
      let w = thirds (is_name x) (is_spelled e) (are_spelled s) h in
      along (WantStatement before b) (assign_parts (name_text x) (js_text e) (stmts_text s) (125 ∷ rest))
      ∙ (read_name (WantStatement before b) (AssignAt before b) (statement_begins before b) x 61 (js_text e ++ 59 ∷ (stmts_text s ++ 125 ∷ rest)) w.0 refl
      ∙ (read_js e (AssignIn before x b) (59 ∷ (stmts_text s ++ 125 ∷ rest)) w.1.0 refl ∙ read_stmts s (AssignThen before x e) b rest w.1.1))
  read_stmts (Return e) before b rest h = along (WantStatement before b) (return_parts (js_text e) (125 ∷ rest)) ∙ read_js e (ReturnIn before b) (59 ∷ 125 ∷ rest) h refl
  read_stmts (If c s t) before b rest h =
      let w = thirds (is_spelled c) (are_spelled s) (are_spelled t) h in
      along (WantStatement before b) (if_parts (js_text c) (stmts_text s) (stmts_text t) (125 ∷ rest))
      ∙ (read_js c (TestIn before b) (41 ∷ 123 ∷ (stmts_text s ++ 125 ∷ (codes "else{" ++ (stmts_text t ++ 125 ∷ 125 ∷ rest)))) w.0 refl
      ∙ (read_stmts s NoStatement (ThenIn before c b) (codes "else{" ++ (stmts_text t ++ 125 ∷ 125 ∷ rest)) w.1.0 ∙ read_stmts t NoStatement (ElseIn before c s b) (125 ∷ rest) w.1.1))
  read_stmts (While s) before b rest h = along (WantStatement before b) (while_parts (stmts_text s) (125 ∷ rest)) ∙ read_stmts s NoStatement (LoopIn before b) (125 ∷ rest) h
  read_stmts Continue before b rest h = refl

-- known characters
run_known : (cs : List ℕ) (s : State) (rest : List ℕ) → run (known cs s) (cs ++ rest) ≡ run s rest
run_known [] s rest = refl
run_known (c ∷ cs) s rest = lead (cs ++ rest) (first c cs s) ∙ run_known cs s rest
  where
    itself : (c : ℕ) → nat_eq c c ≡ true
    itself c = grind (arith, nat_tests)

    first : (c : ℕ) (cs : List ℕ) (s : State) → step (Known (c ∷ cs) s) c ≡ known cs s
    first c cs s = rw (itself c) refl

-- lines
abbrev lines_onto : LinesBefore → Lines → LinesBefore
lines_onto before NoLine = before
lines_onto before (MoreLine x e ls) = lines_onto (LineThen before x e) ls

lines_onto_then : (before : LinesBefore) (ls : Lines) → lines_then (lines_onto before ls) NoLine ≡ lines_then before ls
lines_onto_then before NoLine = refl
lines_onto_then before (MoreLine x e ls) = lines_onto_then (LineThen before x e) ls

line_parts : (x e ls rest : List ℕ) → (codes "const " ++ x ++ codes "=" ++ e ++ codes ";\n" ++ ls) ++ rest ≡ codes "const " ++ (x ++ 61 ∷ (e ++ 59 ∷ 10 ∷ (ls ++ rest)))
line_parts x e ls rest = simp append_assoc

read_lines : (ls : Lines) (before : LinesBefore) (rest : List ℕ) → lines_spelled ls ≡ true → run (WantLine before) (lines_text ls ++ rest) ≡ run (WantLine (lines_onto before ls)) rest
read_lines NoLine before rest h = refl
read_lines (MoreLine x e ls) before rest h =
    let w = thirds (is_name x) (is_spelled e) (lines_spelled ls) h in
    along (WantLine before) (line_parts (name_text x) (js_text e) (lines_text ls) rest)
    ∙ (read_name (WantLineName before) (LineAt before) (line_begins before) x 61 (js_text e ++ 59 ∷ 10 ∷ (lines_text ls ++ rest)) w.0 refl
    ∙ (read_js e (LineIn before x) (59 ∷ 10 ∷ (lines_text ls ++ rest)) w.1.0 refl ∙ read_lines ls (LineThen before x e) rest w.1.1))

-- ports
read_port_fields : (fs : Fields) (g : Front) (rest : List ℕ) → fields_spelled fs ≡ true → run (WantField NoMember (Ports g)) (fields_text fs ++ (codes "},\"outs\":{" ++ rest)) ≡ run (WantOut g fs []) rest
read_port_fields NoField g rest h = refl
read_port_fields (MoreField i e fs) g rest h =
    let w = thirds (list_all is_unit i) (is_spelled e) (fields_spelled fs) h in
    along (WantField NoMember (Ports g)) (field_parts (units_text i) (js_text e) (more_fields_text fs) (codes "},\"outs\":{" ++ rest))
    ∙ (read_text i (Key NoMember (Ports g)) (58 ∷ (js_text e ++ (more_fields_text fs ++ (codes "},\"outs\":{" ++ rest)))) w.0
    ∙ (read_js e (PortIn g NoMember i) (more_fields_text fs ++ (codes "},\"outs\":{" ++ rest)) w.1.0 (stops_fields fs (codes ",\"outs\":{" ++ rest)) ∙ read_more_ports fs i e NoMember g rest w.1.1))
  where
    read_more_ports : (fs : Fields) (j : List ℕ) (e : Js) (before : Members) (g : Front) (rest : List ℕ) → fields_spelled fs ≡ true
        → run (Have e (PortIn g before j)) (more_fields_text fs ++ (codes "},\"outs\":{" ++ rest)) ≡ run (WantOut g (members_then before (MoreField j e fs)) []) rest
    read_more_ports NoField j e before g rest h = refl
    read_more_ports (MoreField i d fs) j e before g rest h =
        let w = thirds (list_all is_unit i) (is_spelled d) (fields_spelled fs) h in
        along (Have e (PortIn g before j)) (next_field_parts (units_text i) (js_text d) (more_fields_text fs) (codes "},\"outs\":{" ++ rest))
        ∙ (read_text i (Key (Member before j e) (Ports g)) (58 ∷ (js_text d ++ (more_fields_text fs ++ (codes "},\"outs\":{" ++ rest)))) w.0
        ∙ (read_js d (PortIn g (Member before j e) i) (more_fields_text fs ++ (codes "},\"outs\":{" ++ rest)) w.1.0 (stops_fields fs (codes ",\"outs\":{" ++ rest)) ∙ read_more_ports fs i d (Member before j e) g rest w.1.1))

abbrev end_text : List ℕ
end_text = codes "}};\n" ++ TAIL.now

out_parts : (us more rest : List ℕ) → (34 ∷ (us ++ 34 ∷ []) ++ codes ":" ++ codes "0" ++ more) ++ rest ≡ 34 ∷ (us ++ 34 ∷ 58 ∷ 48 ∷ (more ++ rest))
out_parts us more rest = simp append_assoc

next_out_parts : (us more rest : List ℕ) → (codes "," ++ 34 ∷ (us ++ 34 ∷ []) ++ codes ":" ++ codes "0" ++ more) ++ rest ≡ 44 ∷ 34 ∷ (us ++ 34 ∷ 58 ∷ 48 ∷ (more ++ rest))
next_out_parts us more rest = simp append_assoc

abbrev finished : Front → Fields → List (List ℕ) → State
finished g ins outs = Finished (program_of g ins outs)

read_more_outs : (os : List (List ℕ)) (o : List ℕ) (before : List (List ℕ)) (g : Front) (ins : Fields) → list_all (λ o. list_all is_unit o) os ≡ true
    → run (HaveOut g ins o before) (more_fields_text (outs_fields os) ++ end_text) ≡ finished g ins (reversed_onto (o ∷ before) os)
read_more_outs [] o before g ins h = run_end (finished g ins (reversed_onto (o ∷ before) []))
  where
    run_end : (s : State) → run (Known (codes "};\n" ++ TAIL.now) s) (codes "};\n" ++ TAIL.now) ≡ s
    run_end s = along (Known (codes "};\n" ++ TAIL.now) s) (sym (append-nil (codes "};\n" ++ TAIL.now))) ∙ run_known (codes "};\n" ++ TAIL.now) s []
read_more_outs (q ∷ os) o before g ins h =
    let w = and_true (list_all is_unit q) (list_all (λ o. list_all is_unit o) os) h in
    along (HaveOut g ins o before) (ap (λ (t : List ℕ). (codes "," ++ 34 ∷ (units_text q ++ 34 ∷ []) ++ codes ":" ++ t ++ more_fields_text (outs_fields os)) ++ end_text) zero_text ∙ next_out_parts (units_text q) (more_fields_text (outs_fields os)) end_text)
    ∙ (read_text q (OutIn g ins (o ∷ before)) (58 ∷ 48 ∷ (more_fields_text (outs_fields os) ++ end_text)) w.0 ∙ read_more_outs os q (o ∷ before) g ins w.1)

read_outs : (os : List (List ℕ)) (g : Front) (ins : Fields) → list_all (λ o. list_all is_unit o) os ≡ true → run (WantOut g ins []) (fields_text (outs_fields os) ++ end_text) ≡ finished g ins os
read_outs [] g ins h = run_end (finished g ins [])
  where
    run_end : (s : State) → run (Known (codes "};\n" ++ TAIL.now) s) (codes "};\n" ++ TAIL.now) ≡ s
    run_end s = along (Known (codes "};\n" ++ TAIL.now) s) (sym (append-nil (codes "};\n" ++ TAIL.now))) ∙ run_known (codes "};\n" ++ TAIL.now) s []
read_outs (o ∷ os) g ins h =
    let w = and_true (list_all is_unit o) (list_all (λ o. list_all is_unit o) os) h in
    along (WantOut g ins []) (ap (λ (t : List ℕ). (34 ∷ (units_text o ++ 34 ∷ []) ++ codes ":" ++ t ++ more_fields_text (outs_fields os)) ++ end_text) zero_text ∙ out_parts (units_text o) (more_fields_text (outs_fields os)) end_text)
    ∙ (read_text o (OutIn g ins []) (58 ∷ 48 ∷ (more_fields_text (outs_fields os) ++ end_text)) w.0 ∙ read_more_outs os o [] g ins w.1)

-- the line of `_main`
read_name_line : (before : LinesBefore) (name rest : List ℕ) → list_all is_unit name ≡ true → run (WantLine before) (codes "const _main={\"name\":" ++ 34 ∷ (units_text name ++ 34 ∷ rest)) ≡ run (after_text name (ModuleIn before)) rest
read_name_line before name rest h = read_text name (ModuleIn before) rest h

main_line_parts : (name main flags ins ports : List ℕ)
    → codes "const _main={\"name\":" ++ 34 ∷ (name ++ 34 ∷ []) ++ codes ",\"program\":" ++ main ++ codes ",\"flags\":" ++ flags ++ codes ",\"ins\":{" ++ ins ++ codes "},\"outs\":{" ++ ports ++ codes "}};\n" ++ TAIL.now
    ≡ codes "const _main={\"name\":" ++ 34 ∷ (name ++ 34 ∷ (codes ",\"program\":" ++ (main ++ (codes ",\"flags\":" ++ (flags ++ (codes ",\"ins\":{" ++ (ins ++ (codes "},\"outs\":{" ++ (ports ++ end_text)))))))))
main_line_parts name main flags ins ports = simp append_assoc

abbrev front_of : LinesBefore → Program → Front
front_of before p = record { lines = before; name = p.name; main = p.main; flags = p.flags }

read_main : (p : Program) (before : LinesBefore) → list_all is_unit p.name ≡ true → is_spelled p.main ≡ true → is_spelled p.flags ≡ true → fields_spelled p.ins ≡ true → list_all (λ o. list_all is_unit o) p.outs ≡ true
    → run (WantLine before) (main_text p ++ TAIL.now) ≡ finished (front_of before p) p.ins p.outs
read_main p before n m d i o =
    let ports : List ℕ = fields_text (outs_fields p.outs) ++ end_text in
    let ins : List ℕ = fields_text p.ins ++ (codes "},\"outs\":{" ++ ports) in
    let flags : List ℕ = js_text p.flags ++ (codes ",\"ins\":{" ++ ins) in
    let main : List ℕ = js_text p.main ++ (codes ",\"flags\":" ++ flags) in
    along (WantLine before) (ap (λ (t : List ℕ). t ++ TAIL.now) (main_parts p) ∙ main_line_parts (units_text p.name) (js_text p.main) (js_text p.flags) (fields_text p.ins) (fields_text (outs_fields p.outs)))
    ∙ (read_name_line before p.name (codes ",\"program\":" ++ main) n
    ∙ (read_js p.main (MainIn before p.name) (codes ",\"flags\":" ++ flags) m refl
    ∙ (read_js p.flags (FlagsIn before p.name p.main) (codes ",\"ins\":{" ++ ins) d refl
    ∙ (read_port_fields p.ins (front_of before p) ports i ∙ read_outs p.outs (front_of before p) p.ins o))))

-- the whole text
pub read_back : (p : Program) (bytes : List ℕ) → is_program_spelled p ≡ true → JsText p bytes → run start bytes ≡ Finished p
read_back p bytes h text =
    let w = and_true (lines_spelled p.lines) _ h in
    let v = thirds (is_spelled p.main) (list_all is_unit p.name) _ w.1 in
    let u = thirds (is_spelled p.flags) (fields_spelled p.ins) (list_all (λ o. list_all is_unit o) p.outs) v.1.1 in
    along start (text ∙ parts HEAD.now (lines_text p.lines) (main_text p) TAIL.now)
    ∙ (run_known HEAD.now (WantLine NoLineYet) (lines_text p.lines ++ (main_text p ++ TAIL.now))
    ∙ (read_lines p.lines NoLineYet (main_text p ++ TAIL.now) w.0
    ∙ (read_main p (lines_onto NoLineYet p.lines) v.1.0 v.0 u.0 u.1.0 u.1.1 ∙ ap Finished (same_program p (lines_onto_then NoLineYet p.lines)))))
  where
    parts : (head lines main tail : List ℕ) → head ++ lines ++ main ++ tail ≡ head ++ (lines ++ (main ++ tail))
    parts head lines main tail = simp append_assoc

    same_program : (p : Program) → lines_then (lines_onto NoLineYet p.lines) NoLine ≡ p.lines → program_of (front_of (lines_onto NoLineYet p.lines) p) p.ins p.outs ≡ p
    same_program p e = λ i. record { lines = e i; main = p.main; name = p.name; flags = p.flags; ins = p.ins; outs = p.outs }

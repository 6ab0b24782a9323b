-- What has been read begins the text of a program.
use Rattle.std.proofs.Common.{◌≡◌, ℕ, pos, List, [], ◌++◌, true, ◌&&◌, refl, ap, sym, ◌∙◌, codes, append_assoc}
use Rattle.std.proofs.Common.{append-nil}
use Rattle.std.specs.List.{list_all}
use Rattle.js_tree.specs.declared.runtime.TheConstants.{TAIL}
use Rattle.js_tree.specs.Tree.{Plus, Js, JInt, JArrow, JBlock, JCall, JBinary, JConditional, JObject, JList, JHelper}
use Rattle.js_tree.specs.Tree.{NoJs, MoreJs, Fields, NoField, MoreField, Stmts, Const, Let, Assign, Return, If, While}
use Rattle.js_tree.specs.Tree.{Continue, NoLine, Program}
use Rattle.js_tree.specs.Text.{js_text, stmts_text, JsText}
use Rattle.js_tree.specs.Subset.{is_unit, is_name, is_spelled, are_spelled, fields_spelled, lines_spelled}
use Rattle.js_tree.specs.Subset.{is_program_spelled}
use Rattle.js_tree.specs.Faults.{Begins}
use Rattle.js_tree.proofs.NameFronts.{and_true}
use Rattle.js_tree.specs.Automaton.{Before, LinesBefore, LineThen, items_then, members_then, statements_then}
use Rattle.js_tree.specs.Automaton.{lines_then, Front, Place, ArgumentOf, FirstIn, RightOf, ThenOf, ElseOf, FieldIn}
use Rattle.js_tree.specs.Automaton.{ListIn, GivenTo, ConstIn, LetIn, AssignIn, ReturnIn, TestIn, LineIn, MainIn}
use Rattle.js_tree.specs.Automaton.{FlagsIn, PortIn, Block, BodyOf, CalledIn, ThenIn, ElseIn, LoopIn, program_of}
use Rattle.js_tree.proofs.Fronts.{before_text, place_text, block_text, items_fit, members_fit, before_fits, lines_fit}
use Rattle.js_tree.proofs.Fronts.{front_fits, place_fits, block_fits}
use Rattle.js_tree.proofs.Steps.{items_end, members_end, statements_whole, whole_text}
use Rattle.js_tree.proofs.StepFits.{items_spelled, members_spelled, statements_spelled, all_lines_spelled, two, three}
use Rattle.js_tree.proofs.StepFits.{thirds}

abbrev zero_js : Js
zero_js = JInt (pos 0)

abbrev ports_rest : List ℕ
ports_rest = codes "},\"outs\":{" ++ (codes "}};\n" ++ TAIL.now)

abbrev front_of_line : LinesBefore → List ℕ → Js → Js → Front
front_of_line before name main flags = record { lines = before; name = name; main = main; flags = flags }

-- what may stand after an expression, and after the statements of a block, up to the end; 0 and `continue;` are put
-- where something is missing
abbrev mutual
  pub place_rest : Place → List ℕ
  place_rest (ArgumentOf f k) = codes ")" ++ place_rest k
  place_rest (FirstIn k) = codes "+" ++ js_text zero_js ++ codes ")" ++ place_rest k
  place_rest (RightOf op a k) = codes ")" ++ place_rest k
  place_rest (ThenOf c k) = codes ":" ++ js_text zero_js ++ codes ")" ++ place_rest k
  place_rest (ElseOf c a k) = codes ")" ++ place_rest k
  place_rest (FieldIn before key k) = codes "}" ++ place_rest k
  place_rest (ListIn before k) = codes "])" ++ place_rest k
  place_rest (GivenTo h before k) = codes ")" ++ place_rest k
  place_rest (ConstIn before x b) = codes ";continue;" ++ block_rest b
  place_rest (LetIn before x b) = codes ";continue;" ++ block_rest b
  place_rest (AssignIn before x b) = codes ";continue;" ++ block_rest b
  place_rest (ReturnIn before b) = codes ";" ++ block_rest b
  place_rest (TestIn before b) = codes "){continue;}else{continue;}" ++ block_rest b
  place_rest (LineIn before x) = codes ";\nconst _main={\"name\":\"\",\"program\":" ++ js_text zero_js ++ codes ",\"flags\":" ++ js_text zero_js ++ codes ",\"ins\":{" ++ ports_rest
  place_rest (MainIn before name) = codes ",\"flags\":" ++ js_text zero_js ++ codes ",\"ins\":{" ++ ports_rest
  place_rest (FlagsIn before name main) = codes ",\"ins\":{" ++ ports_rest
  place_rest (PortIn f before key) = ports_rest

  pub block_rest : Block → List ℕ
  block_rest (BodyOf p k) = codes "})" ++ place_rest k
  block_rest (CalledIn k) = codes "})()" ++ place_rest k
  block_rest (ThenIn before c b) = codes "}else{continue;}" ++ block_rest b
  block_rest (ElseIn before c s b) = codes "}" ++ block_rest b
  block_rest (LoopIn before b) = codes "}" ++ block_rest b

-- the program that they make
abbrev mutual
  pub place_program : Place → Js → Program
  place_program (ArgumentOf f k) e = place_program k (JCall f e)
  place_program (FirstIn k) e = place_program k (JBinary Plus e zero_js)
  place_program (RightOf op a k) e = place_program k (JBinary op a e)
  place_program (ThenOf c k) e = place_program k (JConditional c e zero_js)
  place_program (ElseOf c a k) e = place_program k (JConditional c a e)
  place_program (FieldIn before key k) e = place_program k (JObject (members_then before (MoreField key e NoField)))
  place_program (ListIn before k) e = place_program k (JList (items_then before (MoreJs e NoJs)))
  place_program (GivenTo h before k) e = place_program k (JHelper h (items_then before (MoreJs e NoJs)))
  place_program (ConstIn before x b) e = block_program b (statements_then before (Const x e Continue))
  place_program (LetIn before x b) e = block_program b (statements_then before (Let x e Continue))
  place_program (AssignIn before x b) e = block_program b (statements_then before (Assign x e Continue))
  place_program (ReturnIn before b) e = block_program b (statements_then before (Return e))
  place_program (TestIn before b) e = block_program b (statements_then before (If e Continue Continue))
  place_program (LineIn before x) e = program_of (front_of_line (LineThen before x e) [] zero_js zero_js) NoField []
  place_program (MainIn before name) e = program_of (front_of_line before name e zero_js) NoField []
  place_program (FlagsIn before name main) e = program_of (front_of_line before name main e) NoField []
  place_program (PortIn f before key) e = program_of f (members_then before (MoreField key e NoField)) []

  pub block_program : Block → Stmts → Program
  block_program (BodyOf p k) s = place_program k (JArrow p s)
  block_program (CalledIn k) s = place_program k (JBlock s)
  block_program (ThenIn before c b) s = block_program b (statements_then before (If c s Continue))
  block_program (ElseIn before c t b) s = block_program b (statements_then before (If c t s))
  block_program (LoopIn before b) s = block_program b (statements_then before (While s))

-- the same bytes
pub retext : {f g t : List ℕ} → f ≡ g → f ≡ t → g ≡ t
retext e h = sym e ∙ h

mutual
  pub place_whole : (k : Place) (e : Js) → JsText (place_program k e) (place_text k ++ js_text e ++ place_rest k)
  place_whole (ArgumentOf f k) e = retext (simp append_assoc) (place_whole k (JCall f e))
  place_whole (FirstIn k) e = retext (simp append_assoc) (place_whole k (JBinary Plus e zero_js))
  place_whole (RightOf op a k) e = retext (simp append_assoc) (place_whole k (JBinary op a e))
  place_whole (ThenOf c k) e = retext (simp append_assoc) (place_whole k (JConditional c e zero_js))
  place_whole (ElseOf c a k) e = retext (simp append_assoc) (place_whole k (JConditional c a e))
  place_whole (FieldIn before key k) e = retext (rw (members_end before key e) (simp append_assoc)) (place_whole k (JObject (members_then before (MoreField key e NoField))))
  place_whole (ListIn before k) e = retext (rw (items_end before e) (simp append_assoc)) (place_whole k (JList (items_then before (MoreJs e NoJs))))
  place_whole (GivenTo h before k) e = retext (rw (items_end before e) (simp append_assoc)) (place_whole k (JHelper h (items_then before (MoreJs e NoJs))))
  place_whole (ConstIn before x b) e = retext (rw (statements_whole before (Const x e Continue)) (simp append_assoc)) (block_whole b (statements_then before (Const x e Continue)))
  place_whole (LetIn before x b) e = retext (rw (statements_whole before (Let x e Continue)) (simp append_assoc)) (block_whole b (statements_then before (Let x e Continue)))
  place_whole (AssignIn before x b) e = retext (rw (statements_whole before (Assign x e Continue)) (simp append_assoc)) (block_whole b (statements_then before (Assign x e Continue)))
  place_whole (ReturnIn before b) e = retext (rw (statements_whole before (Return e)) (simp append_assoc)) (block_whole b (statements_then before (Return e)))
  place_whole (TestIn before b) e = retext (rw (statements_whole before (If e Continue Continue)) (simp append_assoc)) (block_whole b (statements_then before (If e Continue Continue)))
  place_whole (LineIn before x) e = retext (simp (append_assoc, append-nil)) (whole_text (front_of_line (LineThen before x e) [] zero_js zero_js) NoField [])
  place_whole (MainIn before name) e = retext (simp (append_assoc, append-nil)) (whole_text (front_of_line before name e zero_js) NoField [])
  place_whole (FlagsIn before name main) e = retext (simp (append_assoc, append-nil)) (whole_text (front_of_line before name main e) NoField [])
  place_whole (PortIn f before key) e = retext (rw (members_end before key e) (simp (append_assoc, append-nil))) (whole_text f (members_then before (MoreField key e NoField)) [])

  pub block_whole : (b : Block) (s : Stmts) → JsText (block_program b s) (block_text b ++ stmts_text s ++ block_rest b)
  block_whole (BodyOf p k) s = retext (simp append_assoc) (place_whole k (JArrow p s))
  block_whole (CalledIn k) s = retext (simp append_assoc) (place_whole k (JBlock s))
  block_whole (ThenIn before c b) s = retext (rw (statements_whole before (If c s Continue)) (simp append_assoc)) (block_whole b (statements_then before (If c s Continue)))
  block_whole (ElseIn before c t b) s = retext (rw (statements_whole before (If c t s)) (simp append_assoc)) (block_whole b (statements_then before (If c t s)))
  block_whole (LoopIn before b) s = retext (rw (statements_whole before (While s)) (simp append_assoc)) (block_whole b (statements_then before (While s)))

abbrev Spelled : Program → Type 0
Spelled p = is_program_spelled p ≡ true

program_spelled : (before : LinesBefore) (name : List ℕ) (main flags : Js) (ins : Fields) → lines_fit before ≡ true → list_all is_unit name ≡ true → is_spelled main ≡ true → is_spelled flags ≡ true → fields_spelled ins ≡ true
    → Spelled (program_of (front_of_line before name main flags) ins [])
program_spelled before name main flags ins h n m d i =
    two (lines_spelled (lines_then before NoLine)) _ (all_lines_spelled before NoLine h refl) (three (is_spelled main) (list_all is_unit name) _ m n (three (is_spelled flags) (fields_spelled ins) true d i refl))

mutual
  pub place_spelled : (k : Place) (e : Js) → place_fits k ≡ true → is_spelled e ≡ true → Spelled (place_program k e)
  place_spelled (ArgumentOf f k) e h p = let w = and_true (place_fits k) (is_spelled f) h in place_spelled k (JCall f e) w.0 (two (is_spelled f) (is_spelled e) w.1 p)
  place_spelled (FirstIn k) e h p = place_spelled k (JBinary Plus e zero_js) h (two (is_spelled e) true p refl)
  place_spelled (RightOf op a k) e h p = let w = and_true (place_fits k) (is_spelled a) h in place_spelled k (JBinary op a e) w.0 (two (is_spelled a) (is_spelled e) w.1 p)
  place_spelled (ThenOf c k) e h p = let w = and_true (place_fits k) (is_spelled c) h in place_spelled k (JConditional c e zero_js) w.0 (three (is_spelled c) (is_spelled e) true w.1 p refl)
  place_spelled (ElseOf c a k) e h p = let w = thirds (place_fits k) (is_spelled c) (is_spelled a) h in place_spelled k (JConditional c a e) w.0 (three (is_spelled c) (is_spelled a) (is_spelled e) w.1.0 w.1.1 p)
  place_spelled (FieldIn before key k) e h p =
      let w = thirds (place_fits k) (members_fit before) (list_all is_unit key) h in
      place_spelled k (JObject (members_then before (MoreField key e NoField))) w.0 (members_spelled before (MoreField key e NoField) w.1.0 (three (list_all is_unit key) (is_spelled e) true w.1.1 p refl))
  place_spelled (ListIn before k) e h p =
      let w = and_true (place_fits k) (items_fit before) h in place_spelled k (JList (items_then before (MoreJs e NoJs))) w.0 (items_spelled before (MoreJs e NoJs) w.1 (two (is_spelled e) true p refl))
  place_spelled (GivenTo g before k) e h p =
      let w = and_true (place_fits k) (items_fit before) h in place_spelled k (JHelper g (items_then before (MoreJs e NoJs))) w.0 (items_spelled before (MoreJs e NoJs) w.1 (two (is_spelled e) true p refl))
  place_spelled (ConstIn before x b) e h p =
      let w = thirds (block_fits b) (before_fits before) (is_name x) h in block_spelled b (statements_then before (Const x e Continue)) w.0 (statements_spelled before (Const x e Continue) w.1.0 (three (is_name x) (is_spelled e) true w.1.1 p refl))
  place_spelled (LetIn before x b) e h p =
      let w = thirds (block_fits b) (before_fits before) (is_name x) h in block_spelled b (statements_then before (Let x e Continue)) w.0 (statements_spelled before (Let x e Continue) w.1.0 (three (is_name x) (is_spelled e) true w.1.1 p refl))
  place_spelled (AssignIn before x b) e h p =
      let w = thirds (block_fits b) (before_fits before) (is_name x) h in block_spelled b (statements_then before (Assign x e Continue)) w.0 (statements_spelled before (Assign x e Continue) w.1.0 (three (is_name x) (is_spelled e) true w.1.1 p refl))
  place_spelled (ReturnIn before b) e h p = let w = and_true (block_fits b) (before_fits before) h in block_spelled b (statements_then before (Return e)) w.0 (statements_spelled before (Return e) w.1 p)
  place_spelled (TestIn before b) e h p =
      let w = and_true (block_fits b) (before_fits before) h in block_spelled b (statements_then before (If e Continue Continue)) w.0 (statements_spelled before (If e Continue Continue) w.1 (three (is_spelled e) true true p refl refl))
  place_spelled (LineIn before x) e h p = let w = and_true (lines_fit before) (is_name x) h in program_spelled (LineThen before x e) [] zero_js zero_js NoField (three (lines_fit before) (is_name x) (is_spelled e) w.0 w.1 p) refl refl refl refl
  place_spelled (MainIn before name) e h p = let w = and_true (lines_fit before) (list_all is_unit name) h in program_spelled before name e zero_js NoField w.0 w.1 p refl refl
  place_spelled (FlagsIn before name main) e h p = let w = thirds (lines_fit before) (list_all is_unit name) (is_spelled main) h in program_spelled before name main e NoField w.0 w.1.0 w.1.1 p refl
  place_spelled (PortIn f before key) e h p =
      let w = thirds (front_fits f) (members_fit before) (list_all is_unit key) h in
      let v = and_true (lines_fit f.lines) _ w.0 in let u = thirds (list_all is_unit f.name) (is_spelled f.main) (is_spelled f.flags) v.1 in
      program_spelled f.lines f.name f.main f.flags (members_then before (MoreField key e NoField)) v.0 u.0 u.1.0 u.1.1 (members_spelled before (MoreField key e NoField) w.1.0 (three (list_all is_unit key) (is_spelled e) true w.1.1 p refl))

  pub block_spelled : (b : Block) (s : Stmts) → block_fits b ≡ true → are_spelled s ≡ true → Spelled (block_program b s)
  block_spelled (BodyOf q k) s h p = let w = and_true (place_fits k) (is_name q) h in place_spelled k (JArrow q s) w.0 (two (is_name q) (are_spelled s) w.1 p)
  block_spelled (CalledIn k) s h p = place_spelled k (JBlock s) h p
  block_spelled (ThenIn before c b) s h p =
      let w = thirds (block_fits b) (before_fits before) (is_spelled c) h in block_spelled b (statements_then before (If c s Continue)) w.0 (statements_spelled before (If c s Continue) w.1.0 (three (is_spelled c) (are_spelled s) true w.1.1 p refl))
  block_spelled (ElseIn before c t b) s h p =
      let w = thirds (block_fits b) (before_fits before) (is_spelled c && are_spelled t) h in let v = and_true (is_spelled c) (are_spelled t) w.1.1 in
      block_spelled b (statements_then before (If c t s)) w.0 (statements_spelled before (If c t s) w.1.0 (three (is_spelled c) (are_spelled t) (are_spelled s) v.0 v.1 p))
  block_spelled (LoopIn before b) s h p = let w = and_true (block_fits b) (before_fits before) h in block_spelled b (statements_then before (While s)) w.0 (statements_spelled before (While s) w.1 p)

pub shorter : (f g : List ℕ) → Begins (f ++ g) → Begins f
shorter f g b = record { program = b.program; rest = g ++ b.rest; spelled = b.spelled; text = retext (append_assoc f g b.rest) b.text }

pub at_value : (k : Place) (e : Js) (f : List ℕ) → place_fits k ≡ true → is_spelled e ≡ true → f ≡ place_text k ++ js_text e → Begins f
at_value k e f h p q = record { program = place_program k e; rest = place_rest k; spelled = place_spelled k e h p; text = rw q (place_whole k e) }

pub at_place : (k : Place) (f : List ℕ) → place_fits k ≡ true → f ≡ place_text k → Begins f
at_place k f h q = shorter f (js_text zero_js) (at_value k zero_js (f ++ js_text zero_js) h refl (rw q refl))

pub at_block : (b : Block) (s : Stmts) (f : List ℕ) → block_fits b ≡ true → are_spelled s ≡ true → f ≡ block_text b ++ stmts_text s → Begins f
at_block b s f h p q = record { program = block_program b s; rest = block_rest b; spelled = block_spelled b s h p; text = rw q (block_whole b s) }

pub at_statement : (before : Before) (b : Block) (s : Stmts) (f : List ℕ) → block_fits b ≡ true → before_fits before ≡ true → are_spelled s ≡ true → f ≡ block_text b ++ before_text before ++ stmts_text s → Begins f
at_statement before b s f h g p q =
    at_block b (statements_then before s) f h (statements_spelled before s g p) (q ∙ (append_assoc (block_text b) (before_text before) (stmts_text s) ∙ ap (λ (v : List ℕ). block_text b ++ v) (sym (statements_whole before s))))

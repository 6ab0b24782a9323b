-- Each character goes to what has been read.
use Rattle.std.proofs.Common.{◌≡◌, ℕ, zero, suc, ◌+◌, ◌-◌, ◌*◌, ◌<◌, ◌≤◌, ◌^◌, pos, List, [], ◌∷◌, ◌++◌, Bool, true}
use Rattle.std.proofs.Common.{false, ◌&&◌, ◌||◌, ◌==◌, nat_eq, nat_le, nat_lt, if◌then◌else◌, refl, ap, sym, ◌∙◌, subst}
use Rattle.std.proofs.Common.{arith, codes, decimal, append_assoc, append-nil}
use Rattle.std.proofs.lemmas.Bool.Decides.{nat_tests}
use Rattle.std.proofs.lemmas.Fmt.{decimal_digit}
use Rattle.std.proofs.lemmas.Slice.Eq.{bytes_eq-Decides}
use Rattle.std.specs.List.{list_all, list_any}
use Rattle.std.specs.Str.{bytes_eq}
use Rattle.js_tree.specs.declared.runtime.TheConstants.{HEAD, TAIL}
use Rattle.js_tree.specs.Tree.{Name, StrictEquals, Js, JInt, JVar, JsList, NoJs, MoreJs, Fields, NoField, MoreField}
use Rattle.js_tree.specs.Tree.{Stmts, Const, Let, Assign, Lines, NoLine, MoreLine, Program}
use Rattle.js_tree.specs.Text.{js_text, list_text, more_text, fields_text, more_fields_text, stmts_text, name_text}
use Rattle.js_tree.specs.Text.{text_text, unit_text, units_text, lines_text, outs_fields, main_text, hex4, JsText}
use Rattle.wire_value.specs.Exact.{is_exact}
use Rattle.js_tree.specs.Subset.{is_upper, is_unit}
use Rattle.js_tree.specs.NameReader.{Begun, OneDollar, TwoDollars, Numbered, NameWord, Dollar, Digits, NoName}
use Rattle.js_tree.specs.NameReader.{begin_name, name_step, name_of, Found, Not, Name_is, is_begun, is_run, is_digit}
use Rattle.js_tree.specs.NameReader.{is_hex_digit, hex_value, greatest}
use Rattle.js_tree.proofs.NameTexts.{begun_text, begun_fits, digits_text}
use Rattle.js_tree.proofs.NameFronts.{ifs, and_true, same, name_reads, name_ends, name_begun, reads_itself, Reads}
use Rattle.js_tree.proofs.NameFronts.{digits_go_on, digits_end, number_grows, first_digit}
use Rattle.js_tree.specs.Automaton.{Items, NoItem, Item, Members, NoMember, Member, Before, NoStatement, ConstThen}
use Rattle.js_tree.specs.Automaton.{LetThen, AssignThen, LinesBefore, NoLineYet, LineThen, items_then, members_then}
use Rattle.js_tree.specs.Automaton.{statements_then, lines_then, Front, Place, ArgumentOf, FirstIn, RightOf, ThenOf}
use Rattle.js_tree.specs.Automaton.{ElseOf, FieldIn, ListIn, GivenTo, ConstIn, LetIn, AssignIn, ReturnIn, TestIn}
use Rattle.js_tree.specs.Automaton.{LineIn, MainIn, FlagsIn, PortIn, Block, BodyOf, CalledIn, ThenIn, ElseIn, LoopIn}
use Rattle.js_tree.specs.Automaton.{ObjectAt, Value, Ports, TextAt, Literal, Key, PropertyOf, ModuleIn, OutIn, NameAt}
use Rattle.js_tree.specs.Automaton.{Variable, ConstAt, LetAt, AssignAt, LineAt, State, Want, Have, InName, InInt}
use Rattle.js_tree.specs.Automaton.{Minus_seen, InNegative, InText, InEscape, InDigits, InWord, WantName, WantField}
use Rattle.js_tree.specs.Automaton.{WantStatement, InKeyword, Ended, Equals, WantLine, WantLineName, WantOut, HaveOut}
use Rattle.js_tree.specs.Automaton.{Known, Finished, Dead, Word, TrueWord, FalseWord, ListWord, HelperWord, words}
use Rattle.js_tree.specs.Automaton.{word_text, begins_with, begin_statement_words, after_word, find_word, in_word}
use Rattle.js_tree.specs.Automaton.{in_keyword, known, close_block, operator_at, program_of, on_bracket, close, have}
use Rattle.js_tree.specs.Automaton.{no_parameter, no_expression, name_at, int_at, minus, negative_at, want, after_name}
use Rattle.js_tree.specs.Automaton.{end_name, in_name, in_int, in_negative, after_text, is_plain, in_text, in_escape}
use Rattle.js_tree.specs.Automaton.{next_digit, close_fields, want_field, want_statement, equals, want_line_name}
use Rattle.js_tree.specs.Automaton.{end_outs, reversed_onto, want_out, have_out, step}
use Rattle.js_tree.proofs.Fronts.{items_text, members_text, before_text, lines_before_text, outs_front, outs_text}
use Rattle.js_tree.proofs.Fronts.{outs_before, place_text, block_text, object_text, text_front, name_front, IsFront}
use Rattle.js_tree.proofs.Fronts.{name_at_fits, place_fits, text_fits, escape_fits, state_fits}

-- the parts of a list, with those that follow
items_whole : (before : Items) (e : Js) (es : JsList) → list_text (items_then before (MoreJs e es)) ≡ items_text before ++ js_text e ++ more_text es
items_whole NoItem e es = refl
items_whole (Item before d) e es = items_whole before d (MoreJs e es) ∙ simp append_assoc

members_whole : (before : Members) (k : List ℕ) (e : Js) (fs : Fields) → fields_text (members_then before (MoreField k e fs)) ≡ members_text before ++ text_text k ++ codes ":" ++ js_text e ++ more_fields_text fs
members_whole NoMember k e fs = refl
members_whole (Member before i d) k e fs = members_whole before i d (MoreField k e fs) ∙ simp append_assoc

pub statements_whole : (before : Before) (s : Stmts) → stmts_text (statements_then before s) ≡ before_text before ++ stmts_text s
statements_whole NoStatement s = refl
statements_whole (ConstThen before x e) s = statements_whole before (Const x e s) ∙ simp append_assoc
statements_whole (LetThen before x e) s = statements_whole before (Let x e s) ∙ simp append_assoc
statements_whole (AssignThen before x e) s = statements_whole before (Assign x e s) ∙ simp append_assoc

lines_whole : (before : LinesBefore) (ls : Lines) → HEAD.now ++ lines_text (lines_then before ls) ≡ lines_before_text before ++ lines_text ls
lines_whole NoLineYet ls = refl
lines_whole (LineThen before x e) ls = lines_whole before (MoreLine x e ls) ∙ simp append_assoc

port_text : (t m : List ℕ) → t ++ codes ":" ++ codes "0" ++ m ≡ t ++ codes ":0" ++ m
port_text t m = simp append_assoc

pub zero_text : js_text (JInt (pos 0)) ≡ codes "0"
zero_text = decimal_digit 0 (omega arith)

outs_whole : (outs : List (List ℕ)) (o : List ℕ) (rest : List (List ℕ)) → fields_text (outs_fields (reversed_onto (o ∷ outs) rest)) ≡ outs_text (o ∷ outs) ++ more_fields_text (outs_fields rest)
outs_whole [] o rest = rw zero_text (port_text (text_text o) (more_fields_text (outs_fields rest)))
outs_whole (q ∷ outs) o rest = outs_whole outs q (o ∷ rest) ∙ rw zero_text (parts (outs_text (q ∷ outs)) (text_text o) (more_fields_text (outs_fields rest)))
  where
    parts : (before t m : List ℕ) → before ++ (codes "," ++ t ++ codes ":" ++ codes "0" ++ m) ≡ (before ++ codes "," ++ t ++ codes ":0") ++ m
    parts before t m = simp append_assoc

-- the last part of a list, of an object's fields
pub items_end : (before : Items) (e : Js) → list_text (items_then before (MoreJs e NoJs)) ≡ items_text before ++ js_text e
items_end before e = items_whole before e NoJs ∙ append-nil _

pub members_end : (before : Members) (k : List ℕ) (e : Js) → fields_text (members_then before (MoreField k e NoField)) ≡ members_text before ++ text_text k ++ codes ":" ++ js_text e
members_end before k e = members_whole before k e NoField ∙ append-nil _

pub outs_end : (outs : List (List ℕ)) (o : List ℕ) → fields_text (outs_fields (reversed_onto (o ∷ outs) [])) ≡ outs_text (o ∷ outs)
outs_end outs o = outs_whole outs o [] ∙ append-nil _

-- one character goes to what has been read, and then some that are known
on : {f g t : List ℕ} (c d : ℕ) → f ≡ g → nat_eq c d ≡ true → g ++ d ∷ [] ≡ t → f ++ c ∷ [] ≡ t
on c d h e q = rw (h, same c d e) q

then_known : {f g t : List ℕ} (c d : ℕ) (cs : List ℕ) → f ≡ g → nat_eq c d ≡ true → g ++ d ∷ cs ≡ t → (f ++ c ∷ []) ++ cs ≡ t
then_known c d cs h e q = rw (h, same c d e) (append_assoc _ (d ∷ []) cs ∙ q)

-- Next: the front of where a character leads
abbrev Next : List ℕ → ℕ → State → Type 0
Next f c s = IsFront s (f ++ c ∷ [])

operator_front : (c : ℕ) (e : Js) (k : Place) (f : List ℕ) → f ≡ place_text k ++ codes "(" ++ js_text e → Next f c (operator_at c e k)
operator_front c e k f h =
    ifs (Next f c) (nat_eq c 43) (λ q. on c 43 h q refl)
    (λ _. ifs (Next f c) (nat_eq c 45) (λ q. on c 45 h q refl)
    (λ _. ifs (Next f c) (nat_eq c 42) (λ q. on c 42 h q refl)
    (λ _. ifs (Next f c) (nat_eq c 61) (λ q. on c 61 h q refl)
    (λ _. ifs (Next f c) (nat_eq c 38) (λ q. then_known c 38 (codes "&") h q refl)
    (λ _. ifs (Next f c) (nat_eq c 124) (λ q. then_known c 124 (codes "|") h q refl)
    (λ _. ifs (Next f c) (nat_eq c 63) (λ q. on c 63 h q refl) (λ _. tt)))))))

on_bracket_front : (c : ℕ) (s : State) (f : List ℕ) → IsFront s (f ++ 41 ∷ []) → Next f c (on_bracket c s)
on_bracket_front c s f h = ifs (Next f c) (nat_eq c 41) (λ q. rw (same c 41 q) h) (λ _. tt)

close_front : (k : Place) (e : Js) (c : ℕ) (f : List ℕ) → f ≡ place_text k ++ js_text e → Next f c (close k e c)
close_front (ArgumentOf g k) e c f h = on_bracket_front c _ f (rw h (simp append_assoc))
close_front (FirstIn k) e c f h = operator_front c e k f h
close_front (RightOf op a k) e c f h = on_bracket_front c _ f (rw h (simp append_assoc))
close_front (ThenOf t k) e c f h = ifs (Next f c) (nat_eq c 58) (λ q. on c 58 h q refl) (λ _. tt)
close_front (ElseOf t a k) e c f h = on_bracket_front c _ f (rw h (simp append_assoc))
close_front (FieldIn before key k) e c f h =
    ifs (Next f c) (nat_eq c 44) (λ q. on c 44 h q (simp append_assoc))
    (λ _. ifs (Next f c) (nat_eq c 125) (λ q. on c 125 h q (rw (members_end before key e) (simp append_assoc))) (λ _. tt))
close_front (ListIn before k) e c f h =
    ifs (Next f c) (nat_eq c 44) (λ q. on c 44 h q (simp append_assoc))
    (λ _. ifs (Next f c) (nat_eq c 93) (λ q. then_known c 93 (codes ")") h q (rw (items_end before e) (simp append_assoc))) (λ _. tt))
close_front (GivenTo p before k) e c f h =
    ifs (Next f c) (nat_eq c 44) (λ q. on c 44 h q (simp append_assoc))
    (λ _. on_bracket_front c _ f (rw (h, items_end before e) (simp append_assoc)))
close_front (ConstIn before x b) e c f h = ifs (Next f c) (nat_eq c 59) (λ q. on c 59 h q (simp append_assoc)) (λ _. tt)
close_front (LetIn before x b) e c f h = ifs (Next f c) (nat_eq c 59) (λ q. on c 59 h q (simp append_assoc)) (λ _. tt)
close_front (AssignIn before x b) e c f h = ifs (Next f c) (nat_eq c 59) (λ q. on c 59 h q (simp append_assoc)) (λ _. tt)
close_front (ReturnIn before b) e c f h = ifs (Next f c) (nat_eq c 59) (λ q. on c 59 h q (simp append_assoc)) (λ _. tt)
close_front (TestIn before b) e c f h = ifs (Next f c) (nat_eq c 41) (λ q. then_known c 41 (codes "{") h q (simp append_assoc)) (λ _. tt)
close_front (LineIn before x) e c f h = ifs (Next f c) (nat_eq c 59) (λ q. then_known c 59 (codes "\n") h q (simp append_assoc)) (λ _. tt)
close_front (MainIn before name) e c f h = ifs (Next f c) (nat_eq c 44) (λ q. then_known c 44 (codes "\"flags\":") h q refl) (λ _. tt)
close_front (FlagsIn before name main) e c f h = ifs (Next f c) (nat_eq c 44) (λ q. then_known c 44 (codes "\"ins\":{") h q (sym (append-nil _))) (λ _. tt)
close_front (PortIn g before key) e c f h =
    ifs (Next f c) (nat_eq c 44) (λ q. on c 44 h q (simp append_assoc))
    (λ _. ifs (Next f c) (nat_eq c 125) (λ q. then_known c 125 (codes ",\"outs\":{") h q (rw (members_end before key e) (simp append_assoc))) (λ _. tt))

no_parameter_front : (k : Place) (c : ℕ) (f : List ℕ) → f ≡ place_text (FirstIn k) → Next f c (no_parameter k c)
no_parameter_front (FirstIn k) c f h = ifs (Next f c) (nat_eq c 41) (λ q. then_known c 41 (codes "=>{") h q (simp append_assoc)) (λ _. tt)
no_parameter_front k c f h = tt

no_expression_front : (k : Place) (c : ℕ) (f : List ℕ) → f ≡ place_text k → Next f c (no_expression k c)
no_expression_front (ListIn NoItem k) c f h = ifs (Next f c) (nat_eq c 93) (λ q. then_known c 93 (codes ")") h q (simp append_assoc)) (λ _. tt)
no_expression_front (GivenTo p NoItem k) c f h = on_bracket_front c _ f (rw h (simp append_assoc))
no_expression_front (FirstIn k) c f h = ifs (Next f c) (nat_eq c 45) (λ q. on c 45 h q (simp append_assoc)) (λ _. no_parameter_front k c f h)
no_expression_front k c f h = tt

have_front : (e : Js) (k : Place) (c : ℕ) (f : List ℕ) → f ≡ place_text k ++ js_text e → Next f c (have e k c)
have_front e k c f h =
    ifs (Next f c) (nat_eq c 40) (λ q. on c 40 h q refl)
    (λ _. ifs (Next f c) (nat_eq c 91) (λ q. then_known c 91 (codes "\"") h q (simp append_assoc)) (λ _. close_front k e c f h))

-- a name begins, or goes on
name_at_front : (n : Begun) (a : NameAt) (g f : List ℕ) → g ≡ name_front a → Reads n f → IsFront (name_at n a) (g ++ f)
name_at_front NoName a g f h r = tt
name_at_front OneDollar a g f h r = rw (h, r) refl
name_at_front TwoDollars a g f h r = rw (h, r) refl
name_at_front (Numbered n) a g f h r = rw (h, r) refl
name_at_front (NameWord o us) a g f h r = rw (h, r) refl
name_at_front (Dollar o us) a g f h r = rw (h, r) refl
name_at_front (Digits o us n v) a g f h r = rw (h, r) refl

begin_front : (a : NameAt) (c : ℕ) (f : List ℕ) → f ≡ name_front a → Next f c (name_at (begin_name c) a)
begin_front a c f h = name_at_front (begin_name c) a f (c ∷ []) h (name_begun c)

after_name_front : (x : Name) (a : NameAt) (c : ℕ) (f : List ℕ) → f ≡ name_front a ++ name_text x → Next f c (after_name x a c)
after_name_front x (Variable k) c f h = have_front (JVar x) k c f h
after_name_front x (ConstAt before b) c f h = ifs (Next f c) (nat_eq c 61) (λ q. on c 61 h q refl) (λ _. tt)
after_name_front x (LetAt before b) c f h = ifs (Next f c) (nat_eq c 61) (λ q. on c 61 h q refl) (λ _. tt)
after_name_front x (AssignAt before b) c f h = ifs (Next f c) (nat_eq c 61) (λ q. on c 61 h q refl) (λ _. tt)
after_name_front x (LineAt before) c f h = ifs (Next f c) (nat_eq c 61) (λ q. on c 61 h q refl) (λ _. tt)

end_name_front : (n : Begun) (found : Found) (a : NameAt) (c : ℕ) (f : List ℕ) → name_of n ≡ found → begun_fits n ≡ true → f ≡ name_front a ++ begun_text n → Next f c (end_name found a c)
end_name_front n Not a c f e b h = tt
end_name_front n (Name_is x) a c f e b h = after_name_front x a c f (rw (h, (name_ends n x b e).0) refl)

in_name_front : (n : Begun) (a : NameAt) (c : ℕ) (f : List ℕ) → begun_fits n ≡ true → f ≡ name_front a ++ begun_text n → Next f c (in_name n a c)
in_name_front n a c f b h =
    ifs (Next f c) (is_run c)
    (λ _. rw h (subst (λ g. IsFront (name_at (name_step n c) a) g) (sym (append_assoc (name_front a) (begun_text n) (c ∷ []))) (name_at_front (name_step n c) a (name_front a) (begun_text n ++ c ∷ []) refl (name_reads n c (begun_text n) b (reads_itself n)))))
    (λ _. end_name_front n (name_of n) a c f refl b h)

int_at_front : (n : ℕ) (k : Place) (f : List ℕ) → f ≡ place_text k ++ decimal n → IsFront (int_at n k) f
int_at_front n k f h = ifs (λ s. IsFront s f) (is_exact (pos n)) (λ _. h) (λ _. tt)

negative_at_front : (n : ℕ) (k : Place) (f : List ℕ) → f ≡ place_text k ++ codes "(-" ++ decimal n → IsFront (negative_at n k) f
negative_at_front n k f h = ifs (λ s. IsFront s f) (is_exact (minus n) && nat_lt 0 n) (λ _. h) (λ _. tt)

exact_fits : (n : ℕ) → is_exact (pos n) ≡ true → n < 2 ^ 64
exact_fits n h = grind (arith, nat_tests)

pub same_bytes : (x y : List ℕ) → bytes_eq x y ≡ true → x ≡ y
same_bytes x y e = (bytes_eq-Decides x y).0 e

-- the words
word_front : (w : Word) (k : Place) (f : List ℕ) → f ≡ place_text k ++ word_text w → IsFront (after_word w k) f
word_front TrueWord k f h = h
word_front FalseWord k f h = h
word_front ListWord k f h = h ∙ sym (append-nil _)
word_front (HelperWord p) k f h = h ∙ simp append_assoc

find_word_front : (ws : List Word) (cs : List ℕ) (none : State) (k : Place) (f : List ℕ) → f ≡ place_text k ++ cs → IsFront none f → IsFront (find_word ws cs none (λ w. after_word w k)) f
find_word_front [] cs none k f h n = n
find_word_front (w ∷ ws) cs none k f h n =
    ifs (λ s. IsFront s f) (bytes_eq (word_text w) cs) (λ q. word_front w k f (h ∙ ap (λ (v : List ℕ). place_text k ++ v) (sym (same_bytes (word_text w) cs q)))) (λ _. find_word_front ws cs none k f h n)

in_word_front : (cs : List ℕ) (k : Place) (f : List ℕ) → f ≡ place_text k ++ cs → IsFront (in_word cs k) f
in_word_front cs k f h = find_word_front words cs _ k f h (ifs (λ s. IsFront s f) (list_any (λ w. begins_with (word_text w) cs) words) (λ _. h) (λ _. tt))

in_keyword_front : (cs : List ℕ) (before : Before) (b : Block) (f : List ℕ) → f ≡ block_text b ++ before_text before ++ cs → IsFront (in_keyword cs before b) f
in_keyword_front cs before b f h =
    ifs (λ s. IsFront s f) (bytes_eq cs (codes "const ")) (λ q. h ∙ word (codes "const ") q)
    (λ _. ifs (λ s. IsFront s f) (bytes_eq cs (codes "let ")) (λ q. h ∙ word (codes "let ") q)
    (λ _. ifs (λ s. IsFront s f) (bytes_eq cs (codes "return ")) (λ q. h ∙ word (codes "return ") q)
    (λ _. ifs (λ s. IsFront s f) (bytes_eq cs (codes "if(")) (λ q. h ∙ word (codes "if(") q)
    (λ _. ifs (λ s. IsFront s f) (bytes_eq cs (codes "while(true){")) (λ q. h ∙ (word (codes "while(true){") q ∙ sym (append-nil _)))
    (λ _. ifs (λ s. IsFront s f) (bytes_eq cs (codes "continue;")) (λ q. h ∙ word (codes "continue;") q)
    (λ _. ifs (λ s. IsFront s f) (list_any (λ w. begins_with w cs) begin_statement_words) (λ _. h) (λ _. tt)))))))
  where
    word : (w : List ℕ) → bytes_eq cs w ≡ true → block_text b ++ before_text before ++ cs ≡ block_text b ++ before_text before ++ w
    word w q = ap (λ (v : List ℕ). block_text b ++ before_text before ++ v) (same_bytes cs w q)

want_front : (k : Place) (c : ℕ) (f : List ℕ) → f ≡ place_text k → Next f c (want k c)
want_front k c f h =
    ifs (Next f c) (nat_eq c 36 || is_upper c) (λ _. begin_front (Variable k) c f h)
    (λ _. ifs (Next f c) (is_digit c) (λ d. int_at_front (c - 48) k _ (rw (h, first_digit c d) refl))
    (λ _. ifs (Next f c) (nat_eq c 34) (λ q. on c 34 h q refl)
    (λ _. ifs (Next f c) (nat_eq c 40) (λ q. on c 40 h q refl)
    (λ _. ifs (Next f c) (nat_eq c 123) (λ q. on c 123 h q (sym (append-nil _)))
    (λ _. ifs (Next f c) (nat_eq c 95 || (nat_eq c 116 || nat_eq c 102)) (λ _. in_word_front (c ∷ []) k _ (rw h refl))
    (λ _. no_expression_front k c f h))))))

in_int_front : (n : ℕ) (k : Place) (c : ℕ) (f : List ℕ) → is_exact (pos n) ≡ true → f ≡ place_text k ++ decimal n → Next f c (in_int n k c)
in_int_front n k c f x h =
    ifs (Next f c) (is_digit c)
    (λ d. ifs (Next f c) (nat_eq n 0) (λ _. tt) (λ z. digit d z))
    (λ _. have_front (JInt (pos n)) k c f h)
  where
    grows : (n c : ℕ) → is_exact (pos n) ≡ true → is_digit c ≡ true → n * 10 + (c - 48) < 2 ^ 64
    grows n c x d = grind (arith, nat_tests)

    digit : is_digit c ≡ true → nat_eq n 0 ≡ false → Next f c (int_at (n * 10 + (c - 48)) k)
    digit d z = int_at_front (n * 10 + (c - 48)) k _ (rw h (append_assoc (place_text k) (decimal n) (c ∷ []) ∙ ap (λ (v : List ℕ). place_text k ++ v) (number_grows n c (grind (arith, nat_tests)) (exact_fits n x) (grows n c x d) d)))

in_negative_front : (n : ℕ) (k : Place) (c : ℕ) (f : List ℕ) → is_exact (minus n) ≡ true → 0 < n → f ≡ place_text k ++ codes "(-" ++ decimal n → Next f c (in_negative n k c)
in_negative_front zero k c f x z h = absurd (omega (arith, z))
in_negative_front (suc n) k c f x z h =
    ifs (Next f c) (is_digit c)
    (λ d. negative_at_front (suc n * 10 + (c - 48)) k _ (rw h (append_assoc (place_text k ++ codes "(-") (decimal (suc n)) (c ∷ []) ∙ ap (λ (v : List ℕ). place_text k ++ codes "(-" ++ v) (number_grows (suc n) c z (small n x) (grows n c x d) d))))
    (λ _. on_bracket_front c _ f (rw h (simp append_assoc)))
  where
    small : (n : ℕ) → is_exact (minus (suc n)) ≡ true → suc n < 2 ^ 64
    small n x = grind (arith, nat_tests)

    grows : (n c : ℕ) → is_exact (minus (suc n)) ≡ true → is_digit c ≡ true → suc n * 10 + (c - 48) < 2 ^ 64
    grows n c x d = grind (arith, nat_tests)

after_text_front : (us : List ℕ) (a : TextAt) (f : List ℕ) → f ≡ text_front a ++ text_text us → IsFront (after_text us a) f
after_text_front us (Literal k) f h = h
after_text_front us (Key before (Value k)) f h = rw h (simp append_assoc)
after_text_front us (Key before (Ports g)) f h = rw h (simp append_assoc)
after_text_front us (PropertyOf e k) f h = rw h (simp append_assoc)
after_text_front us (ModuleIn before) f h = rw h refl
after_text_front us (OutIn g ins []) f h = rw h (simp append_assoc)
after_text_front us (OutIn g ins (o ∷ outs)) f h = rw h (simp append_assoc)

units_grow : (us : List ℕ) (u : ℕ) → units_text (us ++ u ∷ []) ≡ units_text us ++ unit_text u
units_grow [] u = append-nil _
units_grow (v ∷ us) u = ap (λ (ws : List ℕ). unit_text v ++ ws) (units_grow us u) ∙ sym (append_assoc (unit_text v) (units_text us) (unit_text u))

plain_text : (c : ℕ) → nat_eq c 34 ≡ false → nat_eq c 92 ≡ false → is_plain c ≡ true → unit_text c ≡ c ∷ []
plain_text c p q r = rw (p, q, r) refl

escaped_text : (c : ℕ) → (nat_eq c 34 || nat_eq c 92) ≡ true → unit_text c ≡ 92 ∷ c ∷ []
escaped_text c p = rw p refl

pub spelled_text : (u : ℕ) → (nat_lt u 32 || nat_lt 126 u) ≡ true → unit_text u ≡ codes "\\u" ++ hex4 u
spelled_text u p = let q : (nat_eq u 34 || nat_eq u 92) ≡ false = grind (arith, nat_tests) in let r : is_plain u ≡ false = grind (arith, nat_tests) in rw (q, r) refl

pub text_grows : (g us t : List ℕ) (u : ℕ) → unit_text u ≡ t → g ++ 34 ∷ (units_text us ++ t) ≡ g ++ 34 ∷ units_text (us ++ u ∷ [])
text_grows g us t u h = ap (λ (v : List ℕ). g ++ 34 ∷ (units_text us ++ v)) (sym h) ∙ ap (λ (v : List ℕ). g ++ 34 ∷ v) (sym (units_grow us u))

in_text_front : (us : List ℕ) (a : TextAt) (c : ℕ) (f : List ℕ) → f ≡ text_front a ++ 34 ∷ units_text us → Next f c (in_text us a c)
in_text_front us a c f h = by_kind (nat_eq c 34) (nat_eq c 92) refl refl
  where
    by_kind : (p q : Bool) → nat_eq c 34 ≡ p → nat_eq c 92 ≡ q → Next f c (in_text us a c)
    by_kind true q x y = rw x (after_text_front us a _ (rw (h, same c 34 x) (simp append_assoc)))
    by_kind false true x y = rw (x, y) (on c 92 h y (simp append_assoc))
    by_kind false false x y = rw (x, y) (ifs (Next f c) (is_plain c) (λ r. rw h (append_assoc (text_front a) (34 ∷ units_text us) (c ∷ []) ∙ text_grows (text_front a) us (c ∷ []) c (plain_text c x y r))) (λ _. tt))

in_escape_front : (us : List ℕ) (a : TextAt) (c : ℕ) (f : List ℕ) → f ≡ text_front a ++ 34 ∷ (units_text us ++ 92 ∷ []) → Next f c (in_escape us a c)
in_escape_front us a c f h =
    ifs (Next f c) (nat_eq c 34 || nat_eq c 92) (λ q. rw h (parts c ∙ text_grows (text_front a) us (92 ∷ c ∷ []) c (escaped_text c q)))
    (λ _. ifs (Next f c) (nat_eq c 117) (λ q. on c 117 h q (parts 117 ∙ sym (ap (λ (v : List ℕ). text_front a ++ 34 ∷ v) (append-nil _)))) (λ _. tt))
  where
    parts : (c : ℕ) → text_front a ++ 34 ∷ (units_text us ++ 92 ∷ []) ++ c ∷ [] ≡ text_front a ++ 34 ∷ (units_text us ++ 92 ∷ c ∷ [])
    parts c = simp append_assoc

next_digit_front : (us : List ℕ) (n v c : ℕ) (a : TextAt) (f : List ℕ) → n ≤ 3 → is_hex_digit c ≡ true → f ≡ text_front a ++ 34 ∷ (units_text us ++ codes "\\u" ++ digits_text n v) → Next f c (next_digit us n (v * 16 + hex_value c) a)
next_digit_front us zero v c a f l d h =
    ifs (Next f c) (nat_lt (v * 16 + hex_value c) 32 || nat_lt 126 (v * 16 + hex_value c))
    (λ q. rw h (parts (digits_text 0 v) ∙ text_grows (text_front a) us _ (v * 16 + hex_value c) (spelled_text (v * 16 + hex_value c) q ∙ ap (λ (w : List ℕ). codes "\\u" ++ w) (sym (digits_end v c d)))))
    (λ _. tt)
  where
    parts : (ds : List ℕ) → text_front a ++ 34 ∷ (units_text us ++ codes "\\u" ++ ds) ++ c ∷ [] ≡ text_front a ++ 34 ∷ (units_text us ++ (codes "\\u" ++ (ds ++ c ∷ [])))
    parts ds = simp append_assoc
next_digit_front us (suc n) v c a f l d h =
    ifs (Next f c) (nat_lt ((v * 16 + hex_value c) * 16 ^ suc n) 32 || nat_lt 126 (greatest (suc n) (v * 16 + hex_value c)))
    (λ q. rw h (parts (digits_text (suc n) v) ∙ ap (λ (w : List ℕ). text_front a ++ 34 ∷ (units_text us ++ codes "\\u" ++ w)) (digits_go_on n v c (omega (arith, l)) d)))
    (λ _. tt)
  where
    parts : (ds : List ℕ) → text_front a ++ 34 ∷ (units_text us ++ codes "\\u" ++ ds) ++ c ∷ [] ≡ text_front a ++ 34 ∷ (units_text us ++ codes "\\u" ++ (ds ++ c ∷ []))
    parts ds = simp append_assoc

close_fields_front : (before : Members) (a : ObjectAt) (c : ℕ) (f : List ℕ) → nat_eq c 125 ≡ true → f ≡ object_text a ++ members_text before → Next f c (close_fields before a)
close_fields_front NoMember (Value k) c f q h = on c 125 h q (simp append_assoc)
close_fields_front NoMember (Ports g) c f q h = then_known c 125 (codes ",\"outs\":{") h q (simp append_assoc)
close_fields_front (Member before k e) a c f q h = tt

want_field_front : (before : Members) (a : ObjectAt) (c : ℕ) (f : List ℕ) → f ≡ object_text a ++ members_text before → Next f c (want_field before a c)
want_field_front before a c f h =
    ifs (Next f c) (nat_eq c 34) (λ q. on c 34 h q refl) (λ _. ifs (Next f c) (nat_eq c 125) (λ q. close_fields_front before a c f q h) (λ _. tt))

want_statement_front : (before : Before) (b : Block) (c : ℕ) (f : List ℕ) → f ≡ block_text b ++ before_text before → Next f c (want_statement before b c)
want_statement_front before b c f h =
    ifs (Next f c) (nat_eq c 36 || is_upper c) (λ _. begin_front (AssignAt before b) c f h) (λ _. in_keyword_front (c ∷ []) before b _ (rw h refl))

no_arrow : (e : Js) (k : Place) (c : ℕ) (f : List ℕ) → f ≡ place_text k ++ codes "(" ++ js_text e ++ codes "=" → Next f c (if c == 61 then Known (codes "=") (Want (RightOf StrictEquals e k)) else Dead)
no_arrow e k c f h = ifs (Next f c) (nat_eq c 61) (λ q. then_known c 61 (codes "=") h q (simp append_assoc)) (λ _. tt)

equals_front : (e : Js) (k : Place) (c : ℕ) (f : List ℕ) → f ≡ place_text k ++ codes "(" ++ js_text e ++ codes "=" → Next f c (equals e k c)
equals_front (JVar p) k c f h =
    ifs (Next f c) (nat_eq c 62) (λ q. then_known c 62 (codes "{") h q (simp append_assoc)) (λ _. no_arrow (JVar p) k c f h)
equals_front e k c f h = no_arrow e k c f h

want_line_name_front : (before : LinesBefore) (c : ℕ) (f : List ℕ) → f ≡ lines_before_text before ++ codes "const " → Next f c (want_line_name before c)
want_line_name_front before c f h =
    ifs (Next f c) (nat_eq c 95) (λ q. then_known c 95 (codes "main={\"name\":\"") h q (simp append_assoc)) (λ _. begin_front (LineAt before) c f h)

close_block_front : (s : Stmts) (b : Block) (c : ℕ) (f : List ℕ) → nat_eq c 125 ≡ true → f ≡ block_text b ++ stmts_text s → Next f c (close_block s b)
close_block_front s (BodyOf p k) c f q h = then_known c 125 (codes ")") h q (simp append_assoc)
close_block_front s (CalledIn k) c f q h = then_known c 125 (codes ")()") h q (simp append_assoc)
close_block_front s (ThenIn before t b) c f q h = then_known c 125 (codes "else{") h q (simp append_assoc)
close_block_front s (ElseIn before t u b) c f q h = on c 125 h q (simp append_assoc)
close_block_front s (LoopIn before b) c f q h = on c 125 h q (simp append_assoc)

ended_front : (before : Before) (s : Stmts) (b : Block) (c : ℕ) (f : List ℕ) → f ≡ block_text b ++ before_text before ++ stmts_text s → Next f c (step (Ended before s b) c)
ended_front before s b c f h =
    ifs (Next f c) (nat_eq c 125) (λ q. close_block_front (statements_then before s) b c f q (h ∙ (append_assoc (block_text b) (before_text before) (stmts_text s) ∙ ap (λ (v : List ℕ). block_text b ++ v) (sym (statements_whole before s))))) (λ _. tt)

known_front : (cs : List ℕ) (s : State) (f : List ℕ) → IsFront s (f ++ cs) → IsFront (known cs s) f
known_front [] s f h = subst (λ g. IsFront s g) (append-nil f) h
known_front (c ∷ cs) s f h = h

-- the end
object_parts : (a b c m y z k1 k2 k3 k4 k5 n e d i o : List ℕ)
    → a ++ (b ++ (k1 ++ c ++ n ++ (m ++ k2 ++ c ++ e ++ (m ++ k3 ++ c ++ d ++ (m ++ k4 ++ c ++ (b ++ i ++ z) ++ (m ++ k5 ++ c ++ (b ++ o ++ z) ++ []))))) ++ z) ++ y
    ≡ (a ++ b ++ k1 ++ c) ++ n ++ (m ++ k2 ++ c) ++ e ++ (m ++ k3 ++ c) ++ d ++ (m ++ k4 ++ c ++ b) ++ i ++ (z ++ m ++ k5 ++ c ++ b) ++ o ++ (z ++ z ++ y)
object_parts a b c m y z k1 k2 k3 k4 k5 n e d i o = simp (append_assoc, append-nil)

pub main_parts : (p : Program) → main_text p ≡ codes "const _main={\"name\":" ++ text_text p.name ++ codes ",\"program\":" ++ js_text p.main ++ codes ",\"flags\":" ++ js_text p.flags ++ codes ",\"ins\":{" ++ fields_text p.ins
    ++ codes "},\"outs\":{" ++ fields_text (outs_fields p.outs) ++ codes "}};\n"
main_parts p = object_parts (codes "const _main=") (codes "{") (codes ":") (codes ",") (codes ";\n") (codes "}") (codes "\"name\"") (codes "\"program\"") (codes "\"flags\"") (codes "\"ins\"") (codes "\"outs\"") (text_text p.name) (js_text p.main) (js_text p.flags) (fields_text p.ins) (fields_text (outs_fields p.outs))

whole_parts : (lines name main flags ins ports tail : List ℕ)
    → lines ++ (codes "const _main={\"name\":" ++ name ++ codes ",\"program\":" ++ main ++ codes ",\"flags\":" ++ flags ++ codes ",\"ins\":{" ++ ins ++ codes "},\"outs\":{" ++ ports ++ codes "}};\n") ++ tail
    ≡ lines ++ codes "const _main={\"name\":" ++ name ++ codes ",\"program\":" ++ main ++ codes ",\"flags\":" ++ flags ++ codes ",\"ins\":{" ++ ins ++ codes "},\"outs\":{" ++ ports ++ (codes "}};\n" ++ tail)
whole_parts lines name main flags ins ports tail = simp append_assoc

pub whole_text : (g : Front) (ins : Fields) (outs : List (List ℕ)) → JsText (program_of g ins outs) (outs_front g ins ++ fields_text (outs_fields outs) ++ (codes "}};\n" ++ TAIL.now))
whole_text g ins outs =
    let p : Program = program_of g ins outs in
    sym (ap (λ (v : List ℕ). v ++ main_text p ++ TAIL.now) (lines_whole g.lines NoLine ∙ append-nil (lines_before_text g.lines))
    ∙ (ap (λ (v : List ℕ). lines_before_text g.lines ++ v ++ TAIL.now) (main_parts p)
    ∙ (whole_parts (lines_before_text g.lines) (text_text g.name) (js_text g.main) (js_text g.flags) (fields_text ins) (fields_text (outs_fields outs)) TAIL.now)))

-- the known characters that end a text, after what was read
end_front : (g : Front) (ins : Fields) (outs : List (List ℕ)) (c : ℕ) (f : List ℕ) → nat_eq c 125 ≡ true → f ≡ outs_front g ins ++ fields_text (outs_fields outs) → Next f c (end_outs g ins outs)
end_front g ins outs c f q h = then_known c 125 (codes "};\n" ++ TAIL.now) h q (whole_text g ins outs)

want_out_front : (g : Front) (ins : Fields) (outs : List (List ℕ)) (c : ℕ) (f : List ℕ) → f ≡ outs_front g ins ++ outs_before outs → Next f c (want_out g ins outs c)
want_out_front g ins [] c f h =
    ifs (Next f c) (nat_eq c 34) (λ q. on c 34 h q refl) (λ _. ifs (Next f c) (nat_eq c 125) (λ q. end_front g ins [] c f q h) (λ _. tt))
want_out_front g ins (o ∷ outs) c f h = ifs (Next f c) (nat_eq c 34) (λ q. on c 34 h q refl) (λ _. tt)

have_out_front : (g : Front) (ins : Fields) (o : List ℕ) (outs : List (List ℕ)) (c : ℕ) (f : List ℕ) → f ≡ outs_front g ins ++ outs_text (o ∷ outs) → Next f c (have_out g ins o outs c)
have_out_front g ins o outs c f h =
    ifs (Next f c) (nat_eq c 44) (λ q. on c 44 h q (simp append_assoc))
    (λ _. ifs (Next f c) (nat_eq c 125) (λ q. end_front g ins (reversed_onto (o ∷ outs) []) c f q (h ∙ ap (λ (v : List ℕ). outs_front g ins ++ v) (sym (outs_end outs o)))) (λ _. tt))

known_step : (cs : List ℕ) (s : State) (c : ℕ) (f : List ℕ) → IsFront s (f ++ cs) → Next f c (step (Known cs s) c)
known_step [] s c f h = tt
known_step (d ∷ ds) s c f h =
    ifs (Next f c) (nat_eq c d) (λ q. known_front ds s (f ++ c ∷ []) (subst (λ g. IsFront s g) (rw (same c d q) (sym (append_assoc f (d ∷ []) ds))) h)) (λ _. tt)

minus_step : (k : Place) (c : ℕ) (f : List ℕ) → f ≡ place_text k ++ codes "(-" → Next f c (step (Minus_seen k) c)
minus_step k c f h = ifs (Next f c) (is_digit c) (λ d. negative_at_front (c - 48) k _ (rw (h, first_digit c d) refl)) (λ _. tt)

digits_step : (us : List ℕ) (n v : ℕ) (a : TextAt) (c : ℕ) (f : List ℕ) → nat_le n 3 ≡ true → f ≡ text_front a ++ 34 ∷ (units_text us ++ codes "\\u" ++ digits_text n v) → Next f c (step (InDigits us n v a) c)
digits_step us n v a c f l h = ifs (Next f c) (is_hex_digit c) (λ d. next_digit_front us n v c a f (grind (arith, nat_tests)) d h) (λ _. tt)

-- one character more
pub step_front : (s : State) (c : ℕ) (f : List ℕ) → state_fits s ≡ true → IsFront s f → IsFront (step s c) (f ++ c ∷ [])
step_front (Want k) c f fits h = want_front k c f h
step_front (Have e k) c f fits h = have_front e k c f h
step_front (InName n a) c f fits h = in_name_front n a c f (and_true (is_begun n) (begun_fits n) (and_true (name_at_fits a) (is_begun n && begun_fits n) fits).1).1 h
step_front (InInt n k) c f fits h = in_int_front n k c f (and_true (place_fits k) (is_exact (pos n)) fits).1 h
step_front (Minus_seen k) c f fits h = minus_step k c f h
step_front (InNegative n k) c f fits h = let w = and_true (place_fits k) (is_exact (minus n) && nat_lt 0 n) fits in let v = and_true (is_exact (minus n)) (nat_lt 0 n) w.1 in in_negative_front n k c f v.0 (some n v.1) h
  where
    some : (n : ℕ) → nat_lt 0 n ≡ true → 0 < n
    some n h = grind (arith, nat_tests)
step_front (InText us a) c f fits h = in_text_front us a c f h
step_front (InEscape us a) c f fits h = in_escape_front us a c f h
step_front (InDigits us n v a) c f fits h =
    let w = and_true (text_fits a) (list_all is_unit us && escape_fits n v) fits in
    let x = and_true (list_all is_unit us) (escape_fits n v) w.1 in
    digits_step us n v a c f (and_true (nat_le n 3) _ x.1).0 h
step_front (InWord cs k) c f fits h = in_word_front (cs ++ c ∷ []) k (f ++ c ∷ []) (rw h (append_assoc (place_text k) cs (c ∷ [])))
step_front (WantName a) c f fits h = begin_front a c f h
step_front (WantField before a) c f fits h = want_field_front before a c f h
step_front (WantStatement before b) c f fits h = want_statement_front before b c f h
step_front (InKeyword cs before b) c f fits h = in_keyword_front (cs ++ c ∷ []) before b (f ++ c ∷ []) (rw h (append_assoc (block_text b ++ before_text before) cs (c ∷ [])))
step_front (Ended before s b) c f fits h = ended_front before s b c f h
step_front (Equals e k) c f fits h = equals_front e k c f h
step_front (WantLine before) c f fits h = ifs (Next f c) (nat_eq c 99) (λ q. then_known c 99 (codes "onst ") h q refl) (λ _. tt)
step_front (WantLineName before) c f fits h = want_line_name_front before c f h
step_front (WantOut g ins outs) c f fits h = want_out_front g ins outs c f h
step_front (HaveOut g ins o outs) c f fits h = have_out_front g ins o outs c f h
step_front (Known cs s) c f fits h = known_step cs s c f h
step_front (Finished p) c f fits h = tt
step_front Dead c f fits h = tt

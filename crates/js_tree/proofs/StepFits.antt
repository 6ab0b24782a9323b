-- What has been read stays spelled.
use Rattle.std.proofs.Common.{◌≡◌, ℕ, zero, suc, ◌+◌, ◌-◌, ◌*◌, ◌<◌, ◌^◌, pos, List, [], ◌∷◌, ◌++◌, Bool, true, ◌&&◌}
use Rattle.std.proofs.Common.{◌||◌, ◌==◌, nat_eq, nat_le, nat_lt, if◌then◌else◌, refl, arith, codes}
use Rattle.std.proofs.lemmas.Bool.Decides.{nat_tests}
use Rattle.std.specs.List.{list_all, list_any}
use Rattle.std.specs.Str.{bytes_eq}
use Rattle.js_tree.specs.Tree.{Name, StrictEquals, Js, JInt, JVar, JsList, NoJs, MoreJs, Fields, NoField, MoreField}
use Rattle.js_tree.specs.Tree.{Stmts, Const, Let, Assign, Lines, NoLine, MoreLine}
use Rattle.wire_value.specs.Exact.{is_exact}
use Rattle.js_tree.specs.Subset.{is_upper, is_unit, is_name, is_spelled, list_spelled, fields_spelled, are_spelled}
use Rattle.js_tree.specs.Subset.{lines_spelled}
use Rattle.js_tree.specs.NameReader.{Begun, OneDollar, TwoDollars, Numbered, NameWord, Dollar, Digits, NoName}
use Rattle.js_tree.specs.NameReader.{begin_name, name_step, name_of, Found, Not, Name_is, is_begun, is_run, is_digit}
use Rattle.js_tree.specs.NameReader.{is_hex_digit, hex_value, greatest}
use Rattle.js_tree.proofs.NameTexts.{begun_fits}
use Rattle.js_tree.proofs.NameFronts.{ifs, and_true, both_true, list_all-append, name_fits, name_ends, name_begins}
use Rattle.js_tree.proofs.NameFronts.{hex_value_fits}
use Rattle.js_tree.specs.Automaton.{Items, NoItem, Item, Members, NoMember, Member, Before, NoStatement, ConstThen}
use Rattle.js_tree.specs.Automaton.{LetThen, AssignThen, LinesBefore, NoLineYet, LineThen, items_then, members_then}
use Rattle.js_tree.specs.Automaton.{statements_then, lines_then, Front, Place, ArgumentOf, FirstIn, RightOf, ThenOf}
use Rattle.js_tree.specs.Automaton.{ElseOf, FieldIn, ListIn, GivenTo, ConstIn, LetIn, AssignIn, ReturnIn, TestIn}
use Rattle.js_tree.specs.Automaton.{LineIn, MainIn, FlagsIn, PortIn, Block, BodyOf, CalledIn, ThenIn, ElseIn, LoopIn}
use Rattle.js_tree.specs.Automaton.{ObjectAt, Value, Ports, TextAt, Literal, Key, PropertyOf, ModuleIn, OutIn, NameAt}
use Rattle.js_tree.specs.Automaton.{Variable, ConstAt, LetAt, AssignAt, LineAt, State, Want, Have, InName, InInt}
use Rattle.js_tree.specs.Automaton.{Minus_seen, InNegative, InText, InEscape, InDigits, InWord, WantName, WantField}
use Rattle.js_tree.specs.Automaton.{WantStatement, InKeyword, Ended, Equals, WantLine, WantLineName, WantOut, HaveOut}
use Rattle.js_tree.specs.Automaton.{Known, Finished, Dead, Word, TrueWord, FalseWord, ListWord, HelperWord, words}
use Rattle.js_tree.specs.Automaton.{word_text, begins_with, begin_statement_words, after_word, find_word, in_word}
use Rattle.js_tree.specs.Automaton.{in_keyword, known, close_block, operator_at, on_bracket, close, have, no_parameter}
use Rattle.js_tree.specs.Automaton.{no_expression, name_at, int_at, minus, negative_at, want, after_name, end_name}
use Rattle.js_tree.specs.Automaton.{in_name, after_text, is_plain, in_text, in_escape, next_digit, close_fields}
use Rattle.js_tree.specs.Automaton.{want_field, want_statement, equals, want_line_name, end_outs, reversed_onto}
use Rattle.js_tree.specs.Automaton.{want_out, have_out, step, is_live}
use Rattle.js_tree.proofs.Fronts.{items_fit, members_fit, before_fits, lines_fit, front_fits, outs_fit, place_fits}
use Rattle.js_tree.proofs.Fronts.{block_fits, object_fits, text_fits, name_at_fits, escape_fits, state_fits}

-- with what follows
pub items_spelled : (before : Items) (es : JsList) → items_fit before ≡ true → list_spelled es ≡ true → list_spelled (items_then before es) ≡ true
items_spelled NoItem es h k = k
items_spelled (Item before e) es h k = let w = and_true (items_fit before) (is_spelled e) h in items_spelled before (MoreJs e es) w.0 (both_true (is_spelled e) _ w.1 k)

pub members_spelled : (before : Members) (fs : Fields) → members_fit before ≡ true → fields_spelled fs ≡ true → fields_spelled (members_then before fs) ≡ true
members_spelled NoMember fs h k = k
members_spelled (Member before i e) fs h k =
    let w = and_true (members_fit before) (list_all is_unit i && is_spelled e) h in
    let v = and_true (list_all is_unit i) (is_spelled e) w.1 in
    members_spelled before (MoreField i e fs) w.0 (both_true (list_all is_unit i) _ v.0 (both_true (is_spelled e) _ v.1 k))

pub statements_spelled : (before : Before) (s : Stmts) → before_fits before ≡ true → are_spelled s ≡ true → are_spelled (statements_then before s) ≡ true
statements_spelled NoStatement s h k = k
statements_spelled (ConstThen before x e) s h k =
    let w = and_true (before_fits before) (is_name x && is_spelled e) h in let v = and_true (is_name x) (is_spelled e) w.1 in
    statements_spelled before (Const x e s) w.0 (both_true (is_name x) _ v.0 (both_true (is_spelled e) _ v.1 k))
statements_spelled (LetThen before x e) s h k =
    let w = and_true (before_fits before) (is_name x && is_spelled e) h in let v = and_true (is_name x) (is_spelled e) w.1 in
    statements_spelled before (Let x e s) w.0 (both_true (is_name x) _ v.0 (both_true (is_spelled e) _ v.1 k))
statements_spelled (AssignThen before x e) s h k =
    let w = and_true (before_fits before) (is_name x && is_spelled e) h in let v = and_true (is_name x) (is_spelled e) w.1 in
    statements_spelled before (Assign x e s) w.0 (both_true (is_name x) _ v.0 (both_true (is_spelled e) _ v.1 k))

pub all_lines_spelled : (before : LinesBefore) (ls : Lines) → lines_fit before ≡ true → lines_spelled ls ≡ true → lines_spelled (lines_then before ls) ≡ true
all_lines_spelled NoLineYet ls h k = k
all_lines_spelled (LineThen before x e) ls h k =
    let w = and_true (lines_fit before) (is_name x && is_spelled e) h in let v = and_true (is_name x) (is_spelled e) w.1 in
    all_lines_spelled before (MoreLine x e ls) w.0 (both_true (is_name x) _ v.0 (both_true (is_spelled e) _ v.1 k))

abbrev Fits : State → Type 0
Fits s = state_fits s ≡ true

-- two and three parts of a test
pub two : (a b : Bool) → a ≡ true → b ≡ true → (a && b) ≡ true
two a b p q = both_true a b p q

pub three : (a b c : Bool) → a ≡ true → b ≡ true → c ≡ true → (a && (b && c)) ≡ true
three a b c p q r = both_true a (b && c) p (both_true b c q r)

pub thirds : (a b c : Bool) → (a && (b && c)) ≡ true → (a ≡ true) × ((b ≡ true) × (c ≡ true))
thirds a b c h = let w = and_true a (b && c) h in (w.0, and_true b c w.1)

operator_fits : (c : ℕ) (e : Js) (k : Place) → place_fits k ≡ true → is_spelled e ≡ true → Fits (operator_at c e k)
operator_fits c e k h g =
    let both = two (place_fits k) (is_spelled e) h g in
    ifs Fits (nat_eq c 43) (λ _. both) (λ _. ifs Fits (nat_eq c 45) (λ _. both) (λ _. ifs Fits (nat_eq c 42) (λ _. both) (λ _. ifs Fits (nat_eq c 61) (λ _. both)
    (λ _. ifs Fits (nat_eq c 38) (λ _. both) (λ _. ifs Fits (nat_eq c 124) (λ _. both) (λ _. ifs Fits (nat_eq c 63) (λ _. both) (λ _. refl)))))))

on_bracket_fits : (c : ℕ) (s : State) → Fits s → Fits (on_bracket c s)
on_bracket_fits c s h = ifs Fits (nat_eq c 41) (λ _. h) (λ _. refl)

close_fits : (k : Place) (e : Js) (c : ℕ) → place_fits k ≡ true → is_spelled e ≡ true → Fits (close k e c)
close_fits (ArgumentOf g k) e c h p = let w = and_true (place_fits k) (is_spelled g) h in on_bracket_fits c _ (three (place_fits k) (is_spelled g) (is_spelled e) w.0 w.1 p)
close_fits (FirstIn k) e c h p = operator_fits c e k h p
close_fits (RightOf op a k) e c h p = let w = and_true (place_fits k) (is_spelled a) h in on_bracket_fits c _ (three (place_fits k) (is_spelled a) (is_spelled e) w.0 w.1 p)
close_fits (ThenOf t k) e c h p = let w = and_true (place_fits k) (is_spelled t) h in ifs Fits (nat_eq c 58) (λ _. three (place_fits k) (is_spelled t) (is_spelled e) w.0 w.1 p) (λ _. refl)
close_fits (ElseOf t a k) e c h p =
    let w = thirds (place_fits k) (is_spelled t) (is_spelled a) h in
    on_bracket_fits c _ (two (place_fits k) _ w.0 (three (is_spelled t) (is_spelled a) (is_spelled e) w.1.0 w.1.1 p))
close_fits (FieldIn before key k) e c h p =
    let w = thirds (place_fits k) (members_fit before) (list_all is_unit key) h in
    ifs Fits (nat_eq c 44) (λ _. two (place_fits k) _ w.0 (three (members_fit before) (list_all is_unit key) (is_spelled e) w.1.0 w.1.1 p))
    (λ _. ifs Fits (nat_eq c 125) (λ _. two (place_fits k) _ w.0 (members_spelled before (MoreField key e NoField) w.1.0 (three (list_all is_unit key) (is_spelled e) true w.1.1 p refl))) (λ _. refl))
close_fits (ListIn before k) e c h p =
    let w = and_true (place_fits k) (items_fit before) h in
    ifs Fits (nat_eq c 44) (λ _. three (place_fits k) (items_fit before) (is_spelled e) w.0 w.1 p)
    (λ _. ifs Fits (nat_eq c 93) (λ _. two (place_fits k) _ w.0 (items_spelled before (MoreJs e NoJs) w.1 (two (is_spelled e) true p refl))) (λ _. refl))
close_fits (GivenTo g before k) e c h p =
    let w = and_true (place_fits k) (items_fit before) h in
    ifs Fits (nat_eq c 44) (λ _. three (place_fits k) (items_fit before) (is_spelled e) w.0 w.1 p)
    (λ _. on_bracket_fits c _ (two (place_fits k) _ w.0 (items_spelled before (MoreJs e NoJs) w.1 (two (is_spelled e) true p refl))))
close_fits (ConstIn before x b) e c h p =
    let w = thirds (block_fits b) (before_fits before) (is_name x) h in ifs Fits (nat_eq c 59) (λ _. two (block_fits b) _ w.0 (three (before_fits before) (is_name x) (is_spelled e) w.1.0 w.1.1 p)) (λ _. refl)
close_fits (LetIn before x b) e c h p =
    let w = thirds (block_fits b) (before_fits before) (is_name x) h in ifs Fits (nat_eq c 59) (λ _. two (block_fits b) _ w.0 (three (before_fits before) (is_name x) (is_spelled e) w.1.0 w.1.1 p)) (λ _. refl)
close_fits (AssignIn before x b) e c h p =
    let w = thirds (block_fits b) (before_fits before) (is_name x) h in ifs Fits (nat_eq c 59) (λ _. two (block_fits b) _ w.0 (three (before_fits before) (is_name x) (is_spelled e) w.1.0 w.1.1 p)) (λ _. refl)
close_fits (ReturnIn before b) e c h p =
    let w = and_true (block_fits b) (before_fits before) h in ifs Fits (nat_eq c 59) (λ _. three (block_fits b) (before_fits before) (is_spelled e) w.0 w.1 p) (λ _. refl)
close_fits (TestIn before b) e c h p =
    let w = and_true (block_fits b) (before_fits before) h in ifs Fits (nat_eq c 41) (λ _. two (block_fits (ThenIn before e b)) true (three (block_fits b) (before_fits before) (is_spelled e) w.0 w.1 p) refl) (λ _. refl)
close_fits (LineIn before x) e c h p = let w = and_true (lines_fit before) (is_name x) h in ifs Fits (nat_eq c 59) (λ _. three (lines_fit before) (is_name x) (is_spelled e) w.0 w.1 p) (λ _. refl)
close_fits (MainIn before name) e c h p = let w = and_true (lines_fit before) (list_all is_unit name) h in ifs Fits (nat_eq c 44) (λ _. three (lines_fit before) (list_all is_unit name) (is_spelled e) w.0 w.1 p) (λ _. refl)
close_fits (FlagsIn before name main) e c h p =
    let w = thirds (lines_fit before) (list_all is_unit name) (is_spelled main) h in
    ifs Fits (nat_eq c 44) (λ _. two (front_fits (record { lines = before; name = name; main = main; flags = e })) true (two (lines_fit before) _ w.0 (three (list_all is_unit name) (is_spelled main) (is_spelled e) w.1.0 w.1.1 p)) refl) (λ _. refl)
close_fits (PortIn g before key) e c h p =
    let w = thirds (front_fits g) (members_fit before) (list_all is_unit key) h in
    ifs Fits (nat_eq c 44) (λ _. two (front_fits g) _ w.0 (three (members_fit before) (list_all is_unit key) (is_spelled e) w.1.0 w.1.1 p))
    (λ _. ifs Fits (nat_eq c 125) (λ _. two (front_fits g) _ w.0 (two _ true (members_spelled before (MoreField key e NoField) w.1.0 (three (list_all is_unit key) (is_spelled e) true w.1.1 p refl)) refl)) (λ _. refl))

no_parameter_fits : (k : Place) (c : ℕ) → place_fits k ≡ true → Fits (no_parameter k c)
no_parameter_fits (FirstIn k) c h = ifs Fits (nat_eq c 41) (λ _. two (place_fits k) true h refl) (λ _. refl)
no_parameter_fits k c h = refl

no_expression_fits : (k : Place) (c : ℕ) → place_fits k ≡ true → Fits (no_expression k c)
no_expression_fits (ListIn NoItem k) c h = ifs Fits (nat_eq c 93) (λ _. h) (λ _. refl)
no_expression_fits (GivenTo p NoItem k) c h = on_bracket_fits c _ h
no_expression_fits (FirstIn k) c h = ifs Fits (nat_eq c 45) (λ _. h) (λ _. no_parameter_fits k c h)
no_expression_fits k c h = refl

have_fits : (e : Js) (k : Place) (c : ℕ) → place_fits k ≡ true → is_spelled e ≡ true → Fits (have e k c)
have_fits e k c h p =
    let both = two (place_fits k) (is_spelled e) h p in
    ifs Fits (nat_eq c 40) (λ _. both) (λ _. ifs Fits (nat_eq c 91) (λ _. two (text_fits (PropertyOf e k)) true both refl) (λ _. close_fits k e c h p))

name_at_is_fit : (n : Begun) (a : NameAt) → name_at_fits a ≡ true → begun_fits n ≡ true → Fits (name_at n a)
name_at_is_fit NoName a h p = refl
name_at_is_fit OneDollar a h p = two (name_at_fits a) _ h p
name_at_is_fit TwoDollars a h p = two (name_at_fits a) _ h p
name_at_is_fit (Numbered n) a h p = two (name_at_fits a) _ h p
name_at_is_fit (NameWord o us) a h p = two (name_at_fits a) _ h p
name_at_is_fit (Dollar o us) a h p = two (name_at_fits a) _ h p
name_at_is_fit (Digits o us n v) a h p = two (name_at_fits a) _ h p

after_name_fits : (x : Name) (a : NameAt) (c : ℕ) → name_at_fits a ≡ true → is_name x ≡ true → Fits (after_name x a c)
after_name_fits x (Variable k) c h p = have_fits (JVar x) k c h p
after_name_fits x (ConstAt before b) c h p = let w = and_true (block_fits b) (before_fits before) h in ifs Fits (nat_eq c 61) (λ _. three (block_fits b) (before_fits before) (is_name x) w.0 w.1 p) (λ _. refl)
after_name_fits x (LetAt before b) c h p = let w = and_true (block_fits b) (before_fits before) h in ifs Fits (nat_eq c 61) (λ _. three (block_fits b) (before_fits before) (is_name x) w.0 w.1 p) (λ _. refl)
after_name_fits x (AssignAt before b) c h p = let w = and_true (block_fits b) (before_fits before) h in ifs Fits (nat_eq c 61) (λ _. three (block_fits b) (before_fits before) (is_name x) w.0 w.1 p) (λ _. refl)
after_name_fits x (LineAt before) c h p = ifs Fits (nat_eq c 61) (λ _. two (lines_fit before) (is_name x) h p) (λ _. refl)

end_name_fits : (n : Begun) (found : Found) (a : NameAt) (c : ℕ) → name_of n ≡ found → begun_fits n ≡ true → name_at_fits a ≡ true → Fits (end_name found a c)
end_name_fits n Not a c e b h = refl
end_name_fits n (Name_is x) a c e b h = after_name_fits x a c h (name_ends n x b e).1

in_name_fits : (n : Begun) (a : NameAt) (c : ℕ) → name_at_fits a ≡ true → begun_fits n ≡ true → Fits (in_name n a c)
in_name_fits n a c h b = ifs Fits (is_run c) (λ _. name_at_is_fit (name_step n c) a h (name_fits n c b)) (λ _. end_name_fits n (name_of n) a c refl b h)

int_at_fits : (n : ℕ) (k : Place) → place_fits k ≡ true → Fits (int_at n k)
int_at_fits n k h = ifs Fits (is_exact (pos n)) (λ x. two (place_fits k) _ h x) (λ _. refl)

negative_at_fits : (n : ℕ) (k : Place) → place_fits k ≡ true → Fits (negative_at n k)
negative_at_fits n k h = ifs Fits (is_exact (minus n) && nat_lt 0 n) (λ x. two (place_fits k) _ h x) (λ _. refl)

word_fits : (w : Word) (k : Place) → place_fits k ≡ true → Fits (after_word w k)
word_fits TrueWord k h = two (place_fits k) true h refl
word_fits FalseWord k h = two (place_fits k) true h refl
word_fits ListWord k h = two (place_fits k) true h refl
word_fits (HelperWord p) k h = two (place_fits k) true h refl

find_word_fits : (ws : List Word) (cs : List ℕ) (none : State) (k : Place) → place_fits k ≡ true → Fits none → Fits (find_word ws cs none (λ w. after_word w k))
find_word_fits [] cs none k h n = n
find_word_fits (w ∷ ws) cs none k h n = ifs Fits (bytes_eq (word_text w) cs) (λ _. word_fits w k h) (λ _. find_word_fits ws cs none k h n)

in_word_fits : (cs : List ℕ) (k : Place) → place_fits k ≡ true → Fits (in_word cs k)
in_word_fits cs k h = find_word_fits words cs _ k h (ifs Fits (list_any (λ w. begins_with (word_text w) cs) words) (λ x. two (place_fits k) _ h x) (λ _. refl))

in_keyword_fits : (cs : List ℕ) (before : Before) (b : Block) → block_fits b ≡ true → before_fits before ≡ true → Fits (in_keyword cs before b)
in_keyword_fits cs before b h g =
    let both = two (block_fits b) (before_fits before) h g in
    ifs Fits (bytes_eq cs (codes "const ")) (λ _. both)
    (λ _. ifs Fits (bytes_eq cs (codes "let ")) (λ _. both)
    (λ _. ifs Fits (bytes_eq cs (codes "return ")) (λ _. both)
    (λ _. ifs Fits (bytes_eq cs (codes "if(")) (λ _. both)
    (λ _. ifs Fits (bytes_eq cs (codes "while(true){")) (λ _. two (block_fits (LoopIn before b)) true both refl)
    (λ _. ifs Fits (bytes_eq cs (codes "continue;")) (λ _. three (block_fits b) (before_fits before) true h g refl)
    (λ _. ifs Fits (list_any (λ w. begins_with w cs) begin_statement_words) (λ x. three (block_fits b) (before_fits before) _ h g x) (λ _. refl)))))))

want_fits : (k : Place) (c : ℕ) → place_fits k ≡ true → Fits (want k c)
want_fits k c h =
    ifs Fits (nat_eq c 36 || is_upper c) (λ _. name_at_is_fit (begin_name c) (Variable k) h (name_begins c))
    (λ _. ifs Fits (is_digit c) (λ _. int_at_fits (c - 48) k h)
    (λ _. ifs Fits (nat_eq c 34) (λ _. two (place_fits k) true h refl)
    (λ _. ifs Fits (nat_eq c 40) (λ _. h)
    (λ _. ifs Fits (nat_eq c 123) (λ _. two (place_fits k) true h refl)
    (λ _. ifs Fits (nat_eq c 95 || (nat_eq c 116 || nat_eq c 102)) (λ _. in_word_fits (c ∷ []) k h)
    (λ _. no_expression_fits k c h))))))

after_text_fits : (us : List ℕ) (a : TextAt) → text_fits a ≡ true → list_all is_unit us ≡ true → Fits (after_text us a)
after_text_fits us (Literal k) h p = two (place_fits k) _ h p
after_text_fits us (Key before (Value k)) h p = let w = and_true (place_fits k) (members_fit before) h in three (place_fits k) (members_fit before) (list_all is_unit us) w.0 w.1 p
after_text_fits us (Key before (Ports g)) h p = let w = and_true (front_fits g) (members_fit before) h in three (front_fits g) (members_fit before) (list_all is_unit us) w.0 w.1 p
after_text_fits us (PropertyOf e k) h p = let w = and_true (place_fits k) (is_spelled e) h in three (place_fits k) (is_spelled e) (list_all is_unit us) w.0 w.1 p
after_text_fits us (ModuleIn before) h p = two (lines_fit before) _ h p
after_text_fits us (OutIn g ins outs) h p = let w = thirds (front_fits g) (fields_spelled ins) (outs_fit outs) h in two (front_fits g) _ w.0 (three (fields_spelled ins) (list_all is_unit us) (outs_fit outs) w.1.0 p w.1.1)

text_goes_on : (us : List ℕ) (a : TextAt) (u : ℕ) → text_fits a ≡ true → list_all is_unit us ≡ true → is_unit u ≡ true → Fits (InText (us ++ u ∷ []) a)
text_goes_on us a u h p q = two (text_fits a) _ h (list_all-append is_unit us (u ∷ []) p (two (is_unit u) true q refl))

in_text_fits : (us : List ℕ) (a : TextAt) (c : ℕ) → text_fits a ≡ true → list_all is_unit us ≡ true → Fits (in_text us a c)
in_text_fits us a c h p =
    ifs Fits (nat_eq c 34) (λ _. after_text_fits us a h p) (λ _. ifs Fits (nat_eq c 92) (λ _. two (text_fits a) _ h p) (λ _. ifs Fits (is_plain c) (λ q. text_goes_on us a c h p (grind (arith, nat_tests))) (λ _. refl)))

in_escape_fits : (us : List ℕ) (a : TextAt) (c : ℕ) → text_fits a ≡ true → list_all is_unit us ≡ true → Fits (in_escape us a c)
in_escape_fits us a c h p =
    ifs Fits (nat_eq c 34 || nat_eq c 92) (λ q. text_goes_on us a c h p (grind (arith, nat_tests)))
    (λ _. ifs Fits (nat_eq c 117) (λ _. three (text_fits a) (list_all is_unit us) true h p refl) (λ _. refl))

next_digit_fits : (us : List ℕ) (n v c : ℕ) (a : TextAt) → text_fits a ≡ true → list_all is_unit us ≡ true → escape_fits n v ≡ true → is_hex_digit c ≡ true → Fits (next_digit us n (v * 16 + hex_value c) a)
next_digit_fits us zero v c a h p g d = ifs Fits (nat_lt (v * 16 + hex_value c) 32 || nat_lt 126 (v * 16 + hex_value c)) (λ q. text_goes_on us a (v * 16 + hex_value c) h p (fits v c g (hex_value_fits c d))) (λ _. refl)
  where
    fits : (v c : ℕ) → escape_fits 0 v ≡ true → hex_value c < 16 → is_unit (v * 16 + hex_value c) ≡ true
    fits v c g l = let w : v < 4096 = grind (arith, nat_tests) in grind (arith, nat_tests)
next_digit_fits us (suc n) v c a h p g d = ifs Fits (nat_lt ((v * 16 + hex_value c) * 16 ^ suc n) 32 || nat_lt 126 (greatest (suc n) (v * 16 + hex_value c))) (λ q. three (text_fits a) (list_all is_unit us) (escape_fits n (v * 16 + hex_value c)) h p (goes_on n v c g q (hex_value_fits c d))) (λ _. refl)
  where
    goes_on : (n v c : ℕ) → escape_fits (suc n) v ≡ true → (nat_lt ((v * 16 + hex_value c) * 16 ^ suc n) 32 || nat_lt 126 (greatest (suc n) (v * 16 + hex_value c))) ≡ true → hex_value c < 16 → escape_fits n (v * 16 + hex_value c) ≡ true
    goes_on zero v c g q l = let w : nat_lt v (16 ^ 2) ≡ true = (and_true (nat_lt v (16 ^ 2)) _ g).0 in let x : nat_lt (v * 16 + hex_value c) (16 ^ 3) ≡ true = grind (arith, nat_tests) in three true _ _ refl x q
    goes_on (suc zero) v c g q l = let w : nat_lt v (16 ^ 1) ≡ true = (and_true (nat_lt v (16 ^ 1)) _ g).0 in let x : nat_lt (v * 16 + hex_value c) (16 ^ 2) ≡ true = grind (arith, nat_tests) in three true _ _ refl x q
    goes_on (suc (suc zero)) v c g q l = let w : nat_lt v (16 ^ 0) ≡ true = (and_true (nat_lt v (16 ^ 0)) _ g).0 in let x : nat_lt (v * 16 + hex_value c) (16 ^ 1) ≡ true = grind (arith, nat_tests) in three true _ _ refl x q
    goes_on (suc (suc (suc n))) v c g q l = let w : nat_le (suc (suc (suc (suc n)))) 3 ≡ true = (and_true (nat_le (suc (suc (suc (suc n)))) 3) _ g).0 in absurd (grind (arith, nat_tests))

close_fields_fits : (before : Members) (a : ObjectAt) → object_fits a ≡ true → Fits (close_fields before a)
close_fields_fits NoMember (Value k) h = two (place_fits k) true h refl
close_fields_fits NoMember (Ports g) h = three (front_fits g) true true h refl refl
close_fields_fits (Member before k e) a h = refl

want_field_fits : (before : Members) (a : ObjectAt) (c : ℕ) → object_fits a ≡ true → members_fit before ≡ true → Fits (want_field before a c)
want_field_fits before a c h p =
    ifs Fits (nat_eq c 34) (λ _. two (text_fits (Key before a)) true (two (object_fits a) (members_fit before) h p) refl) (λ _. ifs Fits (nat_eq c 125) (λ _. close_fields_fits before a h) (λ _. refl))

want_statement_fits : (before : Before) (b : Block) (c : ℕ) → block_fits b ≡ true → before_fits before ≡ true → Fits (want_statement before b c)
want_statement_fits before b c h p =
    ifs Fits (nat_eq c 36 || is_upper c) (λ _. name_at_is_fit (begin_name c) (AssignAt before b) (two (block_fits b) _ h p) (name_begins c)) (λ _. in_keyword_fits (c ∷ []) before b h p)

no_arrow_fits : (e : Js) (k : Place) (c : ℕ) → place_fits k ≡ true → is_spelled e ≡ true → Fits (if c == 61 then Known (codes "=") (Want (RightOf StrictEquals e k)) else Dead)
no_arrow_fits e k c h p = ifs Fits (nat_eq c 61) (λ _. two (place_fits k) _ h p) (λ _. refl)

equals_fits : (e : Js) (k : Place) (c : ℕ) → place_fits k ≡ true → is_spelled e ≡ true → Fits (equals e k c)
equals_fits (JVar q) k c h p = ifs Fits (nat_eq c 62) (λ _. two (block_fits (BodyOf q k)) true (two (place_fits k) _ h p) refl) (λ _. no_arrow_fits (JVar q) k c h p)
equals_fits e k c h p = no_arrow_fits e k c h p

want_line_name_fits : (before : LinesBefore) (c : ℕ) → lines_fit before ≡ true → Fits (want_line_name before c)
want_line_name_fits before c h = ifs Fits (nat_eq c 95) (λ _. two (lines_fit before) true h refl) (λ _. name_at_is_fit (begin_name c) (LineAt before) h (name_begins c))

close_block_fits : (s : Stmts) (b : Block) → block_fits b ≡ true → are_spelled s ≡ true → Fits (close_block s b)
close_block_fits s (BodyOf q k) h p = let w = and_true (place_fits k) (is_name q) h in three (place_fits k) (is_name q) (are_spelled s) w.0 w.1 p
close_block_fits s (CalledIn k) h p = two (place_fits k) _ h p
close_block_fits s (ThenIn before t b) h p =
    let w = thirds (block_fits b) (before_fits before) (is_spelled t) h in
    two (block_fits (ElseIn before t s b)) true (two (block_fits b) _ w.0 (three (before_fits before) (is_spelled t) (are_spelled s) w.1.0 w.1.1 p)) refl
close_block_fits s (ElseIn before t u b) h p =
    let w = thirds (block_fits b) (before_fits before) (is_spelled t && are_spelled u) h in let v = and_true (is_spelled t) (are_spelled u) w.1.1 in
    three (block_fits b) (before_fits before) _ w.0 w.1.0 (three (is_spelled t) (are_spelled u) (are_spelled s) v.0 v.1 p)
close_block_fits s (LoopIn before b) h p = let w = and_true (block_fits b) (before_fits before) h in three (block_fits b) (before_fits before) (are_spelled s) w.0 w.1 p

ended_fits : (before : Before) (s : Stmts) (b : Block) (c : ℕ) → block_fits b ≡ true → before_fits before ≡ true → are_spelled s ≡ true → Fits (step (Ended before s b) c)
ended_fits before s b c h g p = ifs Fits (nat_eq c 125) (λ _. close_block_fits (statements_then before s) b h (statements_spelled before s g p)) (λ _. refl)

known_fits : (cs : List ℕ) (s : State) → (is_live s && state_fits s) ≡ true → Fits (known cs s)
known_fits [] s h = (and_true (is_live s) (state_fits s) h).1
known_fits (c ∷ cs) s h = h

pub reversed_fit : (outs rest : List (List ℕ)) → outs_fit outs ≡ true → outs_fit rest ≡ true → outs_fit (reversed_onto outs rest) ≡ true
reversed_fit [] rest h k = k
reversed_fit (o ∷ outs) rest h k = let w = and_true (list_all is_unit o) (outs_fit outs) h in reversed_fit outs (o ∷ rest) w.1 (two (list_all is_unit o) (outs_fit rest) w.0 k)

pub end_fits : (g : Front) (ins : Fields) (outs : List (List ℕ)) → front_fits g ≡ true → fields_spelled ins ≡ true → outs_fit outs ≡ true → Fits (end_outs g ins outs)
end_fits g ins outs h p q =
    let w = and_true (lines_fit g.lines) _ h in let v = thirds (list_all is_unit g.name) (is_spelled g.main) (is_spelled g.flags) w.1 in
    two (lines_spelled (lines_then g.lines NoLine)) _ (all_lines_spelled g.lines NoLine w.0 refl) (three (is_spelled g.main) (list_all is_unit g.name) _ v.1.0 v.0 (three (is_spelled g.flags) (fields_spelled ins) (outs_fit outs) v.1.1 p q))

want_out_fits : (g : Front) (ins : Fields) (outs : List (List ℕ)) (c : ℕ) → front_fits g ≡ true → fields_spelled ins ≡ true → outs_fit outs ≡ true → Fits (want_out g ins outs c)
want_out_fits g ins [] c h p q =
    ifs Fits (nat_eq c 34) (λ _. two (text_fits (OutIn g ins [])) true (three (front_fits g) (fields_spelled ins) true h p refl) refl) (λ _. ifs Fits (nat_eq c 125) (λ _. end_fits g ins [] h p refl) (λ _. refl))
want_out_fits g ins (o ∷ outs) c h p q =
    ifs Fits (nat_eq c 34) (λ _. two (text_fits (OutIn g ins (o ∷ outs))) true (three (front_fits g) (fields_spelled ins) (outs_fit (o ∷ outs)) h p q) refl) (λ _. refl)

have_out_fits : (g : Front) (ins : Fields) (o : List ℕ) (outs : List (List ℕ)) (c : ℕ) → front_fits g ≡ true → fields_spelled ins ≡ true → outs_fit (o ∷ outs) ≡ true → Fits (have_out g ins o outs c)
have_out_fits g ins o outs c h p q =
    ifs Fits (nat_eq c 44) (λ _. three (front_fits g) (fields_spelled ins) (outs_fit (o ∷ outs)) h p q)
    (λ _. ifs Fits (nat_eq c 125) (λ _. end_fits g ins (reversed_onto (o ∷ outs) []) h p (reversed_fit (o ∷ outs) [] q refl)) (λ _. refl))

known_step_fits : (cs : List ℕ) (s : State) (c : ℕ) → (is_live s && state_fits s) ≡ true → Fits (step (Known cs s) c)
known_step_fits [] s c h = refl
known_step_fits (d ∷ ds) s c h = ifs Fits (nat_eq c d) (λ _. known_fits ds s h) (λ _. refl)

-- one character more
pub step_fits : (s : State) (c : ℕ) → state_fits s ≡ true → state_fits (step s c) ≡ true
step_fits (Want k) c h = want_fits k c h
step_fits (Have e k) c h = let w = and_true (place_fits k) (is_spelled e) h in have_fits e k c w.0 w.1
step_fits (InName n a) c h = let w = thirds (name_at_fits a) (is_begun n) (begun_fits n) h in in_name_fits n a c w.0 w.1.1
step_fits (InInt n k) c h =
    let w = and_true (place_fits k) (is_exact (pos n)) h in
    ifs Fits (is_digit c) (λ _. ifs Fits (nat_eq n 0) (λ _. refl) (λ _. int_at_fits (n * 10 + (c - 48)) k w.0)) (λ _. have_fits (JInt (pos n)) k c w.0 w.1)
step_fits (Minus_seen k) c h = ifs Fits (is_digit c) (λ _. negative_at_fits (c - 48) k h) (λ _. refl)
step_fits (InNegative n k) c h =
    let w = thirds (place_fits k) (is_exact (minus n)) (nat_lt 0 n) h in
    ifs Fits (is_digit c) (λ _. negative_at_fits (n * 10 + (c - 48)) k w.0) (λ _. on_bracket_fits c _ (two (place_fits k) _ w.0 w.1.0))
step_fits (InText us a) c h = let w = and_true (text_fits a) (list_all is_unit us) h in in_text_fits us a c w.0 w.1
step_fits (InEscape us a) c h = let w = and_true (text_fits a) (list_all is_unit us) h in in_escape_fits us a c w.0 w.1
step_fits (InDigits us n v a) c h = let w = thirds (text_fits a) (list_all is_unit us) (escape_fits n v) h in ifs Fits (is_hex_digit c) (λ d. next_digit_fits us n v c a w.0 w.1.0 w.1.1 d) (λ _. refl)
step_fits (InWord cs k) c h = in_word_fits (cs ++ c ∷ []) k (and_true (place_fits k) _ h).0
step_fits (WantName a) c h = name_at_is_fit (begin_name c) a h (name_begins c)
step_fits (WantField before a) c h = let w = and_true (object_fits a) (members_fit before) h in want_field_fits before a c w.0 w.1
step_fits (WantStatement before b) c h = let w = and_true (block_fits b) (before_fits before) h in want_statement_fits before b c w.0 w.1
step_fits (InKeyword cs before b) c h = let w = thirds (block_fits b) (before_fits before) _ h in in_keyword_fits (cs ++ c ∷ []) before b w.0 w.1.0
step_fits (Ended before s b) c h = let w = thirds (block_fits b) (before_fits before) (are_spelled s) h in ended_fits before s b c w.0 w.1.0 w.1.1
step_fits (Equals e k) c h = let w = and_true (place_fits k) (is_spelled e) h in equals_fits e k c w.0 w.1
step_fits (WantLine before) c h = ifs Fits (nat_eq c 99) (λ _. h) (λ _. refl)
step_fits (WantLineName before) c h = want_line_name_fits before c h
step_fits (WantOut g ins outs) c h = let w = thirds (front_fits g) (fields_spelled ins) (outs_fit outs) h in want_out_fits g ins outs c w.0 w.1.0 w.1.1
step_fits (HaveOut g ins o outs) c h = let w = thirds (front_fits g) (fields_spelled ins) (outs_fit (o ∷ outs)) h in have_out_fits g ins o outs c w.0 w.1.0 w.1.1
step_fits (Known cs s) c h = known_step_fits cs s c h
step_fits (Finished p) c h = refl
step_fits Dead c h = refl

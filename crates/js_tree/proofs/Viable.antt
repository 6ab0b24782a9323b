-- Where the reader is not dead, what has been read begins the text of a program.
use Rattle.std.proofs.Common.{◌≡◌, ℕ, zero, suc, ◌+◌, ◌-◌, ◌*◌, ◌<◌, ◌^◌, pos, negsuc, List, [], ◌∷◌, ◌++◌, Bool, true}
use Rattle.std.proofs.Common.{false, ◌&&◌, ◌||◌, nat_eq, nat_le, nat_lt, refl, ap, sym, ◌∙◌, arith, codes, decimal}
use Rattle.std.proofs.Common.{append_assoc, append-nil}
use Rattle.std.proofs.lemmas.Bool.Decides.{nat_tests}
use Rattle.std.proofs.lemmas.Fmt.{decimal_digit}
use Rattle.std.specs.List.{list_all, list_any}
use Rattle.js_tree.specs.declared.runtime.TheConstants.{TAIL}
use Rattle.js_tree.specs.Tree.{Name, Top, Local, Made, StrictEquals, JInt, JBool, JText, JVar, JProperty, Fields}
use Rattle.js_tree.specs.Tree.{Continue}
use Rattle.js_tree.specs.Text.{name_text, name_units, text_text, units_text}
use Rattle.wire_value.specs.Exact.{is_exact}
use Rattle.js_tree.specs.Faults.{Begins}
use Rattle.js_tree.specs.Subset.{is_unit, is_word, is_module, is_name, is_spelled, are_spelled, fields_spelled}
use Rattle.js_tree.specs.NameReader.{Owner, Own, Of, Begun, OneDollar, TwoDollars, Numbered, NameWord, Dollar, Digits}
use Rattle.js_tree.specs.NameReader.{NoName, is_begun, is_hex_digit, hex_value, greatest, begins_upper}
use Rattle.js_tree.proofs.NameTexts.{begun_text, begun_fits, owner_text, owner_fits, digits_fit, digits_text}
use Rattle.js_tree.proofs.NameFronts.{and_true, word_is_module, owner_goes_on, word_grows, past_word, digits_go_on}
use Rattle.js_tree.proofs.NameFronts.{digits_end, digit_is_last, list_all-append, same}
use Rattle.js_tree.specs.Automaton.{NoItem, Members, Before, Front, Place, RightOf, FieldIn, ListIn, GivenTo, ConstIn}
use Rattle.js_tree.specs.Automaton.{LetIn, AssignIn, ReturnIn, TestIn, LineIn, MainIn, PortIn, Block, LoopIn, ObjectAt}
use Rattle.js_tree.specs.Automaton.{Value, Ports, TextAt, Literal, Key, PropertyOf, ModuleIn, OutIn, NameAt, Variable}
use Rattle.js_tree.specs.Automaton.{ConstAt, LetAt, AssignAt, LineAt, State, Want, Have, InName, InInt, Minus_seen}
use Rattle.js_tree.specs.Automaton.{InNegative, InText, InEscape, InDigits, InWord, WantName, WantField, WantStatement}
use Rattle.js_tree.specs.Automaton.{InKeyword, Ended, Equals, WantLine, WantLineName, WantOut, HaveOut, Known, Finished}
use Rattle.js_tree.specs.Automaton.{Dead, Word, TrueWord, FalseWord, ListWord, HelperWord, words, word_text}
use Rattle.js_tree.specs.Automaton.{begins_with, begin_statement_words, program_of, minus, reversed_onto, is_live}
use Rattle.js_tree.proofs.Fronts.{place_text, block_text, before_text, object_text, members_text, text_front}
use Rattle.js_tree.proofs.Fronts.{name_front, outs_front, outs_text, outs_before, IsFront, place_fits, block_fits}
use Rattle.js_tree.proofs.Fronts.{before_fits, lines_fit, front_fits, outs_fit, object_fits, members_fit, text_fits}
use Rattle.js_tree.proofs.Fronts.{name_at_fits, escape_fits, state_fits}
use Rattle.js_tree.proofs.Steps.{outs_end, whole_text, text_grows, spelled_text}
use Rattle.js_tree.proofs.StepFits.{two, three, thirds, end_fits, reversed_fit}
use Rattle.js_tree.proofs.Plugs.{shorter, at_value, at_place, at_block, at_statement}

-- after a name
at_name : (x : Name) (a : NameAt) (f : List ℕ) → name_at_fits a ≡ true → is_name x ≡ true → f ≡ name_front a ++ name_text x → Begins f
at_name x (Variable k) f h p q = at_value k (JVar x) f h p q
at_name x (ConstAt before b) f h p q = let w = and_true (block_fits b) (before_fits before) h in shorter f (codes "=") (at_place (ConstIn before x b) (f ++ codes "=") (three (block_fits b) (before_fits before) (is_name x) w.0 w.1 p) (rw q refl))
at_name x (LetAt before b) f h p q = let w = and_true (block_fits b) (before_fits before) h in shorter f (codes "=") (at_place (LetIn before x b) (f ++ codes "=") (three (block_fits b) (before_fits before) (is_name x) w.0 w.1 p) (rw q refl))
at_name x (AssignAt before b) f h p q = let w = and_true (block_fits b) (before_fits before) h in shorter f (codes "=") (at_place (AssignIn before x b) (f ++ codes "=") (three (block_fits b) (before_fits before) (is_name x) w.0 w.1 p) (rw q refl))
at_name x (LineAt before) f h p q = shorter f (codes "=") (at_place (LineIn before x) (f ++ codes "=") (two (lines_fit before) (is_name x) h p) (rw q refl))

before_name : (a : NameAt) (f : List ℕ) → name_at_fits a ≡ true → f ≡ name_front a → Begins f
before_name a f h q = shorter f (codes "$a") (at_name (Local (97 ∷ [])) a (f ++ codes "$a") h refl (rw q refl))

-- in a word of a name
at_word : (o : Owner) (us : List ℕ) (a : NameAt) (f : List ℕ) → name_at_fits a ≡ true → owner_fits o us ≡ true → f ≡ name_front a ++ begun_text (NameWord o us) → Begins f
at_word Own us a f h p q = at_name (Local us) a f h p q
at_word (Of []) us a f h p q =
    let w = and_true (is_word us) (begins_upper us) p in
    shorter f (codes "$a") (at_name (Top us (97 ∷ [])) a (f ++ codes "$a") h (two (is_module true us) true (word_is_module us w.1 w.0) refl) (rw q (simp append_assoc)))
at_word (Of (v ∷ vs)) us a f h p q = at_name (Top (v ∷ vs) us) a f h p (q ∙ ap (λ (w : List ℕ). name_front a ++ w) (append_assoc (name_units (v ∷ vs)) (36 ∷ []) (name_units us)))

-- a digit F
past_all : (v : ℕ) → digits_fit 0 v ≡ true → nat_le 128 (v * 16 + 15) ≡ true
past_all v g = grind (arith, nat_tests)

more_digits : (n v : ℕ) → digits_fit (suc n) v ≡ true → digits_fit n (v * 16 + 15) ≡ true
more_digits zero v g = grind (arith, nat_tests)
more_digits (suc zero) v g = grind (arith, nat_tests)
more_digits (suc (suc zero)) v g = grind (arith, nat_tests)
more_digits (suc (suc (suc n))) v g = let w : nat_le (suc (suc (suc (suc n)))) 3 ≡ true = (and_true (nat_le (suc (suc (suc (suc n)))) 3) _ g).0 in absurd (grind (arith, nat_tests))

few_digits : (n v : ℕ) → digits_fit (suc n) v ≡ true → n < 3
few_digits n v g = let w : nat_le (suc n) 3 ≡ true = (and_true (nat_le (suc n) 3) _ g).0 in grind (arith, nat_tests)

at_digits : (o : Owner) (us : List ℕ) (n v : ℕ) (a : NameAt) (f : List ℕ) → name_at_fits a ≡ true → owner_fits o us ≡ true → digits_fit n v ≡ true → f ≡ name_front a ++ begun_text (Digits o us n v) → Begins f
at_digits o us zero v a f h p g q =
    shorter f (codes "F") (at_word o (us ++ (v * 16 + 15) ∷ []) a (f ++ codes "F") h (owner_goes_on o us (v * 16 + 15) (digit_is_last v 70 g refl (past_all v g)) p) (rw q (parts ∙ ap (λ (w : List ℕ). name_front a ++ w) (word_grows (owner_text o) us _ (v * 16 + 15) (past_word (v * 16 + 15) (past_all v g) ∙ ap (λ (w : List ℕ). 36 ∷ 36 ∷ w) (sym (digits_end v 70 refl)))))))
  where
    parts : name_front a ++ (owner_text o ++ name_units us ++ 36 ∷ 36 ∷ digits_text 0 v) ++ 70 ∷ [] ≡ name_front a ++ (owner_text o ++ name_units us ++ 36 ∷ 36 ∷ (digits_text 0 v ++ 70 ∷ []))
    parts = simp append_assoc
at_digits o us (suc n) v a f h p g q =
    shorter f (codes "F") (at_digits o us n (v * 16 + 15) a (f ++ codes "F") h p (more_digits n v g) (rw q (parts (digits_text (suc n) v) ∙ ap (λ (w : List ℕ). name_front a ++ (owner_text o ++ name_units us ++ 36 ∷ 36 ∷ w)) (digits_go_on n v 70 (few_digits n v g) refl))))
  where
    parts : (ds : List ℕ) → name_front a ++ (owner_text o ++ name_units us ++ 36 ∷ 36 ∷ ds) ++ 70 ∷ [] ≡ name_front a ++ (owner_text o ++ name_units us ++ 36 ∷ 36 ∷ (ds ++ 70 ∷ []))
    parts ds = simp append_assoc

in_a_name : (n : Begun) (a : NameAt) (f : List ℕ) → name_at_fits a ≡ true → is_begun n ≡ true → begun_fits n ≡ true → f ≡ name_front a ++ begun_text n → Begins f
in_a_name OneDollar a f h b p q = shorter f (codes "a") (at_name (Local (97 ∷ [])) a (f ++ codes "a") h refl (rw q (simp append_assoc)))
in_a_name TwoDollars a f h b p q = shorter f (codes "0") (at_name (Made 0) a (f ++ codes "0") h refl (rw (q, decimal_digit 0 (omega arith)) (simp append_assoc)))
in_a_name (Numbered n) a f h b p q = at_name (Made n) a f h p q
in_a_name (NameWord o us) a f h b p q = at_word o us a f h p q
in_a_name (Dollar o us) a f h b p q = shorter f (codes "$") (at_digits o us 3 0 a (f ++ codes "$") h p refl (rw q (simp append_assoc)))
in_a_name (Digits o us n v) a f h b p q = let w = and_true (owner_fits o us) (digits_fit n v) p in at_digits o us n v a f h w.0 w.1 q
in_a_name NoName a f h b p q = absurd cc

-- after outgoing ports, and after a text
at_outs : (g : Front) (ins : Fields) (o : List ℕ) (outs : List (List ℕ)) (f : List ℕ) → front_fits g ≡ true → fields_spelled ins ≡ true → outs_fit (o ∷ outs) ≡ true → f ≡ outs_front g ins ++ outs_text (o ∷ outs) → Begins f
at_outs g ins o outs f h p r q = record {
  program = program_of g ins (reversed_onto (o ∷ outs) []);
  rest = codes "}};\n" ++ TAIL.now;
  spelled = end_fits g ins (reversed_onto (o ∷ outs) []) h p (reversed_fit (o ∷ outs) [] r refl);
  text = rw (q, sym (outs_end outs o)) (whole_text g ins (reversed_onto (o ∷ outs) []));
}

at_text : (us : List ℕ) (a : TextAt) (f : List ℕ) → text_fits a ≡ true → list_all is_unit us ≡ true → f ≡ text_front a ++ text_text us → Begins f
at_text us (Literal k) f h p q = at_value k (JText us) f h p q
at_text us (Key before (Value k)) f h p q = let w = and_true (place_fits k) (members_fit before) h in shorter f (codes ":") (at_place (FieldIn before us k) (f ++ codes ":") (three (place_fits k) (members_fit before) (list_all is_unit us) w.0 w.1 p) (rw q refl))
at_text us (Key before (Ports g)) f h p q = let w = and_true (front_fits g) (members_fit before) h in shorter f (codes ":") (at_place (PortIn g before us) (f ++ codes ":") (three (front_fits g) (members_fit before) (list_all is_unit us) w.0 w.1 p) (rw q refl))
at_text us (PropertyOf e k) f h p q = let w = and_true (place_fits k) (is_spelled e) h in shorter f (codes "]") (at_value k (JProperty e us) (f ++ codes "]") w.0 (two (is_spelled e) (list_all is_unit us) w.1 p) (rw q (simp append_assoc)))
at_text us (ModuleIn before) f h p q = shorter f (codes ",\"program\":") (at_place (MainIn before us) (f ++ codes ",\"program\":") (two (lines_fit before) _ h p) (rw q refl))
at_text us (OutIn g ins outs) f h p q =
    let w = thirds (front_fits g) (fields_spelled ins) (outs_fit outs) h in
    shorter f (codes ":0") (at_outs g ins us outs (f ++ codes ":0") w.0 w.1.0 (two (list_all is_unit us) (outs_fit outs) p w.1.1) (rw q (ports g ins outs)))
  where
    ports : (g : Front) (ins : Fields) (outs : List (List ℕ)) → outs_front g ins ++ outs_before outs ++ text_text us ++ codes ":0" ≡ outs_front g ins ++ outs_text (us ∷ outs)
    ports g ins [] = simp append_assoc
    ports g ins (o ∷ outs) = simp append_assoc

in_a_text : (us : List ℕ) (a : TextAt) (f : List ℕ) → text_fits a ≡ true → list_all is_unit us ≡ true → f ≡ text_front a ++ 34 ∷ units_text us → Begins f
in_a_text us a f h p q = shorter f (codes "\"") (at_text us a (f ++ codes "\"") h p (rw q (simp append_assoc)))

text_with : (us : List ℕ) (u : ℕ) → list_all is_unit us ≡ true → is_unit u ≡ true → list_all is_unit (us ++ u ∷ []) ≡ true
text_with us u p q = list_all-append is_unit us (u ∷ []) p (two (is_unit u) true q refl)

-- in the digits of an escape: the greatest unit that comes of them, or the least
abbrev AreDigits : ℕ → ℕ → Type 0
AreDigits n v = (nat_le n 3 && nat_lt v (16 ^ (3 - n))) ≡ true

with_digit : (n v d : ℕ) → AreDigits (suc n) v → d < 16 → AreDigits n (v * 16 + d)
with_digit zero v d g l = grind (arith, nat_tests)
with_digit (suc zero) v d g l = grind (arith, nat_tests)
with_digit (suc (suc zero)) v d g l = grind (arith, nat_tests)
with_digit (suc (suc (suc n))) v d g l = let w : nat_le (suc (suc (suc (suc n)))) 3 ≡ true = (and_true (nat_le (suc (suc (suc (suc n)))) 3) _ g).0 in absurd (grind (arith, nat_tests))

at_most_three : (n v : ℕ) → AreDigits (suc n) v → n < 3
at_most_three n v g = let w : nat_le (suc n) 3 ≡ true = (and_true (nat_le (suc n) 3) _ g).0 in grind (arith, nat_tests)

is_high : (n v : ℕ) → nat_lt 126 (greatest (suc (suc n)) v) ≡ true → AreDigits (suc n) v → nat_lt 126 (greatest (suc n) (v * 16 + 15)) ≡ true
is_high zero v e g = grind (arith, nat_tests)
is_high (suc zero) v e g = grind (arith, nat_tests)
is_high (suc (suc zero)) v e g = grind (arith, nat_tests)
is_high (suc (suc (suc n))) v e g = let w : nat_le (suc (suc (suc (suc n)))) 3 ≡ true = (and_true (nat_le (suc (suc (suc (suc n)))) 3) _ g).0 in absurd (grind (arith, nat_tests))

is_low : (n v : ℕ) → nat_lt (v * 16 ^ suc (suc n)) 32 ≡ true → AreDigits (suc n) v → nat_lt ((v * 16 + 0) * 16 ^ suc n) 32 ≡ true
is_low zero v e g = grind (arith, nat_tests)
is_low (suc zero) v e g = grind (arith, nat_tests)
is_low (suc (suc zero)) v e g = grind (arith, nat_tests)
is_low (suc (suc (suc n))) v e g = let w : nat_le (suc (suc (suc (suc n)))) 3 ≡ true = (and_true (nat_le (suc (suc (suc (suc n)))) 3) _ g).0 in absurd (grind (arith, nat_tests))

escape_parts : (t us ds : List ℕ) (c : ℕ) → t ++ 34 ∷ (us ++ codes "\\u" ++ ds) ++ c ∷ [] ≡ t ++ 34 ∷ (us ++ codes "\\u" ++ (ds ++ c ∷ []))
escape_parts t us ds c = simp append_assoc

last_digit : (c : ℕ) (us : List ℕ) (v : ℕ) (a : TextAt) (f : List ℕ) → is_hex_digit c ≡ true → text_fits a ≡ true → list_all is_unit us ≡ true → is_unit (v * 16 + hex_value c) ≡ true
    → (nat_lt (v * 16 + hex_value c) 32 || nat_lt 126 (v * 16 + hex_value c)) ≡ true → f ≡ text_front a ++ 34 ∷ (units_text us ++ codes "\\u" ++ digits_text 0 v) → Begins f
last_digit c us v a f d h p u e q =
    shorter f (c ∷ []) (in_a_text (us ++ (v * 16 + hex_value c) ∷ []) a (f ++ c ∷ []) h (text_with us (v * 16 + hex_value c) p u)
    (rw q (escape_parts (text_front a) (units_text us) (digits_text 0 v) c ∙ (assoc (text_front a) (units_text us) (digits_text 0 v ++ c ∷ [])
    ∙ text_grows (text_front a) us _ (v * 16 + hex_value c) (spelled_text (v * 16 + hex_value c) e ∙ ap (λ (w : List ℕ). codes "\\u" ++ w) (sym (digits_end v c d)))))))
  where
    assoc : (t us ds : List ℕ) → t ++ 34 ∷ (us ++ codes "\\u" ++ ds) ≡ t ++ 34 ∷ (us ++ (codes "\\u" ++ ds))
    assoc t us ds = simp append_assoc

digit_unit : (v d : ℕ) → AreDigits 0 v → d < 16 → is_unit (v * 16 + d) ≡ true
digit_unit v d g l = grind (arith, nat_tests)

high_digits : (n : ℕ) (us : List ℕ) (v : ℕ) (a : TextAt) (f : List ℕ) → text_fits a ≡ true → list_all is_unit us ≡ true → AreDigits n v → nat_lt 126 (greatest (suc n) v) ≡ true
    → f ≡ text_front a ++ 34 ∷ (units_text us ++ codes "\\u" ++ digits_text n v) → Begins f
high_digits zero us v a f h p g e q = last_digit 70 us v a f refl h p (digit_unit v 15 g (omega arith)) (high v e) q
  where
    high : (v : ℕ) → nat_lt 126 (greatest 1 v) ≡ true → (nat_lt (v * 16 + 15) 32 || nat_lt 126 (v * 16 + 15)) ≡ true
    high v e = grind (arith, nat_tests)
high_digits (suc n) us v a f h p g e q =
    shorter f (codes "F") (high_digits n us (v * 16 + 15) a (f ++ codes "F") h p (with_digit n v 15 g (omega arith)) (is_high n v e g)
    (rw q (escape_parts (text_front a) (units_text us) (digits_text (suc n) v) 70 ∙ ap (λ (w : List ℕ). text_front a ++ 34 ∷ (units_text us ++ codes "\\u" ++ w)) (digits_go_on n v 70 (at_most_three n v g) refl))))

low_digits : (n : ℕ) (us : List ℕ) (v : ℕ) (a : TextAt) (f : List ℕ) → text_fits a ≡ true → list_all is_unit us ≡ true → AreDigits n v → nat_lt (v * 16 ^ suc n) 32 ≡ true
    → f ≡ text_front a ++ 34 ∷ (units_text us ++ codes "\\u" ++ digits_text n v) → Begins f
low_digits zero us v a f h p g e q = last_digit 48 us v a f refl h p (digit_unit v 0 g (omega arith)) (low v e) q
  where
    low : (v : ℕ) → nat_lt (v * 16 ^ 1) 32 ≡ true → (nat_lt (v * 16 + 0) 32 || nat_lt 126 (v * 16 + 0)) ≡ true
    low v e = grind (arith, nat_tests)
low_digits (suc n) us v a f h p g e q =
    shorter f (codes "0") (low_digits n us (v * 16 + 0) a (f ++ codes "0") h p (with_digit n v 0 g (omega arith)) (is_low n v e g)
    (rw q (escape_parts (text_front a) (units_text us) (digits_text (suc n) v) 48 ∙ ap (λ (w : List ℕ). text_front a ++ 34 ∷ (units_text us ++ codes "\\u" ++ w)) (digits_go_on n v 48 (at_most_three n v g) refl))))

in_an_escape : (us : List ℕ) (n v : ℕ) (a : TextAt) (f : List ℕ) → text_fits a ≡ true → list_all is_unit us ≡ true → escape_fits n v ≡ true → f ≡ text_front a ++ 34 ∷ (units_text us ++ codes "\\u" ++ digits_text n v) → Begins f
in_an_escape us n v a f h p g q =
    let w = thirds (nat_le n 3) (nat_lt v (16 ^ (3 - n))) (nat_lt (v * 16 ^ suc n) 32 || nat_lt 126 (greatest (suc n) v)) g in
    by_kind (nat_lt (v * 16 ^ suc n) 32) refl w.1.1 (two (nat_le n 3) _ w.0 w.1.0)
  where
    by_kind : (b : Bool) → nat_lt (v * 16 ^ suc n) 32 ≡ b → (nat_lt (v * 16 ^ suc n) 32 || nat_lt 126 (greatest (suc n) v)) ≡ true → AreDigits n v → Begins f
    by_kind true e one d = low_digits n us v a f h p d e q
    by_kind false e one d = high_digits n us v a f h p d (rw e at one) q

-- in a word: what it lacks
pub record Lacks (w cs : List ℕ) : Type 0 where
  pub more : List ℕ
  pub whole : w ≡ cs ++ more

lacks : (w cs : List ℕ) → begins_with w cs ≡ true → Lacks w cs
lacks w [] h = record { more = w; whole = refl }
lacks [] (c ∷ cs) h = absurd cc
lacks (d ∷ ds) (c ∷ cs) h =
    let p = and_true (nat_eq d c) (begins_with ds cs) h in let l = lacks ds cs p.1 in
    record { more = l.more; whole = first (same d c p.0) l.whole }
  where
    first : {d c : ℕ} {ds rest : List ℕ} → d ≡ c → ds ≡ rest → d ∷ ds ≡ c ∷ rest
    first e q = cc

with_more : (g cs more : List ℕ) {f w : List ℕ} → f ≡ g ++ cs → w ≡ cs ++ more → f ++ more ≡ g ++ w
with_more g cs more q e = ap (λ (v : List ℕ). v ++ more) q ∙ (append_assoc g cs more ∙ ap (λ (v : List ℕ). g ++ v) (sym e))

at_end_of_word : (w : Word) (k : Place) (f : List ℕ) → place_fits k ≡ true → f ≡ place_text k ++ word_text w → Begins f
at_end_of_word TrueWord k f h q = at_value k (JBool true) f h refl q
at_end_of_word FalseWord k f h q = at_value k (JBool false) f h refl q
at_end_of_word ListWord k f h q = at_place (ListIn NoItem k) f (two (place_fits k) true h refl) (q ∙ sym (append-nil _))
at_end_of_word (HelperWord g) k f h q = at_place (GivenTo g NoItem k) f (two (place_fits k) true h refl) (q ∙ simp append_assoc)

or_cases : (a b : Bool) {A : Type 0} → (a || b) ≡ true → (a ≡ true → A) → (b ≡ true → A) → A
or_cases true b h p q = p refl
or_cases false b h p q = q h

in_a_word : (ws : List Word) (cs : List ℕ) (k : Place) (f : List ℕ) → list_any (λ w. begins_with (word_text w) cs) ws ≡ true → place_fits k ≡ true → f ≡ place_text k ++ cs → Begins f
in_a_word [] cs k f e h q = absurd cc
in_a_word (w ∷ ws) cs k f e h q =
    or_cases (begins_with (word_text w) cs) (list_any (λ w. begins_with (word_text w) cs) ws) e
    (λ b. let l = lacks (word_text w) cs b in shorter f l.more (at_end_of_word w k (f ++ l.more) h (with_more (place_text k) cs l.more q l.whole)))
    (λ b. in_a_word ws cs k f b h q)

-- the words of statements
at_keyword : (w : List ℕ) (before : Before) (b : Block) → block_fits b ≡ true → before_fits before ≡ true → ((f : List ℕ) → f ≡ block_text b ++ before_text before ++ w → Begins f)
    → (cs f : List ℕ) → begins_with w cs ≡ true → f ≡ block_text b ++ before_text before ++ cs → Begins f
at_keyword w before b h g whole cs f e q =
    let l = lacks w cs e in shorter f l.more (whole (f ++ l.more) (with_more (block_text b ++ before_text before) cs l.more q l.whole))

in_a_keyword : (cs : List ℕ) (before : Before) (b : Block) (f : List ℕ) → list_any (λ w. begins_with w cs) begin_statement_words ≡ true → block_fits b ≡ true → before_fits before ≡ true
    → f ≡ block_text b ++ before_text before ++ cs → Begins f
in_a_keyword cs before b f e h g q =
    or_cases (begins_with (codes "const ") cs) _ e (λ x. at_keyword (codes "const ") before b h g (λ t r. before_name (ConstAt before b) t both r) cs f x q)
    (λ e. or_cases (begins_with (codes "let ") cs) _ e (λ x. at_keyword (codes "let ") before b h g (λ t r. before_name (LetAt before b) t both r) cs f x q)
    (λ e. or_cases (begins_with (codes "return ") cs) _ e (λ x. at_keyword (codes "return ") before b h g (λ t r. at_place (ReturnIn before b) t both r) cs f x q)
    (λ e. or_cases (begins_with (codes "if(") cs) _ e (λ x. at_keyword (codes "if(") before b h g (λ t r. at_place (TestIn before b) t both r) cs f x q)
    (λ e. or_cases (begins_with (codes "while(true){") cs) _ e (λ x. at_keyword (codes "while(true){") before b h g (λ t r. loop t r) cs f x q)
    (λ e. or_cases (begins_with (codes "continue;") cs) _ e (λ x. at_keyword (codes "continue;") before b h g (λ t r. at_statement before b Continue t h g refl r) cs f x q)
    (λ e. absurd cc))))))
  where
    both : (block_fits b && before_fits before) ≡ true
    both = two (block_fits b) (before_fits before) h g

    loop : (t : List ℕ) → t ≡ block_text b ++ before_text before ++ codes "while(true){" → Begins t
    loop t r = shorter t (codes "continue;") (at_block (LoopIn before b) Continue (t ++ codes "continue;") both refl (rw r refl))

in_a_number : (n : ℕ) (k : Place) (f : List ℕ) → place_fits k ≡ true → is_exact (minus n) ≡ true → nat_lt 0 n ≡ true → f ≡ place_text k ++ codes "(-" ++ decimal n → Begins f
in_a_number zero k f h x s q = absurd cc
in_a_number (suc n) k f h x s q = shorter f (codes ")") (at_value k (JInt (negsuc n)) (f ++ codes ")") h x (rw q (simp append_assoc)))

after_minus : (k : Place) (f : List ℕ) → place_fits k ≡ true → f ≡ place_text k ++ codes "(-" → Begins f
after_minus k f h q = shorter f (codes "1") (in_a_number 1 k (f ++ codes "1") h refl refl (rw (q, decimal_digit 1 (omega arith)) refl))

in_escape_sign : (us : List ℕ) (a : TextAt) (f : List ℕ) → text_fits a ≡ true → list_all is_unit us ≡ true → f ≡ text_front a ++ 34 ∷ (units_text us ++ 92 ∷ []) → Begins f
in_escape_sign us a f h p q = shorter f (codes "\"") (in_a_text (us ++ 34 ∷ []) a (f ++ codes "\"") h (text_with us 34 p refl) (rw q (parts ∙ text_grows (text_front a) us (92 ∷ 34 ∷ []) 34 refl)))
  where
    parts : text_front a ++ 34 ∷ (units_text us ++ 92 ∷ []) ++ 34 ∷ [] ≡ text_front a ++ 34 ∷ (units_text us ++ 92 ∷ 34 ∷ [])
    parts = simp append_assoc

before_field : (before : Members) (a : ObjectAt) (f : List ℕ) → object_fits a ≡ true → members_fit before ≡ true → f ≡ object_text a ++ members_text before → Begins f
before_field before a f h p q = shorter f (codes "\"") (in_a_text [] (Key before a) (f ++ codes "\"") (two (object_fits a) (members_fit before) h p) refl (rw q refl))

before_out : (g : Front) (ins : Fields) (outs : List (List ℕ)) (f : List ℕ) → front_fits g ≡ true → fields_spelled ins ≡ true → outs_fit outs ≡ true → f ≡ outs_front g ins ++ outs_before outs → Begins f
before_out g ins outs f h p r q = shorter f (codes "\"") (in_a_text [] (OutIn g ins outs) (f ++ codes "\"") (three (front_fits g) (fields_spelled ins) (outs_fit outs) h p r) refl (rw q refl))

-- where the reader is not dead
pub viable : (s : State) (f : List ℕ) → is_live s ≡ true → state_fits s ≡ true → IsFront s f → Begins f
viable (Want k) f l h q = at_place k f h q
viable (Have e k) f l h q = let w = and_true (place_fits k) (is_spelled e) h in at_value k e f w.0 w.1 q
viable (InName n a) f l h q = let w = thirds (name_at_fits a) (is_begun n) (begun_fits n) h in in_a_name n a f w.0 w.1.0 w.1.1 q
viable (InInt n k) f l h q = let w = and_true (place_fits k) (is_exact (pos n)) h in at_value k (JInt (pos n)) f w.0 w.1 q
viable (Minus_seen k) f l h q = after_minus k f h q
viable (InNegative n k) f l h q = let w = thirds (place_fits k) (is_exact (minus n)) (nat_lt 0 n) h in in_a_number n k f w.0 w.1.0 w.1.1 q
viable (InText us a) f l h q = let w = and_true (text_fits a) (list_all is_unit us) h in in_a_text us a f w.0 w.1 q
viable (InEscape us a) f l h q = let w = and_true (text_fits a) (list_all is_unit us) h in in_escape_sign us a f w.0 w.1 q
viable (InDigits us n v a) f l h q = let w = thirds (text_fits a) (list_all is_unit us) (escape_fits n v) h in in_an_escape us n v a f w.0 w.1.0 w.1.1 q
viable (InWord cs k) f l h q = let w = and_true (place_fits k) (list_any (λ w. begins_with (word_text w) cs) words) h in in_a_word words cs k f w.1 w.0 q
viable (WantName a) f l h q = before_name a f h q
viable (WantField before a) f l h q = let w = and_true (object_fits a) (members_fit before) h in before_field before a f w.0 w.1 q
viable (WantStatement before b) f l h q = let w = and_true (block_fits b) (before_fits before) h in shorter f (codes "continue;") (at_statement before b Continue (f ++ codes "continue;") w.0 w.1 refl (rw q refl))
viable (InKeyword cs before b) f l h q = let w = thirds (block_fits b) (before_fits before) (list_any (λ w. begins_with w cs) begin_statement_words) h in in_a_keyword cs before b f w.1.1 w.0 w.1.0 q
viable (Ended before s b) f l h q = let w = thirds (block_fits b) (before_fits before) (are_spelled s) h in at_statement before b s f w.0 w.1.0 w.1.1 q
viable (Equals e k) f l h q = shorter f (codes "==") (at_place (RightOf StrictEquals e k) (f ++ codes "==") h (rw q (simp append_assoc)))
viable (WantLine before) f l h q = shorter f (codes "const ") (before_name (LineAt before) (f ++ codes "const ") h (rw q refl))
viable (WantLineName before) f l h q = before_name (LineAt before) f h q
viable (WantOut g ins outs) f l h q = let w = thirds (front_fits g) (fields_spelled ins) (outs_fit outs) h in before_out g ins outs f w.0 w.1.0 w.1.1 q
viable (HaveOut g ins o outs) f l h q = let w = thirds (front_fits g) (fields_spelled ins) (outs_fit (o ∷ outs)) h in at_outs g ins o outs f w.0 w.1.0 w.1.1 q
viable (Known cs s) f l h q = let w = and_true (is_live s) (state_fits s) h in shorter f cs (viable s (f ++ cs) w.0 w.1 q)
viable (Finished p) f l h q = record { program = p; rest = []; spelled = h; text = append-nil f ∙ q }
viable Dead f l h q = absurd cc

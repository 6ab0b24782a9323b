-- Each text and character among the tokens is a literal.
use Rattle.std.proofs.Common.{◌≡◌, ℕ, ◌+◌, ◌-◌, ◌<◌, ◌≤◌, List, [], ◌∷◌, ◌++◌, length, take, drop, Bool, true, false}
use Rattle.std.proofs.Common.{◌||◌, ◌==◌, Option, Some, None, nat_le, sym, refl, ap, subst, ◌∙◌, arith, append_assoc}
use Rattle.std.proofs.Common.{length-append}
use Rattle.std.specs.Prelude.{if◌then◌else◌, option_and_then, ⊤}
use Rattle.std.specs.List.{list_any}
use Rattle.std.specs.Str.{bytes_eq, IsUtf8}
use Rattle.std.proofs.lemmas.Bool.Decides.{nat_tests}
use Rattle.std.proofs.lemmas.List.{take_at}
use Rattle.std.proofs.lemmas.List.Elements.{All-nil, All-cons}
use Rattle.std.proofs.lemmas.Str.{IsUtf8-take, IsCharBoundary-before_ascii}
use Rattle.elm_lexer.specs.declared.token.Kind.{Kind}
use Rattle.elm_lexer.specs.declared.token.Kind.TheVariants.{Int, Text, Char, LowerName, UpperName, QualifiedLower}
use Rattle.elm_lexer.specs.declared.token.Kind.TheVariants.{QualifiedUpper, Backslash, Operator}
use Rattle.elm_lexer.specs.Characters.{is_letter, is_digit, is_mark, is_operator_char}
use Rattle.elm_lexer.specs.Kinds.{kind_in, reserved_kinds, marks, operators, begins_upper, begins_field, field_of}
use Rattle.elm_lexer.specs.Kinds.{field_kind, last_word, name_kind, number_value, int_of, wildcard_kind, kind_of}
use Rattle.elm_lexer.specs.Literals.{begins_literal, begins_lines, literal_length, bad_escape, begins_text}
use Rattle.elm_lexer.specs.Literals.{literal_body, SpellsLiteral}
use Rattle.elm_lexer.specs.Names.{SpellsValue, AreValues}
use Rattle.elm_lexer.specs.Tokens.{Place, Token, Fault, Reads, no_more, gap, open_comment, token, fault, token_at}
use Rattle.elm_lexer.specs.Tokens.{Tokens}
use Rattle.elm_lexer.proofs.Basics.{true_false, front_of}
use Rattle.elm_lexer.proofs.Ends.{is_open, LineEnd, line_ended, lines_begin, Closed, lines_closed, quote_low}
use Rattle.elm_lexer.proofs.Starts.{TokenOf, of_piece, of_literal, token_is, token_cut}
use Rattle.elm_lexer.proofs.Texts.{after_ascii, at_front, gap_text}

-- ---- the kind of a piece is that of no literal

abbrev pub is_plain : Kind → Bool
is_plain Text = false
is_plain Char = false
is_plain _ = true

abbrev pub IfPlain : Option Kind → Type 0
IfPlain (Some k) = is_plain k ≡ true
IfPlain None = ⊤

abbrev ArePlain : List (List ℕ × Kind) → Type 0
ArePlain [] = ⊤
ArePlain (r ∷ rs) = (is_plain r.1 ≡ true) × ArePlain rs

either_kind : (b : Bool) (x y : Kind) → is_plain x ≡ true → is_plain y ≡ true → is_plain (if b then x else y) ≡ true
either_kind true x y p q = p
either_kind false x y p q = q

if_either : (b : Bool) (x y : Option Kind) → IfPlain x → IfPlain y → IfPlain (if b then x else y)
if_either true x y p q = p
if_either false x y p q = q

in_table : (rows : List (List ℕ × Kind)) (piece : List ℕ) (other : Kind) → ArePlain rows → is_plain other ≡ true → is_plain (kind_in rows piece other) ≡ true
in_table [] piece other ps q = q
in_table (r ∷ rows) piece other ps q = either_kind (bytes_eq piece r.0) _ _ ps.0 (in_table rows piece other ps.1 q)

reserved_plain : ArePlain reserved_kinds
reserved_plain = (refl, (refl, (refl, (refl, (refl, (refl, (refl, (refl, (refl, (refl, (refl, (refl, (refl, (refl, tt))))))))))))))

marks_plain : ArePlain marks
marks_plain = (refl, (refl, (refl, (refl, (refl, (refl, (refl, tt)))))))

operators_plain : ArePlain operators
operators_plain = (refl, (refl, (refl, (refl, (refl, (refl, tt))))))

name_plain : (name : List ℕ) → is_plain (name_kind name) ≡ true
name_plain name =
    either_kind (list_any (λ c. c == 46) name) _ _
    (either_kind (begins_upper (last_word name name)) QualifiedUpper QualifiedLower refl refl)
    (in_table reserved_kinds name (if begins_upper name then UpperName else LowerName) reserved_plain (either_kind (begins_upper name) UpperName LowerName refl refl))

number_plain : (o : Option ℕ) → IfPlain (option_and_then int_of o)
number_plain (Some n) = if_either (nat_le n 9007199254740991) (Some (Int n)) None refl tt
number_plain None = tt

wildcard_plain : (cs : List ℕ) → IfPlain (wildcard_kind cs)
wildcard_plain [] = refl
wildcard_plain (c ∷ cs) = tt

field_plain : (k : Kind) → IfPlain (field_of k)
field_plain LowerName = refl
field_plain _ = tt

pub piece_plain : (piece : List ℕ) → IfPlain (kind_of piece)
piece_plain [] = tt
piece_plain (c ∷ cs) =
    if_either (is_letter c) (Some (name_kind (c ∷ cs))) _ (name_plain (c ∷ cs))
    (if_either (is_digit c) _ _ (number_plain (number_value (c ∷ cs)))
    (if_either (c == 95) _ _ (wildcard_plain cs)
    (if_either (begins_field (c ∷ cs)) (field_kind cs) _ (field_plain (kind_in reserved_kinds cs LowerName))
    (if_either (is_mark c) (Some (kind_in marks (c ∷ cs) Backslash)) _ (in_table marks (c ∷ cs) Backslash marks_plain refl)
    (if_either (is_operator_char c) (Some (kind_in operators (c ∷ cs) Operator)) None (in_table operators (c ∷ cs) Operator operators_plain refl) tt)))))

pub plain_value : (kind : Kind) (bytes : List ℕ) → is_plain kind ≡ true → SpellsValue kind bytes
plain_value Text bytes e = absurd cc
plain_value Char bytes e = absurd cc
plain_value _ bytes e = tt

-- ---- what stands between the quotes

-- characters up to one below 128
up_to_ascii : (body : List ℕ) (c : ℕ) (cs : List ℕ) → c < 128 → IsUtf8 (body ++ c ∷ cs) → IsUtf8 body
up_to_ascii body c cs low u =
    subst (λ x. IsUtf8 x) (take_at body (c ∷ cs) (length body) refl)
    (IsUtf8-take (body ++ c ∷ cs) (length body) u
    (IsCharBoundary-before_ascii (body ++ c ∷ cs) (length body) (omega (arith, length-append body (c ∷ cs))) (subst (λ x. x < 128) (sym (at_front body c cs)) low)))

begins_more : (x r : List ℕ) → begins_lines x ≡ true → begins_lines (x ++ r) ≡ true
begins_more [] r e = absurd cc
begins_more (a ∷ []) r e = absurd cc
begins_more (a ∷ b ∷ []) r e = absurd cc
begins_more (a ∷ b ∷ c ∷ cs) r e = e

-- a literal of one line
line_body : (c last : ℕ) (body : List ℕ) → begins_lines (c ∷ (body ++ last ∷ [])) ≡ false → literal_body (c ∷ (body ++ last ∷ [])) ≡ body
line_body c last body b = by_test (nat_le 6 (length (c ∷ (body ++ last ∷ [])))) refl
  where
    inner : take (length (c ∷ (body ++ last ∷ [])) - 2) (body ++ last ∷ []) ≡ body
    inner = take_at body (last ∷ []) (length (c ∷ (body ++ last ∷ [])) - 2) (omega (arith, length-append body (last ∷ [])))

    by_test : (x : Bool) → nat_le 6 (length (c ∷ (body ++ last ∷ []))) ≡ x → literal_body (c ∷ (body ++ last ∷ [])) ≡ body
    by_test true e = rw (e, b) inner
    by_test false e = rw e inner

-- a literal of several lines
lines_body : (body : List ℕ) → literal_body (34 ∷ 34 ∷ 34 ∷ (body ++ 34 ∷ 34 ∷ 34 ∷ [])) ≡ body
lines_body body = rw long inner
  where
    size : length (body ++ 34 ∷ 34 ∷ 34 ∷ []) ≡ length body + 3
    size = length-append body (34 ∷ 34 ∷ 34 ∷ [])

    long : nat_le 6 (length (34 ∷ 34 ∷ 34 ∷ (body ++ 34 ∷ 34 ∷ 34 ∷ []))) ≡ true
    long = grind (arith, nat_tests, size)

    inner : take (length (34 ∷ 34 ∷ 34 ∷ (body ++ 34 ∷ 34 ∷ 34 ∷ [])) - 6) (body ++ 34 ∷ 34 ∷ 34 ∷ []) ≡ body
    inner = take_at body (34 ∷ 34 ∷ 34 ∷ []) (length (34 ∷ 34 ∷ 34 ∷ (body ++ 34 ∷ 34 ∷ 34 ∷ [])) - 6) (omega (arith, size))

-- a quote is no backslash
pub quote_plain : (c : ℕ) → (c == 34 || c == 39) ≡ true → (c == 92) ≡ false
quote_plain c e = grind (arith, nat_tests)

no_lines : (t x r : List ℕ) → t ≡ x ++ r → begins_lines t ≡ false → begins_lines x ≡ false
no_lines t x r e k = by_test (begins_lines x) refl
  where
    by_test : (y : Bool) → begins_lines x ≡ y → begins_lines x ≡ false
    by_test true z = true_false _ (ap begins_lines e ∙ begins_more x r z) k
    by_test false z = z

-- a literal: its quote, what stands between the quotes, and that the scans of the literal are those of what stands
-- there
pub record Quoted (t : List ℕ) (n : ℕ) : Type 0 where
  pub mark : ℕ
  pub body : List ℕ
  pub after : List ℕ
  pub count : ℕ
  pub is : (mark == 34 || mark == 39) ≡ true
  pub long : 2 ≤ length (take n t)
  pub inside : literal_body (take n t) ≡ body
  pub text : IsUtf8 body
  pub scan : bad_escape false 0 (take n t) ≡ bad_escape false count (body ++ mark ∷ after)
  pub closed : is_open false body ≡ false
  pub single : begins_text (take n t) ≡ false → take n t ≡ mark ∷ (body ++ mark ∷ [])

pub literal_quoted : (t : List ℕ) (n : ℕ) → IsUtf8 t → begins_literal t ≡ true → literal_length t ≡ Some n → Quoted t n
literal_quoted [] n u b l = absurd cc
literal_quoted (c ∷ cs) n u b l = at (begins_lines (c ∷ cs)) refl
  where
    quoted : (x body after : List ℕ) (q m : ℕ) → x ≡ take n (c ∷ cs) → (q == 34 || q == 39) ≡ true → 2 ≤ length x → literal_body x ≡ body → IsUtf8 body → bad_escape false 0 x ≡ bad_escape false m (body ++ q ∷ after) → is_open false body ≡ false → (begins_text x ≡ false → x ≡ q ∷ (body ++ q ∷ [])) → Quoted (c ∷ cs) n
    quoted x body after q m e k long i v s o one =
        record {
          mark = q;
          body = body;
          after = after;
          count = m;
          is = k;
          long = subst (λ y. 2 ≤ length y) e long;
          inside = subst (λ y. literal_body y ≡ body) e i;
          text = v;
          scan = subst (λ y. bad_escape false 0 y ≡ bad_escape false m (body ++ q ∷ after)) e s;
          closed = o;
          single = subst (λ y. begins_text y ≡ false → y ≡ q ∷ (body ++ q ∷ [])) e one;
        }

    of_lines : begins_lines (c ∷ cs) ≡ true → Closed false (drop 2 cs) 3 n → Quoted (c ∷ cs) n
    of_lines k w =
        let whole : c ∷ cs ≡ 34 ∷ 34 ∷ 34 ∷ (w.body ++ 34 ∷ 34 ∷ 34 ∷ w.rest) = lines_begin (c ∷ cs) k ∙ ap (λ (xs : List ℕ). 34 ∷ 34 ∷ 34 ∷ xs) w.whole in
        let cut : c ∷ cs ≡ (34 ∷ 34 ∷ 34 ∷ (w.body ++ 34 ∷ 34 ∷ 34 ∷ [])) ++ w.rest = whole ∙ ap (λ (xs : List ℕ). 34 ∷ 34 ∷ 34 ∷ xs) (sym (append_assoc w.body (34 ∷ 34 ∷ 34 ∷ []) w.rest)) in
        let size : length (34 ∷ 34 ∷ 34 ∷ (w.body ++ 34 ∷ 34 ∷ 34 ∷ [])) ≡ n = omega (arith, w.long, length-append w.body (34 ∷ 34 ∷ 34 ∷ [])) in
        let front = front_of (c ∷ cs) (34 ∷ 34 ∷ 34 ∷ (w.body ++ 34 ∷ 34 ∷ 34 ∷ [])) w.rest n cut size in
        let text : IsUtf8 (34 ∷ 34 ∷ 34 ∷ (w.body ++ 34 ∷ 34 ∷ 34 ∷ w.rest)) = subst (λ y. IsUtf8 y) whole u in
        let inside = after_ascii 34 _ (omega arith) (after_ascii 34 _ (omega arith) (after_ascii 34 _ (omega arith) text)) in
        quoted (34 ∷ 34 ∷ 34 ∷ (w.body ++ 34 ∷ 34 ∷ 34 ∷ [])) w.body (34 ∷ 34 ∷ []) 34 3 front.0 refl (omega (arith, size, w.long)) (lines_body w.body) (up_to_ascii w.body 34 (34 ∷ 34 ∷ w.rest) (omega arith) inside) refl w.closed (λ k. absurd cc)

    of_line : begins_lines (c ∷ cs) ≡ false → LineEnd c false cs 1 n → Quoted (c ∷ cs) n
    of_line k w =
        let cut : c ∷ cs ≡ (c ∷ (w.body ++ c ∷ [])) ++ w.rest = ap (λ (xs : List ℕ). c ∷ xs) (w.whole ∙ sym (append_assoc w.body (c ∷ []) w.rest)) in
        let size : length (c ∷ (w.body ++ c ∷ [])) ≡ n = omega (arith, w.long, length-append w.body (c ∷ [])) in
        let front = front_of (c ∷ cs) (c ∷ (w.body ++ c ∷ [])) w.rest n cut size in
        let inside : IsUtf8 (w.body ++ c ∷ w.rest) = subst (λ y. IsUtf8 y) w.whole (after_ascii c cs (quote_low c b) u) in
        let scan : bad_escape false 0 (c ∷ (w.body ++ c ∷ [])) ≡ bad_escape false 1 (w.body ++ c ∷ []) = rw (quote_plain c b) refl in
        quoted (c ∷ (w.body ++ c ∷ [])) w.body [] c 1 front.0 b (omega (arith, size, w.long)) (line_body c c w.body (no_lines (c ∷ cs) (c ∷ (w.body ++ c ∷ [])) w.rest cut k)) (up_to_ascii w.body c w.rest (quote_low c b) inside) scan w.closed (λ _. refl)

    at : (x : Bool) → begins_lines (c ∷ cs) ≡ x → Quoted (c ∷ cs) n
    at true k = of_lines k (lines_closed false 3 (drop 2 cs) n (rw k at l))
    at false k = of_line k (line_ended c false 1 cs n (rw k at l))

literal_spells : (t : List ℕ) (n : ℕ) → Quoted t n → SpellsLiteral (take n t)
literal_spells t n w = record { long = w.long; body = subst (λ y. IsUtf8 y) (sym w.inside) w.text }

-- ---- tokens

literal_value : (t : List ℕ) (kind : Kind) (n : ℕ) → SpellsLiteral (take n t) → SpellsValue kind (take n t)
literal_value t Text n s = s
literal_value t Char n s = s
literal_value t _ n s = tt

token_value : (t : List ℕ) (kind : Kind) (n : ℕ) → IsUtf8 t → TokenOf t kind n → SpellsValue kind (take n t)
token_value t kind n u (of_piece long c k) = plain_value kind (take n t) (subst (λ x. IfPlain x) k (piece_plain (take n t)))
token_value t kind n u (of_literal b l x k) = literal_value t kind n (literal_spells t n (literal_quoted t n u b l))

cut_values : {p : Place} {touched : Bool} {text : List ℕ} {ts : List Token} {end : Option Fault} → IsUtf8 text → Reads p touched text ts end → AreValues ts
cut_values u no_more = All-nil (λ (t : Token). SpellsValue t.kind t.text)
cut_values u (gap {rest = rest} body g h) = cut_values (gap_text (body ++ rest) rest u g) h
cut_values u (open_comment b never) = All-nil (λ (t : Token). SpellsValue t.kind t.text)
cut_values u (token {p = p} {touched = touched} {text = text} {kind = kind} {n = n} {ts = ts} b f h) =
    let cut = token_cut text kind n f in
    All-cons (λ (t : Token). SpellsValue t.kind t.text) (token_at p touched (take n text) kind (drop n text)) ts (token_value text kind n u (token_is text kind n f)) (cut_values (cut.after u) h)
cut_values u (fault b f) = All-nil (λ (t : Token). SpellsValue t.kind t.text)

pub tokens_values : (text : List ℕ) (ts : List Token) → Tokens text ts → AreValues ts
tokens_values text ts h = cut_values h.0 h.1

-- Each name without points among the tokens is a word.
use Rattle.std.proofs.Common.{◌≡◌, ℕ, ◌<◌, List, [], ◌∷◌, ◌++◌, take, drop, Bool, true, false, Option, Some, None}
use Rattle.std.proofs.Common.{nat_le, ◌||◌, refl, sym, ap, subst, ◌∙◌, arith}
use Rattle.std.specs.Prelude.{if◌then◌else◌, option_and_then, ◌==◌, encode_utf8_all, ⊤}
use Rattle.std.specs.List.{list_any, list_all}
use Rattle.std.specs.Str.{bytes_eq, IsUtf8, chars}
use Rattle.std.proofs.lemmas.Bool.Decides.{nat_tests}
use Rattle.std.proofs.lemmas.List.Elements.{All-nil, All-cons}
use Rattle.std.proofs.lemmas.Str.{encode_ascii, encodes-append, encodes-chars}
use Rattle.elm_base.specs.Path.{is_name_char}
use Rattle.elm_lexer.specs.declared.token.Kind.{Kind}
use Rattle.elm_lexer.specs.declared.token.Kind.TheVariants.{Int, Text, Char, LowerName, UpperName, QualifiedLower}
use Rattle.elm_lexer.specs.declared.token.Kind.TheVariants.{QualifiedUpper, Backslash, Operator}
use Rattle.elm_lexer.specs.Characters.{is_letter, is_upper, is_lower, is_digit, is_mark, is_operator_char}
use Rattle.elm_lexer.specs.Kinds.{kind_in, reserved_kinds, marks, operators, begins_upper, begins_field, field_of}
use Rattle.elm_lexer.specs.Kinds.{field_kind, last_word, name_kind, number_value, int_of, wildcard_kind, kind_of}
use Rattle.elm_lexer.specs.Literals.{is_character, literal_kind}
use Rattle.elm_lexer.specs.Pieces.{is_word, is_upper_word, IsName, word, joined, IsPiece, name, number, wildcard, field}
use Rattle.elm_lexer.specs.Pieces.{mark, operator, SpellsPiece}
use Rattle.elm_lexer.specs.Names.{is_lower_word, SpellsName, AreNames}
use Rattle.elm_lexer.specs.Tokens.{Place, Token, Fault, Reads, no_more, gap, open_comment, token, fault, token_at}
use Rattle.elm_lexer.specs.Tokens.{Tokens}
use Rattle.elm_lexer.proofs.Basics.{and_true, both_true, true_false}
use Rattle.elm_lexer.proofs.Starts.{TokenOf, of_piece, of_literal, token_is}
use Rattle.elm_lexer.proofs.Pieces.{digit_letter, mark_letter, operator_letter, mark_below, operator_below}

-- the same of a kind, if there is one
abbrev IfName : List ℕ → Option Kind → Type 0
IfName bytes (Some k) = SpellsName k bytes
IfName bytes None = ⊤

-- the same of each kind of a table
abbrev AreRows : List ℕ → List (List ℕ × Kind) → Type 0
AreRows bytes [] = ⊤
AreRows bytes (r ∷ rs) = SpellsName r.1 bytes × AreRows bytes rs

-- either of two kinds
either_kind : (bytes : List ℕ) (b t : Bool) (x y : Kind) → b ≡ t → (t ≡ true → SpellsName x bytes) → (t ≡ false → SpellsName y bytes) → SpellsName (if b then x else y) bytes
either_kind bytes b true x y e p q = subst (λ c. SpellsName (if c then x else y) bytes) (sym e) (p refl)
either_kind bytes b false x y e p q = subst (λ c. SpellsName (if c then x else y) bytes) (sym e) (q refl)

-- either of two, if there is one
if_either : (bytes : List ℕ) (b t : Bool) (x y : Option Kind) → b ≡ t → (t ≡ true → IfName bytes x) → IfName bytes y → IfName bytes (if b then x else y)
if_either bytes b true x y e p q = subst (λ c. IfName bytes (if c then x else y)) (sym e) (p refl)
if_either bytes b false x y e p q = subst (λ c. IfName bytes (if c then x else y)) (sym e) q

-- what stands in a table
in_table : (bytes : List ℕ) (rows : List (List ℕ × Kind)) (piece : List ℕ) (other : Kind) → AreRows bytes rows → SpellsName other bytes → SpellsName (kind_in rows piece other) bytes
in_table bytes [] piece other ps q = q
in_table bytes (r ∷ rows) piece other ps q = either_kind bytes (bytes_eq piece r.0) _ _ _ refl (λ _. ps.0) (λ _. in_table bytes rows piece other ps.1 q)

-- the tables have no names
reserved_rows : (bytes : List ℕ) → AreRows bytes reserved_kinds
reserved_rows bytes = (tt, (tt, (tt, (tt, (tt, (tt, (tt, (tt, (tt, (tt, (tt, (tt, (tt, (tt, tt))))))))))))))

marks_rows : (bytes : List ℕ) → AreRows bytes marks
marks_rows bytes = (tt, (tt, (tt, (tt, (tt, (tt, (tt, tt)))))))

operators_rows : (bytes : List ℕ) → AreRows bytes operators
operators_rows bytes = (tt, (tt, (tt, (tt, (tt, (tt, tt))))))

-- ---- names

-- a text whose first character is below 128 begins with it
first_byte : (c b : ℕ) (cs bs : List ℕ) → c < 128 → encode_utf8_all (c ∷ cs) ≡ b ∷ bs → b ≡ c
first_byte c b cs bs h e = same (sym e ∙ ap (λ x. x ++ encode_utf8_all cs) (encode_ascii c h))
  where
    same : b ∷ bs ≡ c ∷ encode_utf8_all cs → b ≡ c
    same e = cc

not_letter : {A : Type 0} (c b : ℕ) (cs bs : List ℕ) → c < 128 → encode_utf8_all (c ∷ cs) ≡ b ∷ bs → is_letter b ≡ true → is_letter c ≡ false → A
not_letter c b cs bs h e l n = true_false _ (subst (λ x. is_letter x ≡ true) (first_byte c b cs bs h e) l) n

digit_below : (c : ℕ) → is_digit c ≡ true → c < 128
digit_below c e = grind (arith, nat_tests)

letter_below : (c : ℕ) → is_letter c ≡ true → c < 128
letter_below c e = grind (arith, nat_tests)

-- a piece that begins with a letter is a name
letter_name : (b : ℕ) (bs cs : List ℕ) → is_letter b ≡ true → encode_utf8_all cs ≡ b ∷ bs → IsPiece cs → IsName cs
letter_name b bs _ l e (name h) = h
letter_name b bs _ l e (number {c} {cs} d h) = not_letter c b cs bs (digit_below c d) e l (digit_letter c d)
letter_name b bs _ l e (wildcard {cs} h) = not_letter 95 b cs bs (omega arith) e l refl
letter_name b bs _ l e (field {c} {cs} k h) = not_letter 46 b (c ∷ cs) bs (omega arith) e l refl
letter_name b bs _ l e (mark {c} m) = not_letter c b [] bs (mark_below c m) e l (mark_letter c m)
letter_name b bs _ l e (operator {c} {cs} o h) = not_letter c b cs bs (operator_below c o) e l (operator_letter c o)

any_middle : (f : ℕ → Bool) (xs : List ℕ) (y : ℕ) (ys : List ℕ) → f y ≡ true → list_any f (xs ++ y ∷ ys) ≡ true
any_middle f [] y ys e = rw e refl
any_middle f (x ∷ xs) y ys e = or_right (f x) _ (any_middle f xs y ys e)
  where
    or_right : (a b : Bool) → b ≡ true → (a || b) ≡ true
    or_right true b e = refl
    or_right false b e = e

-- a name without a point is a word
pointless : (cs : List ℕ) → IsName cs → list_any (λ c. c == 46) (encode_utf8_all cs) ≡ false → is_word cs ≡ true
pointless cs (word h) n = h
pointless _ (joined w {name} h k) n =
    true_false _ (ap (list_any (λ c. c == 46)) (encodes-append w (46 ∷ name) ∙ ap (λ x. encode_utf8_all w ++ (x ++ encode_utf8_all name)) (encode_ascii 46 (omega arith))) ∙ any_middle (λ c. c == 46) (encode_utf8_all w) 46 (encode_utf8_all name) refl) n

upper_word : (b : ℕ) (bs cs : List ℕ) → is_word cs ≡ true → encode_utf8_all cs ≡ b ∷ bs → is_upper b ≡ true → is_upper_word cs ≡ true
upper_word b bs [] h e u = absurd cc
upper_word b bs (c ∷ cs) h e u = let w = and_true (is_letter c) (list_all is_name_char cs) h in both_true _ _ (subst (λ x. is_upper x ≡ true) (first_byte c b cs bs (letter_below c w.0) e) u) w.1

lower_word : (b : ℕ) (bs cs : List ℕ) → is_word cs ≡ true → encode_utf8_all cs ≡ b ∷ bs → is_upper b ≡ false → is_lower_word cs ≡ true
lower_word b bs [] h e u = absurd cc
lower_word b bs (c ∷ cs) h e u =
    let w = and_true (is_letter c) (list_all is_name_char cs) h in
    both_true _ _ (other (is_upper c) (is_lower c) w.0 (subst (λ x. is_upper x ≡ false) (first_byte c b cs bs (letter_below c w.0) e) u)) w.1
  where
    other : (x y : Bool) → (x || y) ≡ true → x ≡ false → y ≡ true
    other true y e f = absurd cc
    other false y e f = e

name_spelled : (b : ℕ) (bs cs : List ℕ) → cs ≡ chars (b ∷ bs) → IsUtf8 (b ∷ bs) → encode_utf8_all cs ≡ b ∷ bs → IsName cs → SpellsName (name_kind (b ∷ bs)) (b ∷ bs)
name_spelled b bs cs i u e h =
    either_kind (b ∷ bs) (list_any (λ c. c == 46) (b ∷ bs)) _ _ _ refl
    (λ _. either_kind (b ∷ bs) (begins_upper (last_word (b ∷ bs) (b ∷ bs))) _ QualifiedUpper QualifiedLower refl (λ _. tt) (λ _. tt))
    (λ n. in_table (b ∷ bs) reserved_kinds (b ∷ bs) _ (reserved_rows (b ∷ bs)) (plain (pointless cs h (ap (list_any (λ c. c == 46)) e ∙ n))))
  where
    plain : is_word cs ≡ true → SpellsName (if is_upper b then UpperName else LowerName) (b ∷ bs)
    plain w =
        either_kind (b ∷ bs) (is_upper b) _ UpperName LowerName refl
        (λ t. (u, subst (λ x. is_upper_word x ≡ true) i (upper_word b bs cs w e t)))
        (λ f. (u, subst (λ x. is_lower_word x ≡ true) i (lower_word b bs cs w e f)))

-- ---- pieces

number_spelled : (bytes : List ℕ) (o : Option ℕ) → IfName bytes (option_and_then int_of o)
number_spelled bytes (Some n) = if_either bytes (nat_le n 9007199254740991) _ (Some (Int n)) None refl (λ _. tt) tt
number_spelled bytes None = tt

wildcard_spelled : (bytes cs : List ℕ) → IfName bytes (wildcard_kind cs)
wildcard_spelled bytes [] = tt
wildcard_spelled bytes (c ∷ cs) = tt

-- a field is not a name
field_spelled : (bytes : List ℕ) (k : Kind) → IfName bytes (field_of k)
field_spelled bytes LowerName = tt
field_spelled bytes _ = tt

piece_spelled : (piece : List ℕ) → SpellsPiece piece → IfName piece (kind_of piece)
piece_spelled [] h = tt
piece_spelled (b ∷ bs) h =
    let e = encodes-chars (b ∷ bs) h.0 in
    if_either _ (is_letter b) _ (Some (name_kind (b ∷ bs))) _ refl (λ l. name_spelled b bs (chars (b ∷ bs)) refl h.0 e (letter_name b bs (chars (b ∷ bs)) l e h.1))
    (if_either _ (is_digit b) _ _ _ refl (λ _. number_spelled _ (number_value (b ∷ bs)))
    (if_either _ (b == 95) _ _ _ refl (λ _. wildcard_spelled _ bs)
    (if_either _ (begins_field (b ∷ bs)) _ (field_kind bs) _ refl (λ _. field_spelled (b ∷ bs) (kind_in reserved_kinds bs LowerName))
    (if_either _ (is_mark b) _ (Some (kind_in marks (b ∷ bs) Backslash)) _ refl (λ _. in_table (b ∷ bs) marks (b ∷ bs) Backslash (marks_rows (b ∷ bs)) tt)
    (if_either _ (is_operator_char b) _ (Some (kind_in operators (b ∷ bs) Operator)) None refl (λ _. in_table (b ∷ bs) operators (b ∷ bs) Operator (operators_rows (b ∷ bs)) tt) tt)))))

-- ---- tokens

-- a literal is not a name
literal_spelled : (bytes literal : List ℕ) → IfName bytes (literal_kind literal)
literal_spelled bytes [] = tt
literal_spelled bytes (c ∷ cs) = if_either bytes (c == 34) _ (Some Text) _ refl (λ _. tt) (if_either bytes (is_character (c ∷ cs)) _ (Some Char) None refl (λ _. tt) tt)

token_spelled : (t : List ℕ) (kind : Kind) (n : ℕ) → TokenOf t kind n → SpellsName kind (take n t)
token_spelled t kind n (of_piece long c k) = subst (λ x. IfName (take n t) x) k (piece_spelled (take n t) c.is_piece)
token_spelled t kind n (of_literal b l x k) = subst (λ x. IfName (take n t) x) k (literal_spelled (take n t) (take n t))

cut_names : {p : Place} {touched : Bool} {text : List ℕ} {ts : List Token} {end : Option Fault} → Reads p touched text ts end → AreNames ts
cut_names no_more = All-nil (λ (t : Token). SpellsName t.kind t.text)
cut_names (gap body g h) = cut_names h
cut_names (open_comment b never) = All-nil (λ (t : Token). SpellsName t.kind t.text)
cut_names (token {p = p} {touched = touched} {text = text} {kind = kind} {n = n} {ts = ts} b f h) =
    All-cons (λ (t : Token). SpellsName t.kind t.text) (token_at p touched (take n text) kind (drop n text)) ts (token_spelled text kind n (token_is text kind n f)) (cut_names h)
cut_names (fault b f) = All-nil (λ (t : Token). SpellsName t.kind t.text)

pub tokens_names : (text : List ℕ) (ts : List Token) → Tokens text ts → AreNames ts
tokens_names text ts h = cut_names h.1

-- What the pieces of a text are: a field is a word after its point, and an integer is exact.
use Rattle.std.proofs.Common.{◌≡◌, ℕ, ◌<◌, ◌≤◌, List, [], ◌∷◌, ◌++◌, take, drop, Bool, true, false, nat_le, ◌||◌}
use Rattle.std.proofs.Common.{Option, Some, None, refl, sym, ap, subst, ◌∙◌, arith}
use Rattle.std.specs.Prelude.{if◌then◌else◌, option_and_then, ◌==◌, ⊤}
use Rattle.std.specs.List.{list_any, list_all, All}
use Rattle.std.specs.Str.{bytes_eq, IsUtf8, chars}
use Rattle.std.proofs.lemmas.Bool.Decides.{nat_tests}
use Rattle.std.proofs.lemmas.List.Elements.{All-nil, All-cons, All-get_or, All-from_get_or}
use Rattle.std.proofs.lemmas.Str.{encode_ascii, encodes-chars, chars_past_char, scalars-chars}
use Rattle.elm_base.specs.Path.{is_name_char}
use Rattle.elm_lexer.specs.declared.token.Kind.{Kind}
use Rattle.elm_lexer.specs.declared.token.Kind.TheVariants.{Int, Text, Char, Field, LowerName, UpperName}
use Rattle.elm_lexer.specs.declared.token.Kind.TheVariants.{QualifiedLower, QualifiedUpper, Backslash, Operator}
use Rattle.elm_lexer.specs.Characters.{is_letter, is_upper, is_lower, is_digit, is_mark, is_operator_char}
use Rattle.elm_lexer.specs.Kinds.{kind_in, reserved_kinds, marks, operators, begins_upper, begins_field}
use Rattle.elm_lexer.specs.Kinds.{field_of, field_kind, last_word, name_kind, number_value, int_of, wildcard_kind}
use Rattle.elm_lexer.specs.Kinds.{kind_of}
use Rattle.elm_lexer.specs.Literals.{is_character, literal_kind, literal_body, literal_units}
use Rattle.elm_lexer.specs.Pieces.{is_word, is_upper_word, word, joined, IsPiece, name, number, wildcard, field}
use Rattle.elm_lexer.specs.Pieces.{mark, operator, SpellsPiece}
use Rattle.elm_lexer.specs.Names.{is_lower_word, SpellsName, SpellsValue}
use Rattle.elm_lexer.specs.Values.{SpellsUnits}
use Rattle.elm_lexer.specs.Tokens.{Place, Token, Fault, Reads, no_more, gap, open_comment, token, fault, token_at}
use Rattle.elm_lexer.specs.Tokens.{Tokens}
use Rattle.elm_tree.specs.Words as words
use Rattle.elm_lexer.proofs.Names.{tokens_names}
use Rattle.elm_lexer.proofs.Pieces.{operator_letter}
use Rattle.elm_lexer.proofs.Spelled.{tokens_spelled}
use Rattle.elm_lexer.proofs.Starts.{TokenOf, of_piece, of_literal, token_is}
use Rattle.elm_lexer.proofs.Texts.{after_ascii}
use Rattle.elm_lexer.proofs.Values.{tokens_values}
use Rattle.canon_proper.specs.Sound.{IsSoundAs, IsSound, AreSound}
use Rattle.elm_canon.specs.Spelled.{is_module}
use Rattle.elm_base.specs.Units.{units_of_chars}
use Rattle.canon_proper.proofs.Homes.{name_module, letter_name}
use Rattle.canon_proper.proofs.Units.{and_true, both_true, spelled_word, spelled_lower, literal_all, upper_module}
use Rattle.canon_proper.proofs.Units.{spelled_module}

-- a text that is a word
abbrev IsWordText : List ℕ → Type 0
IsWordText bytes = IsUtf8 bytes × (is_word (chars bytes) ≡ true)

-- what is shown here of a piece of this kind
abbrev IsPieceAs : Kind → List ℕ → Type 0
IsPieceAs Field bytes = IsWordText (drop 1 bytes)
IsPieceAs (Int n) bytes = n ≤ 9007199254740991
IsPieceAs QualifiedUpper bytes = IsUtf8 bytes × (is_module true (units_of_chars (chars bytes)) ≡ true)
IsPieceAs _ bytes = ⊤

-- the same of a kind, if there is one
abbrev IfKind : List ℕ → Option Kind → Type 0
IfKind bytes (Some k) = IsPieceAs k bytes
IfKind bytes None = ⊤

-- the same of each kind of a table
abbrev AreRows : List ℕ → List (List ℕ × Kind) → Type 0
AreRows bytes [] = ⊤
AreRows bytes (r ∷ rs) = IsPieceAs r.1 bytes × AreRows bytes rs

either_kind : (bytes : List ℕ) (b : Bool) (x y : Kind) → IsPieceAs x bytes → IsPieceAs y bytes →
    IsPieceAs (if b then x else y) bytes
either_kind bytes true x y p q = p
either_kind bytes false x y p q = q

if_either : (bytes : List ℕ) (b t : Bool) (x y : Option Kind) → b ≡ t → (t ≡ true → IfKind bytes x) → IfKind bytes y →
    IfKind bytes (if b then x else y)
if_either bytes b true x y e p q = subst (λ c. IfKind bytes (if c then x else y)) (sym e) (p refl)
if_either bytes b false x y e p q = subst (λ c. IfKind bytes (if c then x else y)) (sym e) q

in_table : (bytes : List ℕ) (rows : List (List ℕ × Kind)) (piece : List ℕ) (other : Kind) → AreRows bytes rows →
    IsPieceAs other bytes → IsPieceAs (kind_in rows piece other) bytes
in_table bytes [] piece other ps q = q
in_table bytes (r ∷ rows) piece other ps q =
    either_kind bytes (bytes_eq piece r.0) _ _ ps.0 (in_table bytes rows piece other ps.1 q)

-- the tables have no fields and no integers
reserved_rows : (bytes : List ℕ) → AreRows bytes reserved_kinds
reserved_rows bytes = (tt, (tt, (tt, (tt, (tt, (tt, (tt, (tt, (tt, (tt, (tt, (tt, (tt, (tt, tt))))))))))))))

marks_rows : (bytes : List ℕ) → AreRows bytes marks
marks_rows bytes = (tt, (tt, (tt, (tt, (tt, (tt, (tt, tt)))))))

operators_rows : (bytes : List ℕ) → AreRows bytes operators
operators_rows bytes = (tt, (tt, (tt, (tt, (tt, (tt, tt))))))

-- ---- pieces

-- the characters of a text that begins with one of ASCII
low_chars : (d : ℕ) (ds : List ℕ) → d < 128 → IsUtf8 (d ∷ ds) → chars (d ∷ ds) ≡ d ∷ chars ds
low_chars d ds l u = chars_past_char (d ∷ ds) ds d u (ap (λ x. x ++ ds) (sym (encode_ascii d l)))

letter_low : (c : ℕ) → is_letter c ≡ true → c < 128
letter_low c e = grind (arith, nat_tests)

name_is : (b : ℕ) (bs : List ℕ) → SpellsPiece (b ∷ bs) → is_letter b ≡ true →
    IsPieceAs (name_kind (b ∷ bs)) (b ∷ bs)
name_is b bs h l =
    either_kind (b ∷ bs) (list_any (λ c. c == 46) (b ∷ bs)) _ _
    (by (begins_upper (last_word (b ∷ bs) (b ∷ bs))) refl)
    (in_table (b ∷ bs) reserved_kinds (b ∷ bs) _ (reserved_rows (b ∷ bs))
    (either_kind (b ∷ bs) (is_upper b) UpperName LowerName tt tt))
  where
    by : (t : Bool) → begins_upper (last_word (b ∷ bs) (b ∷ bs)) ≡ t →
        IsPieceAs (if t then QualifiedUpper else QualifiedLower) (b ∷ bs)
    by true e = (
      h.0,
      name_module (chars (b ∷ bs))
          (letter_name (chars (b ∷ bs)) b (chars bs) h.1 (low_chars b bs (letter_low b l) h.0) l)
          (scalars-chars (b ∷ bs) h.0)
          (subst (λ z. begins_upper (last_word z z) ≡ true) (sym (encodes-chars (b ∷ bs) h.0)) e),
    )
    by false e = tt

number_exact : (bytes : List ℕ) (o : Option ℕ) → IfKind bytes (option_and_then int_of o)
number_exact bytes (Some n) =
    if_either bytes (nat_le n 9007199254740991) _ (Some (Int n)) None refl (λ t. at t) tt
  where
    at : nat_le n 9007199254740991 ≡ true → n ≤ 9007199254740991
    at t = grind (arith, nat_tests)
number_exact bytes None = tt

wildcard_plain : (bytes cs : List ℕ) → IfKind bytes (wildcard_kind cs)
wildcard_plain bytes [] = tt
wildcard_plain bytes (c ∷ cs) = tt

field_plain : (bytes : List ℕ) (k : Kind) → IsPieceAs Field bytes → IfKind bytes (field_of k)
field_plain bytes LowerName q = q
field_plain bytes _ q = tt

lower_letter : (c : ℕ) → is_lower c ≡ true → is_letter c ≡ true
lower_letter c e = or_right (is_upper c) (is_lower c) e
  where
    or_right : (a b : Bool) → b ≡ true → (a || b) ≡ true
    or_right true b e = refl
    or_right false b e = e

-- a point and a lower-case letter begin no piece but a field
field_word : (ps : List ℕ) (d : ℕ) (ds : List ℕ) → IsPiece ps → ps ≡ 46 ∷ d ∷ ds → is_lower d ≡ true →
    is_word (d ∷ ds) ≡ true
field_word ps d ds (name (word {w = w} h)) e l = let k = subst (λ x. is_word x ≡ true) e h in absurd cc
field_word ps d ds (name (joined [] {name = more} h k)) e l = absurd cc
field_word ps d ds (name (joined (c ∷ cs) {name = more} h k)) e l =
    let i : c ≡ 46 = cc in
    let u = and_true (is_upper c) (list_all is_name_char cs) h in
    let v : is_upper 46 ≡ true = subst (λ x. is_upper x ≡ true) i u.0 in
    absurd cc
field_word ps d ds (number {c = c} {cs = cs} h g) e l =
    let i : c ≡ 46 = cc in
    let v : is_digit 46 ≡ true = subst (λ x. is_digit x ≡ true) i h in
    absurd cc
field_word ps d ds (wildcard {cs = cs} h) e l = absurd (other 95 cs e refl)
  where
    other : (c : ℕ) (more : List ℕ) → c ∷ more ≡ 46 ∷ d ∷ ds → c ≡ 95 → ⊥
    other c more e f = let i : c ≡ 46 = cc in absurd (omega (arith, i, f))
field_word ps d ds (field {c = c} {cs = cs} k h) e l =
    let i : cs ≡ ds = cc in
    both_true _ _ (lower_letter d l) (subst (λ x. list_all is_name_char x ≡ true) i h)
field_word ps d ds (mark {c = c} m) e l = absurd cc
field_word ps d ds (operator {c = c} {cs = cs} o h) e l =
    let i : cs ≡ d ∷ ds = cc in
    let k = subst (λ x. list_all is_operator_char x ≡ true) i h in
    let u = and_true (is_operator_char d) (list_all is_operator_char ds) k in
    let v = operator_letter d u.0 in
    let w = lower_letter d l in
    let z : true ≡ false = sym w ∙ v in
    absurd cc

below : (d : ℕ) → is_lower d ≡ true → d < 128
below d e = grind (arith, nat_tests)

field_text : (b : ℕ) (bs : List ℕ) → SpellsPiece (b ∷ bs) → begins_field (b ∷ bs) ≡ true → IsWordText bs
field_text b [] h e = let k = and_true (b == 46) false e in absurd cc
field_text b (d ∷ ds) h e =
    let k = and_true (b == 46) (is_lower d) e in
    let i : b ≡ 46 = grind (arith, nat_tests) in
    let low : d < 128 = below d k.1 in
    let whole : SpellsPiece (46 ∷ d ∷ ds) = subst (λ x. SpellsPiece (x ∷ d ∷ ds)) i h in
    let rest : IsUtf8 (d ∷ ds) = after_ascii 46 (d ∷ ds) (omega arith) whole.0 in
    let c = low_chars d ds low rest in (
      rest,
      rw c (field_word (chars (46 ∷ d ∷ ds)) d (chars ds) whole.1
          (low_chars 46 (d ∷ ds) (omega arith) whole.0 ∙ ap (λ x. 46 ∷ x) c) k.1),
    )

piece_is : (piece : List ℕ) → SpellsPiece piece → IfKind piece (kind_of piece)
piece_is [] h = tt
piece_is (b ∷ bs) h =
    if_either _ (is_letter b) _ (Some (name_kind (b ∷ bs))) _ refl (λ l. name_is b bs h l)
    (if_either _ (is_digit b) _ _ _ refl (λ _. number_exact _ (number_value (b ∷ bs)))
    (if_either _ (b == 95) _ _ _ refl (λ _. wildcard_plain _ bs)
    (if_either _ (begins_field (b ∷ bs)) _ (field_kind bs) _ refl
    (λ t. field_plain (b ∷ bs) (kind_in reserved_kinds bs LowerName) (field_text b bs h t))
    (if_either _ (is_mark b) _ (Some (kind_in marks (b ∷ bs) Backslash)) _ refl
    (λ _. in_table (b ∷ bs) marks (b ∷ bs) Backslash (marks_rows (b ∷ bs)) tt)
    (if_either _ (is_operator_char b) _ (Some (kind_in operators (b ∷ bs) Operator)) None refl
    (λ _. in_table (b ∷ bs) operators (b ∷ bs) Operator (operators_rows (b ∷ bs)) tt) tt)))))

-- ---- tokens

literal_plain : (bytes literal : List ℕ) → IfKind bytes (literal_kind literal)
literal_plain bytes [] = tt
literal_plain bytes (c ∷ cs) =
    if_either bytes (c == 34) _ (Some Text) _ refl (λ _. tt)
    (if_either bytes (is_character (c ∷ cs)) _ (Some Char) None refl (λ _. tt) tt)

token_piece : (t : List ℕ) (kind : Kind) (n : ℕ) → TokenOf t kind n → IsPieceAs kind (take n t)
token_piece t kind n (of_piece long c k) = subst (λ x. IfKind (take n t) x) k (piece_is (take n t) c.is_piece)
token_piece t kind n (of_literal b l x k) =
    subst (λ x. IfKind (take n t) x) k (literal_plain (take n t) (take n t))

abbrev IsOwn : Token → Type 0
IsOwn t = IsPieceAs t.kind t.text

cut_pieces : {p : Place} {touched : Bool} {text : List ℕ} {ts : List Token} {end : Option Fault} →
    Reads p touched text ts end → All IsOwn ts
cut_pieces no_more = All-nil IsOwn
cut_pieces (gap body g h) = cut_pieces h
cut_pieces (open_comment b never) = All-nil IsOwn
cut_pieces (token {p = p} {touched = touched} {text = text} {kind = kind} {n = n} {ts = ts} b f h) =
    All-cons IsOwn (token_at p touched (take n text) kind (drop n text)) ts
    (token_piece text kind n (token_is text kind n f)) (cut_pieces h)
cut_pieces (fault b f) = All-nil IsOwn

lower_word : (cs : List ℕ) → is_lower_word cs ≡ true → is_word cs ≡ true
lower_word [] e = absurd cc
lower_word (c ∷ cs) e =
    let k = and_true (is_lower c) (list_all is_name_char cs) e in both_true _ _ (lower_letter c k.0) k.1

upper_word : (cs : List ℕ) → is_upper_word cs ≡ true → is_word cs ≡ true
upper_word [] e = absurd cc
upper_word (c ∷ cs) e =
    let k = and_true (is_upper c) (list_all is_name_char cs) e in both_true _ _ (rw k.0 refl) k.1

sound_as : (k : Kind) (t : Token) → SpellsName k t.text → SpellsValue k t.text → SpellsUnits k t.text →
    IsPieceAs k t.text → IsSoundAs k t
sound_as LowerName t n v u p =
    (spelled_word (words.word_of t) n.0 (lower_word (chars t.text) n.1), spelled_lower (words.word_of t) n.0 n.1)
sound_as UpperName t n v u p = (
  spelled_word (words.word_of t) n.0 (upper_word (chars t.text) n.1),
  spelled_module (words.word_of t) n.0 (upper_module (chars t.text) (scalars-chars t.text n.0) n.1),
)
sound_as QualifiedUpper t n v u p = spelled_module (words.word_of t) p.0 p.1
sound_as Field t n v u p = spelled_word (words.field_of t) p.0 p.1
sound_as (Int k) t n v u p = p
sound_as Text t n v u p =
    literal_all (chars (literal_body t.text)) (literal_units t.text) (scalars-chars (literal_body t.text) v.body) u
sound_as Char t n v u p =
    literal_all (chars (literal_body t.text)) (literal_units t.text) (scalars-chars (literal_body t.text) v.body) u.0
sound_as _ t n v u p = tt

pub tokens_sound : (text : List ℕ) (ts : List Token) → Tokens text ts → AreSound ts
tokens_sound text ts h =
    All-from_get_or IsSound ts words.no_token (λ i l.
    sound_as (words.token_at ts i).kind (words.token_at ts i)
    (All-get_or (λ (t : Token). SpellsName t.kind t.text) ts i words.no_token l (tokens_names text ts h))
    (All-get_or (λ (t : Token). SpellsValue t.kind t.text) ts i words.no_token l (tokens_values text ts h))
    (All-get_or (λ (t : Token). SpellsUnits t.kind t.text) ts i words.no_token l (tokens_spelled text ts h))
    (All-get_or IsOwn ts i words.no_token l (cut_pieces h.1)))

-- Each text and character among the tokens spells its value: its escapes are the language's, and its units are what
-- they stand for.
use Rattle.std.proofs.Common.{◌≡◌, ℕ, List, [], ◌∷◌, ◌++◌, length, take, drop, Bool, true, false, ◌==◌, Option, Some}
use Rattle.std.proofs.Common.{None, sym, refl, ap, subst, ◌∙◌, arith}
use Rattle.std.specs.Prelude.{encode_utf8_all}
use Rattle.std.specs.Str.{IsUtf8, chars}
use Rattle.std.proofs.lemmas.Str.{encodes-chars, scalars-chars}
use Rattle.std.proofs.lemmas.List.Elements.{All-nil, All-cons}
use Rattle.elm_lexer.specs.declared.reading.Reading.TheVariants.{Plain}
use Rattle.elm_lexer.specs.Literals.{bad_escape, begins_text, is_character, literal_kind, units_from}
use Rattle.elm_lexer.specs.Values.{Spells}
use Rattle.elm_lexer.specs.Values.{IsOne, SpellsUnits, AreSpelled}
use Rattle.elm_lexer.specs.declared.token.Kind.{Kind}
use Rattle.elm_lexer.specs.declared.token.Kind.TheVariants.{Text, Char}
use Rattle.elm_lexer.specs.Literals.{literal_body, literal_units}
use Rattle.elm_lexer.specs.Tokens.{Place, Token, Fault, Reads, no_more, gap, open_comment, token, fault, token_at}
use Rattle.elm_lexer.specs.Tokens.{Tokens}
use Rattle.elm_lexer.proofs.Starts.{TokenOf, of_piece, of_literal, token_is, token_cut}
use Rattle.elm_lexer.proofs.Texts.{gap_text}
use Rattle.elm_lexer.proofs.Values.{is_plain, IfPlain, piece_plain, Quoted, literal_quoted}
use Rattle.elm_lexer.proofs.Scanned.{Good, spelled}
use Rattle.elm_lexer.proofs.Single.{one_code}

-- ---- tokens

literal_spelled : (t : List ℕ) (n : ℕ) → Quoted t n → bad_escape false 0 (take n t) ≡ None → Spells (chars (literal_body (take n t))) (literal_units (take n t))
literal_spelled t n w g =
    let same : encode_utf8_all (chars w.body) ≡ w.body = encodes-chars w.body w.text in
    let own : Good false w.body (w.mark ∷ w.after) = record { count = w.count; escapes = sym w.scan ∙ g; closed = w.closed } in
    let good = subst (λ x. Good false x (w.mark ∷ w.after)) (sym same) own in
    subst (λ x. Spells (chars x) (units_from Plain (chars x))) (sym w.inside) (spelled (length (chars w.body)) (chars w.body) w.mark w.after (omega arith) w.is good)

-- a character is no text, and has one character or one escape
char_kind : (x : List ℕ) → literal_kind x ≡ Some Char → (begins_text x ≡ false) × (is_character x ≡ true)
char_kind [] e = absurd cc
char_kind (c ∷ cs) e = at (c == 34) refl
  where
    inner : (b : Bool) → is_character (c ∷ cs) ≡ b → (c == 34) ≡ false → (begins_text (c ∷ cs) ≡ false) × (is_character (c ∷ cs) ≡ true)
    inner true k z = (z, k)
    inner false k z = let f : None ≡ Some Char = rw (z, k) at e in absurd cc

    at : (b : Bool) → (c == 34) ≡ b → (begins_text (c ∷ cs) ≡ false) × (is_character (c ∷ cs) ≡ true)
    at true z = let f : Some Text ≡ Some Char = rw z at e in absurd cc
    at false z = inner (is_character (c ∷ cs)) refl z

literal_one : (t : List ℕ) (n : ℕ) → Quoted t n → bad_escape false 0 (take n t) ≡ None → literal_kind (take n t) ≡ Some Char → IsOne (literal_units (take n t))
literal_one t n w g k =
    let kind = char_kind (take n t) k in
    let same : encode_utf8_all (chars w.body) ≡ w.body = encodes-chars w.body w.text in
    let s = subst (λ x. Spells (chars x) (literal_units (take n t))) w.inside (literal_spelled t n w g) in
    let whole = subst (λ x. is_character x ≡ true) (w.single kind.0) kind.1 in
    one_code (chars w.body) (literal_units (take n t)) w.mark w.is (scalars-chars w.body w.text) s (subst (λ x. is_character (w.mark ∷ (x ++ w.mark ∷ [])) ≡ true) (sym same) whole)

units_plain : (kind : Kind) (bytes : List ℕ) → is_plain kind ≡ true → SpellsUnits kind bytes
units_plain Text bytes e = absurd cc
units_plain Char bytes e = absurd cc
units_plain _ bytes e = tt

units_literal : (kind : Kind) (bytes : List ℕ) → Spells (chars (literal_body bytes)) (literal_units bytes) → (kind ≡ Char → IsOne (literal_units bytes)) → SpellsUnits kind bytes
units_literal Text bytes s one = s
units_literal Char bytes s one = (s, one refl)
units_literal _ bytes s one = tt

token_units : (t : List ℕ) (kind : Kind) (n : ℕ) → IsUtf8 t → TokenOf t kind n → SpellsUnits kind (take n t)
token_units t kind n u (of_piece long c k) = units_plain kind (take n t) (subst (λ x. IfPlain x) k (piece_plain (take n t)))
token_units t kind n u (of_literal b l x k) = let w = literal_quoted t n u b l in units_literal kind (take n t) (literal_spelled t n w x) (λ e. literal_one t n w x (k ∙ ap (λ y. Some y) e))

cut_units : {p : Place} {touched : Bool} {text : List ℕ} {ts : List Token} {end : Option Fault} → IsUtf8 text → Reads p touched text ts end → AreSpelled ts
cut_units u no_more = All-nil (λ (t : Token). SpellsUnits t.kind t.text)
cut_units u (gap {rest = rest} body g h) = cut_units (gap_text (body ++ rest) rest u g) h
cut_units u (open_comment b never) = All-nil (λ (t : Token). SpellsUnits t.kind t.text)
cut_units u (token {p = p} {touched = touched} {text = text} {kind = kind} {n = n} {ts = ts} b f h) =
    let cut = token_cut text kind n f in
    All-cons (λ (t : Token). SpellsUnits t.kind t.text) (token_at p touched (take n text) kind (drop n text)) ts (token_units text kind n u (token_is text kind n f)) (cut_units (cut.after u) h)
cut_units u (fault b f) = All-nil (λ (t : Token). SpellsUnits t.kind t.text)

pub tokens_spelled : (text : List ℕ) (ts : List Token) → Tokens text ts → AreSpelled ts
tokens_spelled text ts h = cut_units h.0 h.1

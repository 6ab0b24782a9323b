-- Texts and characters between quotes. A text is its bytes here: a byte of a longer character is none of those that are
-- looked for.
use Rattle.std.specs.Prelude.{ℕ, ◌+◌, ◌-◌, ◌*◌, ◌≤◌, Bool, true, false, not, ◌&&◌, ◌||◌, if◌then◌else◌, ◌==◌, nat_le}
use Rattle.std.specs.Prelude.{nat_lt, List, [], ◌∷◌, ◌++◌, length, take, drop, codes, Option, Some, None}
use Rattle.std.specs.Str.{IsUtf8, chars}
use Rattle.std.specs.Char.Escape.{encode_utf16}
use Rattle.elm_lexer.specs.declared.token.Kind.{Kind}
use Rattle.elm_lexer.specs.declared.token.Kind.TheVariants.{Text, Char}
use Rattle.elm_lexer.specs.declared.reading.Reading.{Reading}
use Rattle.elm_lexer.specs.declared.reading.Reading.TheVariants.{Plain, Escape, Code}
use Rattle.elm_lexer.specs.Characters.{is_among, is_hex_digit, is_continuing}
use Rattle.elm_lexer.specs.Kinds.{digit_value}

-- the text begins with " (34) or ' (39)
abbrev pub begins_literal : List ℕ → Bool
begins_literal [] = false
begins_literal (c ∷ cs) = c == 34 || c == 39

-- the text begins with """
abbrev pub begins_lines : List ℕ → Bool
begins_lines (a ∷ b ∷ c ∷ cs) = a == 34 && (b == 34 && c == 34)
begins_lines _ = false

-- c is a backslash (92) that no backslash escapes
abbrev pub escapes : Bool → ℕ → Bool
escapes escaped c = not escaped && c == 92

-- c is the quote, and no backslash escapes it
abbrev pub closes : ℕ → Bool → ℕ → Bool
closes quote escaped c = not escaped && c == quote

-- The length of a literal of one line, of which n bytes stand before the text; escaped: a backslash escapes the first
-- byte. It ends with the quote, and a line feed (10) does not stand in it.
abbrev pub line_length : ℕ → Bool → ℕ → List ℕ → Option ℕ
line_length quote escaped n [] = None
line_length quote escaped n (c ∷ cs) =
    if c == 10 then None
    else (if closes quote escaped c then Some (n + 1) else line_length quote (escapes escaped c) (n + 1) cs)

-- the same of a literal of several lines, which ends with """
abbrev pub lines_length : Bool → ℕ → List ℕ → Option ℕ
lines_length escaped n [] = None
lines_length escaped n (c ∷ cs) =
    if not escaped && begins_lines (c ∷ cs) then Some (n + 3) else lines_length (escapes escaped c) (n + 1) cs

-- the length of the literal that the text begins with, if it has an end
abbrev pub literal_length : List ℕ → Option ℕ
literal_length [] = None
literal_length (c ∷ cs) = if begins_lines (c ∷ cs) then lines_length false 3 (drop 2 cs) else line_length c false 1 cs

-- hexadecimal digits and } (125) follow, so that with n digits before, which spell v, they are 4 to 6 and spell at most
-- 10FFFF
abbrev pub ends_code : ℕ → ℕ → List ℕ → Bool
ends_code n v [] = false
ends_code n v (c ∷ cs) =
    if is_hex_digit c then nat_lt n 6 && (nat_le (v * 16 + digit_value c) 1114111 && ends_code (n + 1) (v * 16 + digit_value c) cs)
    else (c == 125 && nat_le 4 n)

-- { (123) and such a code
abbrev pub begins_code : List ℕ → Bool
begins_code [] = false
begins_code (c ∷ cs) = c == 123 && ends_code 0 0 cs

-- what may follow a backslash: n, r, t, a quote, a backslash, or u (117) and a code in braces
abbrev pub begins_escape : List ℕ → Bool
begins_escape [] = false
begins_escape (c ∷ cs) = is_among (codes "nrt\"'\\") c || (c == 117 && begins_code cs)

-- where the first backslash stands after which no escape follows; n bytes stand before the text
abbrev pub bad_escape : Bool → ℕ → List ℕ → Option ℕ
bad_escape escaped n [] = None
bad_escape escaped n (c ∷ cs) =
    if escapes escaped c && not (begins_escape cs) then Some n else bad_escape (escapes escaped c) (n + 1) cs

-- one byte, which is the quote that ends the literal
abbrev pub is_quote : List ℕ → Bool
is_quote (c ∷ []) = true
is_quote _ = false

-- the rest of a code, up to its } (125), and the quote
abbrev pub is_code_and_quote : List ℕ → Bool
is_code_and_quote [] = false
is_code_and_quote (c ∷ cs) = if c == 125 then is_quote cs else is_code_and_quote cs

-- an escape without its backslash, and the quote
abbrev pub is_escape_and_quote : List ℕ → Bool
is_escape_and_quote [] = false
is_escape_and_quote (c ∷ cs) = if c == 117 then is_code_and_quote cs else is_quote cs

-- the rest of a character's bytes, and the quote
abbrev pub is_rest_and_quote : List ℕ → Bool
is_rest_and_quote [] = false
is_rest_and_quote (c ∷ cs) = if is_continuing c then is_rest_and_quote cs else is_quote (c ∷ cs)

-- one character or one escape stands between the quotes
abbrev pub is_character : List ℕ → Bool
is_character (quote ∷ c ∷ cs) = if c == 92 then is_escape_and_quote cs else is_rest_and_quote cs
is_character _ = false

-- a text begins with " (34), and a character does not
abbrev pub begins_text : List ℕ → Bool
begins_text [] = false
begins_text (c ∷ cs) = c == 34

-- a character that is a tab (9)
abbrev pub is_tab : List ℕ → Bool
is_tab (q ∷ c ∷ cs) = q == 39 && (c == 9 && is_quote cs)
is_tab _ = false

-- the kind of a literal, if it is a token
abbrev pub literal_kind : List ℕ → Option Kind
literal_kind [] = None
literal_kind (c ∷ cs) = if c == 34 then Some Text else (if is_character (c ∷ cs) then Some Char else None)

-- ---- values

-- what stands between the quotes
abbrev pub literal_body : List ℕ → List ℕ
literal_body text = if nat_le 6 (length text) && begins_lines text then take (length text - 6) (drop 3 text) else take (length text - 2) (drop 1 text)

-- the units of a code point or of a surrogate; no code is past 10FFFF
abbrev pub code_units : ℕ → List ℕ
code_units code = if nat_le code 1114111 then encode_utf16 code else []

-- the code with one more digit; the brace is none
abbrev pub more_code : ℕ → ℕ → ℕ
more_code code c = if is_hex_digit c && nat_le code 1114111 then code * 16 + digit_value c else code

-- the character that follows a backslash stands for a line feed, a carriage return, a tab or itself
abbrev pub escaped_char : ℕ → ℕ
escaped_char c = if c == 110 then 10 else (if c == 114 then 13 else (if c == 116 then 9 else c))

-- the units that one more character adds
abbrev pub units_at : Reading → ℕ → List ℕ
units_at Plain c = if c == 92 then [] else encode_utf16 c
units_at Escape c = if c == 117 then [] else encode_utf16 (escaped_char c)
units_at (Code code) c = if c == 125 then code_units code else []

-- what is being read after that character
abbrev pub reading_after : Reading → ℕ → Reading
reading_after Plain c = if c == 92 then Escape else Plain
reading_after Escape c = if c == 117 then Code 0 else Plain
reading_after (Code code) c = if c == 125 then Plain else Code (more_code code c)

-- the units that characters spell
abbrev pub units_from : Reading → List ℕ → List ℕ
units_from reading [] = []
units_from reading (c ∷ cs) = units_at reading c ++ units_from (reading_after reading c) cs

-- the value of a text or character: its UTF-16 units
abbrev pub literal_units : List ℕ → List ℕ
literal_units text = units_from Plain (chars (literal_body text))

-- the quotes are two bytes at least, and what stands between them is characters
pub record SpellsLiteral (text : List ℕ) : Type 0 where
  pub long : 2 ≤ length text
  pub body : IsUtf8 (literal_body text)

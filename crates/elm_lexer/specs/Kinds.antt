-- What a piece is, if it is a token, and what is wrong with it otherwise.
use Rattle.std.specs.Prelude.{ℕ, ◌+◌, ◌-◌, ◌*◌, Bool, false, ◌&&◌, ◌||◌, if◌then◌else◌, ◌==◌, nat_le, List, [], ◌∷◌}
use Rattle.std.specs.Prelude.{Option, Some, None, option_and_then, codes}
use Rattle.std.specs.List.{list_all, list_any}
use Rattle.std.specs.Str.{bytes_eq}
use Rattle.elm_lexer.specs.declared.token.Kind.{Kind}
use Rattle.elm_lexer.specs.declared.token.Kind.TheVariants.{If, Then, Else, Case, Of, Let, In, «Type», Module, Where}
use Rattle.elm_lexer.specs.declared.token.Kind.TheVariants.{Import, Exposing, As, Port, LowerName, UpperName}
use Rattle.elm_lexer.specs.declared.token.Kind.TheVariants.{QualifiedLower, QualifiedUpper, Int, Underscore, OpenParen}
use Rattle.elm_lexer.specs.declared.token.Kind.TheVariants.{CloseParen, OpenBrace, CloseBrace, OpenBracket}
use Rattle.elm_lexer.specs.declared.token.Kind.TheVariants.{CloseBracket, Comma, Backslash, Equals, Arrow, Colon, Bar}
use Rattle.elm_lexer.specs.declared.token.Kind.TheVariants.{Dot, Dots, Field, Operator}
use Rattle.elm_base.specs.Reserved.{reserved_words}
use Rattle.elm_base.specs.declared.fault.Code.{Code}
use Rattle.elm_base.specs.declared.fault.Code.TheVariants.{Syntax, FloatLiteral, IntTooLarge}
use Rattle.elm_lexer.specs.Characters.{is_letter, is_upper, is_lower, is_digit, is_hex_digit, is_between, is_mark}
use Rattle.elm_lexer.specs.Characters.{is_operator_char}
use Rattle.elm_lexer.specs.Numbers.{is_float}

-- the kind that stands beside the piece in the table, or the other kind
abbrev pub kind_in : List (List ℕ × Kind) → List ℕ → Kind → Kind
kind_in [] piece other = other
kind_in (row ∷ rows) piece other = if bytes_eq piece row.0 then row.1 else kind_in rows piece other

-- the table of pieces and their kinds
abbrev pub table : List (List ℕ) → List Kind → List (List ℕ × Kind)
table (piece ∷ pieces) (kind ∷ kinds) = (piece, kind) ∷ table pieces kinds
table _ _ = []

-- the reserved words, each with its kind
abbrev pub reserved_kinds : List (List ℕ × Kind)
reserved_kinds =
    table reserved_words (If ∷ Then ∷ Else ∷ Case ∷ Of ∷ Let ∷ In ∷ «Type» ∷ Module ∷ Where ∷ Import ∷ Exposing ∷ As ∷ Port ∷ [])

-- any other mark is the backslash
abbrev pub marks : List (List ℕ × Kind)
marks =
    (codes "(", OpenParen) ∷ (codes ")", CloseParen) ∷ (codes "{", OpenBrace) ∷ (codes "}", CloseBrace)
    ∷ (codes "[", OpenBracket) ∷ (codes "]", CloseBracket) ∷ (codes ",", Comma) ∷ []

-- the operators with a kind of their own
abbrev pub operators : List (List ℕ × Kind)
operators = (codes "=", Equals) ∷ (codes "->", Arrow) ∷ (codes ":", Colon) ∷ (codes "|", Bar) ∷ (codes "..", Dots) ∷ (codes ".", Dot) ∷ []

-- the case of a name's first letter
abbrev pub begins_upper : List ℕ → Bool
begins_upper [] = false
begins_upper (c ∷ cs) = is_upper c

-- the last word of a name: after each point (46) a new word begins
abbrev pub last_word : List ℕ → List ℕ → List ℕ
last_word word [] = word
last_word word (c ∷ cs) = if c == 46 then last_word cs cs else last_word word cs

-- a name with points goes by the case of its last word; a word alone may be reserved
abbrev pub name_kind : List ℕ → Kind
name_kind name =
    if list_any (λ c. c == 46) name
    then (if begins_upper (last_word name name) then QualifiedUpper else QualifiedLower)
    else kind_in reserved_kinds name (if begins_upper name then UpperName else LowerName)

-- a digit from 1 to 9, and digits
abbrev pub is_decimal : List ℕ → Bool
is_decimal [] = false
is_decimal (c ∷ cs) = is_between 49 57 c && list_all is_digit cs

-- 0x, and one hexadecimal digit or more
abbrev pub is_hexadecimal : List ℕ → Bool
is_hexadecimal (a ∷ b ∷ c ∷ cs) = a == 48 && b == 120 && list_all is_hex_digit (c ∷ cs)
is_hexadecimal _ = false

-- the value of a hexadecimal digit
abbrev pub digit_value : ℕ → ℕ
digit_value c = if is_digit c then c - 48 else (if is_upper c then c - 55 else c - 87)

-- the number that n and then the digits spell in the base
abbrev pub number_from : ℕ → ℕ → List ℕ → ℕ
number_from base n [] = n
number_from base n (c ∷ cs) = number_from base (n * base + digit_value c) cs

-- the digits after 0x
abbrev pub after_prefix : List ℕ → List ℕ
after_prefix (a ∷ b ∷ cs) = cs
after_prefix _ = []

-- the value that a number spells
abbrev pub number_value : List ℕ → Option ℕ
number_value number =
    if bytes_eq number (codes "0") then Some 0
    else (if is_decimal number then Some (number_from 10 0 number)
    else (if is_hexadecimal number then Some (number_from 16 0 (after_prefix number)) else None))

-- an integer is at most 2 ^ 53 - 1
abbrev pub int_of : ℕ → Option Kind
int_of n = if nat_le n 9007199254740991 then Some (Int n) else None

-- what follows a wildcard's _: nothing, or it is not a token
abbrev pub wildcard_kind : List ℕ → Option Kind
wildcard_kind [] = Some Underscore
wildcard_kind _ = None

-- the text begins with a lower-case letter
abbrev pub begins_lower : List ℕ → Bool
begins_lower [] = false
begins_lower (c ∷ cs) = is_lower c

-- the text begins with a point (46) and a lower-case letter
abbrev pub begins_field : List ℕ → Bool
begins_field [] = false
begins_field (c ∷ cs) = c == 46 && begins_lower cs

-- a name makes a field, and a reserved word makes none
abbrev pub field_of : Kind → Option Kind
field_of LowerName = Some Field
field_of _ = None

-- the kind of a point and the word after it, if it is a token
abbrev pub field_kind : List ℕ → Option Kind
field_kind word = field_of (kind_in reserved_kinds word LowerName)

-- the kind of a piece, if it is a token
abbrev pub kind_of : List ℕ → Option Kind
kind_of [] = None
kind_of (c ∷ cs) =
    if is_letter c then Some (name_kind (c ∷ cs))
    else (if is_digit c then option_and_then int_of (number_value (c ∷ cs))
    else (if c == 95 then wildcard_kind cs
    else (if begins_field (c ∷ cs) then field_kind cs
    else (if is_mark c then Some (kind_in marks (c ∷ cs) Backslash)
    else (if is_operator_char c then Some (kind_in operators (c ∷ cs) Operator) else None)))))

-- the piece is a number without a point and without an exponent
abbrev pub is_integer : List ℕ → Bool
is_integer number = bytes_eq number (codes "0") || (is_decimal number || is_hexadecimal number)

-- what is wrong with a piece that is not a token: a number with a point or an exponent, an integer that is too great,
-- or anything else
abbrev pub fault_of : List ℕ → Code
fault_of piece = if is_float piece then FloatLiteral else (if is_integer piece then IntTooLarge else Syntax)

-- what the fault says of the piece: a number is named
abbrev pub detail_of : List ℕ → List ℕ
detail_of piece = if is_float piece || is_integer piece then piece else []

-- A text in quotes, by its UTF-16 units, all in ASCII. (RFC 8259, 7; ECMA-262, 12.9.4.)
use Rattle.std.specs.Prelude.{ℕ, ◌+◌, ◌/◌, ◌%◌, List, [], ◌∷◌, ◌++◌, if◌then◌else◌, ◌&&◌, ◌||◌, ◌==◌, nat_le, nat_lt}
use Rattle.std.specs.Prelude.{codes}

-- a digit of base 16, upper case
abbrev pub hex_digit : ℕ → ℕ
hex_digit d = if nat_lt d 10 then d + 48 else d + 55

-- four digits of base 16
abbrev pub hex4 : ℕ → List ℕ
hex4 u = hex_digit (u / 4096 % 16) ∷ hex_digit (u / 256 % 16) ∷ hex_digit (u / 16 % 16) ∷ hex_digit (u % 16) ∷ []

-- a unit inside of a text: 20 to 7E as it is, but for " and \, which a \ stands before; any other as \u and four digits
abbrev pub unit_text : ℕ → List ℕ
unit_text u =
    if u == 34 || u == 92 then 92 ∷ u ∷ []
    else (if nat_le 32 u && nat_le u 126 then u ∷ [] else codes "\\u" ++ hex4 u)

abbrev pub units_text : List ℕ → List ℕ
units_text [] = []
units_text (u ∷ us) = unit_text u ++ units_text us

-- a text in its quotes
abbrev pub text_text : List ℕ → List ℕ
text_text us = 34 ∷ (units_text us ++ 34 ∷ [])

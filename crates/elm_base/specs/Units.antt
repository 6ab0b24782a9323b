-- A text as UTF-16 units: one of each character up to FFFF, two of any other. (ECMA-262, 11.1.1, UTF16EncodeCodePoint.)
use Rattle.std.specs.Prelude.{ℕ, List, [], ◌∷◌, ◌++◌}
use Rattle.std.specs.Str.{chars}
use Rattle.std.specs.Char.Escape.{encode_utf16}

abbrev pub units_of_chars : List ℕ → List ℕ
units_of_chars [] = []
units_of_chars (c ∷ cs) = encode_utf16 c ++ units_of_chars cs

-- of a text in UTF-8
abbrev pub text_units : List ℕ → List ℕ
text_units text = units_of_chars (chars text)

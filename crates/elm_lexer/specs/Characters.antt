-- Characters, by their codes.
use Rattle.std.specs.Prelude.{ℕ, Bool, ◌||◌, ◌&&◌, List, codes, nat_le, ◌==◌}
use Rattle.std.specs.List.{list_any}

-- c is one of the codes from low to high
abbrev pub is_between : ℕ → ℕ → ℕ → Bool
is_between low high c = nat_le low c && nat_le c high

-- c is one of the characters of the text
abbrev pub is_among : List ℕ → ℕ → Bool
is_among text c = list_any (λ d. c == d) text

-- a space, a line feed or a carriage return
abbrev pub is_white : ℕ → Bool
is_white c = c == 32 || c == 10 || c == 13

-- A to Z
abbrev pub is_upper : ℕ → Bool
is_upper c = is_between 65 90 c

-- a to z
abbrev pub is_lower : ℕ → Bool
is_lower c = is_between 97 122 c

-- A to Z and a to z
abbrev pub is_letter : ℕ → Bool
is_letter c = is_upper c || is_lower c

-- 0 to 9
abbrev pub is_digit : ℕ → Bool
is_digit c = is_between 48 57 c

-- 0 to 9, A to F, a to f
abbrev pub is_hex_digit : ℕ → Bool
is_hex_digit c = is_digit c || is_between 65 70 c || is_between 97 102 c

-- the characters that operators are made of
abbrev pub is_operator_char : ℕ → Bool
is_operator_char c = is_among (codes "+-/*=.<>:&|^?%!") c

-- parentheses, braces, brackets, the comma and the backslash
abbrev pub is_mark : ℕ → Bool
is_mark c = is_among (codes "(){}[],\\") c

-- the signs of an exponent, + and -
abbrev pub is_sign : ℕ → Bool
is_sign c = c == 43 || c == 45

-- e and E
abbrev pub is_exponent_letter : ℕ → Bool
is_exponent_letter c = c == 101 || c == 69

-- a byte that goes on with a character of more than one byte
abbrev pub is_continuing : ℕ → Bool
is_continuing c = is_between 128 191 c

-- Numbers: how far the piece of one goes, and which of them have a point or an exponent.
use Rattle.std.specs.Prelude.{ℕ, Bool, true, false, ◌&&◌, if◌then◌else◌, ◌==◌, List, [], ◌∷◌}
use Rattle.std.specs.List.{list_all}
use Rattle.elm_base.specs.Path.{is_name_char}
use Rattle.elm_lexer.specs.declared.part.Part.{Part}
use Rattle.elm_lexer.specs.declared.part.Part.TheVariants.{Whole, Fraction, Exponent, Other}
use Rattle.elm_lexer.specs.Characters.{is_digit, is_sign, is_exponent_letter}

-- the text begins with a digit
abbrev pub begins_digit : List ℕ → Bool
begins_digit [] = false
begins_digit (c ∷ cs) = is_digit c

-- what a number has had, after one more digit
abbrev pub after_digit : Part → Part
after_digit Whole = Whole
after_digit Fraction = Fraction
after_digit Exponent = Other
after_digit Other = Other

-- and after an e or E
abbrev pub after_letter : Part → Part
after_letter Whole = Exponent
after_letter Fraction = Exponent
after_letter Exponent = Other
after_letter Other = Other

-- and after a name character
abbrev pub after_name_char : Part → ℕ → Part
after_name_char part c = if is_digit c then after_digit part else (if is_exponent_letter c then after_letter part else Other)

-- and after a character that is none, which joins digits to it
abbrev pub after_joint : Part → Part
after_joint Whole = Fraction
after_joint _ = Other

-- a point (46) joins a fraction to digits; a sign joins digits to the letter of an exponent
abbrev pub may_join : Part → ℕ → Bool
may_join Whole c = c == 46
may_join Exponent c = is_sign c
may_join _ c = false

-- c joins the digits that follow it to the number
abbrev pub is_joint : Part → ℕ → List ℕ → Bool
is_joint part c after = may_join part c && begins_digit after

-- name characters, a point that joins a fraction, and a sign that joins an exponent go on with a number
abbrev pub goes_on_number : Part → List ℕ → Bool
goes_on_number part [] = true
goes_on_number part (c ∷ cs) =
    if is_name_char c then goes_on_number (after_name_char part c) cs
    else (is_joint part c cs && goes_on_number (after_joint part) cs)

-- what follows the digits that the text begins with
abbrev pub after_digits : List ℕ → List ℕ
after_digits [] = []
after_digits (c ∷ cs) = if is_digit c then after_digits cs else c ∷ cs

-- one digit or more
abbrev pub are_digits : List ℕ → Bool
are_digits [] = false
are_digits (c ∷ cs) = is_digit c && list_all is_digit cs

-- digits, or a sign and digits
abbrev pub is_signed : List ℕ → Bool
is_signed [] = false
is_signed (c ∷ cs) = if is_sign c then are_digits cs else are_digits (c ∷ cs)

-- e or E, and a number that may have a sign
abbrev pub is_exponent : List ℕ → Bool
is_exponent [] = false
is_exponent (c ∷ cs) = is_exponent_letter c && is_signed cs

-- nothing, or an exponent
abbrev pub is_end : List ℕ → Bool
is_end [] = true
is_end (c ∷ cs) = is_exponent (c ∷ cs)

-- a point and digits, or an exponent, or both
abbrev pub is_fraction : List ℕ → Bool
is_fraction [] = false
is_fraction (c ∷ cs) = if c == 46 then begins_digit cs && is_end (after_digits cs) else is_exponent (c ∷ cs)

-- a number with a point or an exponent: 1.5, 1e3, 1.5e-3
abbrev pub is_float : List ℕ → Bool
is_float number = begins_digit number && is_fraction (after_digits number)

-- How many bytes the first piece of a text takes, by the text's characters, as the program finds it. No clause of a
-- public function cites this: that it is the longest piece is proved.
use Rattle.std.specs.Prelude.{ℕ, ◌+◌, length, Bool, false, ◌&&◌, ◌||◌, if◌then◌else◌, ◌==◌, List, [], ◌∷◌, Option, Some}
use Rattle.std.specs.Prelude.{None}
use Rattle.std.specs.Char.{encode_utf8}
use Rattle.elm_base.specs.Path.{is_name_char}
use Rattle.elm_lexer.specs.declared.part.Part.{Part}
use Rattle.elm_lexer.specs.declared.part.Part.TheVariants.{Whole}
use Rattle.elm_lexer.specs.Characters.{is_letter, is_upper, is_digit, is_operator_char, is_mark}
use Rattle.elm_lexer.specs.Kinds.{begins_upper, begins_field}
use Rattle.elm_lexer.specs.Numbers.{after_name_char, after_joint, is_joint}

-- how many bytes the characters take that the text begins with and that pass the test
abbrev pub run : (ℕ → Bool) → List ℕ → ℕ
run test [] = 0
run test (c ∷ cs) = if test c then length (encode_utf8 c) + run test cs else 0

-- the text begins with a letter
abbrev pub begins_letter : List ℕ → Bool
begins_letter [] = false
begins_letter (c ∷ cs) = is_letter c

-- how many bytes a name goes on for, from inside of a word that is upper case or not
abbrev pub name_run : Bool → List ℕ → ℕ
name_run upper [] = 0
name_run upper (c ∷ cs) =
    if is_name_char c then length (encode_utf8 c) + name_run upper cs
    else (if upper && (c == 46 && begins_letter cs) then length (encode_utf8 c) + name_run (begins_upper cs) cs else 0)

-- what a number has had after c, if it goes on with it; cs follows
abbrev pub next_part : Part → ℕ → List ℕ → Option Part
next_part part c cs = if is_name_char c then Some (after_name_char part c) else (if is_joint part c cs then Some (after_joint part) else None)

-- how many bytes a number goes on for
abbrev pub number_run : Part → List ℕ → ℕ
number_run part [] = 0
number_run part (c ∷ cs) =
    if is_name_char c then length (encode_utf8 c) + number_run (after_name_char part c) cs
    else (if is_joint part c cs then length (encode_utf8 c) + number_run (after_joint part) cs else 0)

-- the bytes of the longest front that is a piece, or 0 where none is
abbrev pub piece_length : List ℕ → ℕ
piece_length [] = 0
piece_length (c ∷ cs) =
    if is_letter c then name_run (is_upper c) (c ∷ cs)
    else (if is_digit c then number_run Whole (c ∷ cs)
    else (if c == 95 || begins_field (c ∷ cs) then 1 + run is_name_char cs
    else (if is_mark c then 1 else run is_operator_char (c ∷ cs))))

-- What has been read of a name, as text, and whether a name that can be spelled begins so.
use Rattle.std.proofs.Common.{ℕ, zero, suc, ◌-◌, ◌/◌, ◌%◌, ◌^◌, List, [], ◌∷◌, ◌++◌, Bool, true, ◌&&◌, nat_le, nat_lt}
use Rattle.std.proofs.Common.{decimal}
use Rattle.js_tree.specs.Text.{hex_digit, name_units}
use Rattle.js_tree.specs.Subset.{is_word, is_module}
use Rattle.js_tree.specs.NameReader.{Owner, Own, Of, Begun, OneDollar, TwoDollars, Numbered, NameWord, Dollar, Digits}
use Rattle.js_tree.specs.NameReader.{NoName, begins_upper, greatest}

-- what has been read, as text
abbrev pub owner_text : Owner → List ℕ
owner_text Own = 36 ∷ []
owner_text (Of []) = []
owner_text (Of (v ∷ vs)) = name_units (v ∷ vs) ++ 36 ∷ []

-- digits of base 16, so many of four to come after the next
abbrev pub digits_text : ℕ → ℕ → List ℕ
digits_text zero a = hex_digit (a / 256 % 16) ∷ hex_digit (a / 16 % 16) ∷ hex_digit (a % 16) ∷ []
digits_text (suc zero) a = hex_digit (a / 16 % 16) ∷ hex_digit (a % 16) ∷ []
digits_text (suc (suc zero)) a = hex_digit (a % 16) ∷ []
digits_text (suc (suc (suc n))) a = []

abbrev pub begun_text : Begun → List ℕ
begun_text OneDollar = 36 ∷ []
begun_text TwoDollars = 36 ∷ 36 ∷ []
begun_text (Numbered n) = 36 ∷ 36 ∷ decimal n
begun_text (NameWord o us) = owner_text o ++ name_units us
begun_text (Dollar o us) = owner_text o ++ name_units us ++ 36 ∷ []
begun_text (Digits o us n a) = owner_text o ++ name_units us ++ 36 ∷ 36 ∷ digits_text n a
begun_text NoName = []

-- what has been read begins a name that can be spelled
abbrev pub owner_fits : Owner → List ℕ → Bool
owner_fits Own us = is_word us
owner_fits (Of []) us = is_word us && begins_upper us
owner_fits (Of (v ∷ vs)) us = is_module true (v ∷ vs) && is_word us

-- so many digits of base 16 of four are to come after the next, and a unit past the characters of a word can come of
-- them
abbrev pub digits_fit : ℕ → ℕ → Bool
digits_fit n a = nat_le n 3 && (nat_lt a (16 ^ (3 - n)) && nat_le 128 (greatest (suc n) a))

abbrev pub begun_fits : Begun → Bool
begun_fits (Numbered n) = nat_lt n (2 ^ 64)
begun_fits (NameWord o us) = owner_fits o us
begun_fits (Dollar o us) = owner_fits o us
begun_fits (Digits o us n a) = owner_fits o us && digits_fit n a
begun_fits _ = true

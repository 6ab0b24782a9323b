-- The names of a program, read character by character: the state after the characters so far, and where one more leads.
use Rattle.std.specs.Prelude.{ℕ, zero, suc, ◌+◌, ◌-◌, ◌*◌, ◌/◌, ◌%◌, ◌^◌, List, [], ◌∷◌, ◌++◌, Bool, true, false, ◌&&◌}
use Rattle.std.specs.Prelude.{◌||◌, ◌==◌, nat_le, nat_lt, if◌then◌else◌, decimal}
use Rattle.js_tree.specs.Tree.{Name, Top, Local, Made}
use Rattle.js_tree.specs.Text.{is_word_char}
use Rattle.js_tree.specs.Subset.{is_upper, is_letter}

-- what a word belongs to: a local name, or the name of a module of which these words came before
pub data Owner : Type 0 where
  Own : Owner
  Of : List ℕ → Owner

-- What has been read of a name: $; $$; $$ and a number; a word; a word and $; a word, $$ and digits of base 16, so many
-- of which are to come after the next, with the number that they are; something that begins no name.
pub data Begun : Type 0 where
  OneDollar : Begun
  TwoDollars : Begun
  Numbered : ℕ → Begun
  NameWord : Owner → List ℕ → Begun
  Dollar : Owner → List ℕ → Begun
  Digits : Owner → List ℕ → ℕ → ℕ → Begun
  NoName : Begun

abbrev pub is_digit : ℕ → Bool
is_digit c = nat_le 48 c && nat_le c 57

abbrev pub is_hex_digit : ℕ → Bool
is_hex_digit c = is_digit c || nat_le 65 c && nat_le c 70

-- what a digit of base 16 stands for
abbrev pub hex_value : ℕ → ℕ
hex_value c = if nat_lt c 58 then c - 48 else c - 55

-- the greatest number that begins with those digits of base 16 and has n more
abbrev pub greatest : ℕ → ℕ → ℕ
greatest n a = a * 16 ^ n + (16 ^ n - 1)

-- the word is one of a module
abbrev pub begins_upper : List ℕ → Bool
begins_upper [] = false
begins_upper (u ∷ us) = is_upper u

-- a word after those before it
abbrev pub join : List ℕ → List ℕ → List ℕ
join [] us = us
join (v ∷ vs) us = (v ∷ vs) ++ 46 ∷ us

abbrev pub begin_name : ℕ → Begun
begin_name c = if c == 36 then OneDollar else (if is_upper c then NameWord (Of []) (c ∷ []) else NoName)

abbrev pub numbered : ℕ → Begun
numbered n = if nat_lt n (2 ^ 64) then Numbered n else NoName

-- a letter after a word and $ begins the next word
abbrev pub next_word : Owner → List ℕ → ℕ → Begun
next_word Own us c = NoName
next_word (Of m) us c = if begins_upper us && is_letter c then NameWord (Of (join m us)) (c ∷ []) else NoName

-- a digit of base 16; the unit has to be past the characters of a word
abbrev pub next_digit : Owner → List ℕ → ℕ → ℕ → Begun
next_digit o us zero a = if nat_le 128 a then NameWord o (us ++ a ∷ []) else NoName
next_digit o us (suc n) a = if nat_le 128 (greatest (suc n) a) then Digits o us n a else NoName

abbrev pub name_step : Begun → ℕ → Begun
name_step OneDollar c = if c == 36 then TwoDollars else (if is_letter c then NameWord Own (c ∷ []) else NoName)
name_step TwoDollars c = if is_digit c then numbered (c - 48) else NoName
name_step (Numbered zero) c = NoName
name_step (Numbered (suc n)) c = if is_digit c then numbered (suc n * 10 + (c - 48)) else NoName
name_step (NameWord o us) c = if c == 36 then Dollar o us else (if is_word_char c then NameWord o (us ++ c ∷ []) else NoName)
name_step (Dollar o us) c = if c == 36 then Digits o us 3 0 else next_word o us c
name_step (Digits o us n a) c = if is_hex_digit c then next_digit o us n (a * 16 + hex_value c) else NoName
name_step NoName c = NoName

-- a character that goes on with a name, or a number
abbrev pub is_run : ℕ → Bool
is_run c = is_word_char c || c == 36

-- the name that has been read, or none
pub data Found : Type 0 where
  Not : Found
  Name_is : Name → Found

abbrev pub word_name : Owner → List ℕ → Found
word_name Own us = Name_is (Local us)
word_name (Of []) us = Not
word_name (Of (v ∷ vs)) us = Name_is (Top (v ∷ vs) us)

abbrev pub name_of : Begun → Found
name_of (Numbered n) = Name_is (Made n)
name_of (NameWord o us) = word_name o us
name_of _ = Not

abbrev pub is_begun : Begun → Bool
is_begun NoName = false
is_begun _ = true

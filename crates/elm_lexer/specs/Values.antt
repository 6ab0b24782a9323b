-- What texts and characters spell, as the language says it. (Elm syntax reference, literals.)
use Rattle.std.specs.Prelude.{◌≡◌, ℕ, ◌≤◌, List, [], ◌∷◌, ◌++◌, length, IsTrue, ⊤}
use Rattle.std.specs.List.{list_all, All}
use Rattle.std.specs.Str.{chars}
use Rattle.std.specs.Char.Escape.{encode_utf16}
use Rattle.elm_lexer.specs.declared.token.Kind.{Kind}
use Rattle.elm_lexer.specs.declared.token.Kind.TheVariants.{Text, Char}
use Rattle.elm_lexer.specs.Characters.{is_hex_digit}
use Rattle.elm_lexer.specs.Kinds.{number_from}
use Rattle.elm_lexer.specs.Literals.{literal_body, literal_units}
use Rattle.elm_lexer.specs.Tokens.{Token}

-- IsShort c d: a backslash and c stand for d
pub data IsShort : ℕ → ℕ → Type 0 where
  -- \n
  line_feed : IsShort 110 10
  -- \r
  carriage_return : IsShort 114 13
  -- \t
  tab : IsShort 116 9
  -- \"
  quote : IsShort 34 34
  -- \'
  apostrophe : IsShort 39 39
  -- \\
  backslash : IsShort 92 92

-- Spells body units: the characters between the quotes stand for the units
pub data Spells : List ℕ → List ℕ → Type 0 where
  nothing : Spells [] []
  -- any character but a backslash (92) stands for itself
  itself : {c : ℕ} {cs units : List ℕ} → (c ≡ 92 → ⊥) → Spells cs units → Spells (c ∷ cs) (encode_utf16 c ++ units)
  -- a short escape
  short : {c d : ℕ} {cs units : List ℕ} → IsShort c d → Spells cs units → Spells (92 ∷ c ∷ cs) (encode_utf16 d ++ units)
  -- \u{H}: 4 to 6 hexadecimal digits, which spell a code up to 10FFFF
  code : (digits : List ℕ) {cs units : List ℕ} → IsTrue (list_all is_hex_digit digits) → 4 ≤ length digits → length digits ≤ 6 → number_from 16 0 digits ≤ 1114111 → Spells cs units → Spells (92 ∷ 117 ∷ 123 ∷ (digits ++ 125 ∷ cs)) (encode_utf16 (number_from 16 0 digits) ++ units)

-- the units are those of one code
abbrev pub IsOne : List ℕ → Type 0
IsOne units = (c : ℕ) × (c ≤ 1114111) × (units ≡ encode_utf16 c)

-- the bytes spell their units, where the kind is that of a text or a character, and a character has one code
abbrev pub SpellsUnits : Kind → List ℕ → Type 0
SpellsUnits Text bytes = Spells (chars (literal_body bytes)) (literal_units bytes)
SpellsUnits Char bytes = Spells (chars (literal_body bytes)) (literal_units bytes) × IsOne (literal_units bytes)
SpellsUnits _ bytes = ⊤

-- each text and character spells its value
abbrev pub AreSpelled : List Token → Type 0
AreSpelled ts = All (λ t. SpellsUnits t.kind t.text) ts

-- What the names among the tokens are.
use Rattle.std.specs.Prelude.{ℕ, Bool, false, ◌&&◌, List, [], ◌∷◌, IsTrue, ⊤}
use Rattle.std.specs.List.{list_all, All}
use Rattle.std.specs.Str.{IsUtf8, chars}
use Rattle.elm_base.specs.Path.{is_name_char}
use Rattle.elm_lexer.specs.declared.token.Kind.{Kind}
use Rattle.elm_lexer.specs.declared.token.Kind.TheVariants.{LowerName, UpperName, Text, Char}
use Rattle.elm_lexer.specs.Characters.{is_lower}
use Rattle.elm_lexer.specs.Literals.{SpellsLiteral}
use Rattle.elm_lexer.specs.Pieces.{is_upper_word}
use Rattle.elm_lexer.specs.Tokens.{Token}

-- a word that begins with a lower-case letter
abbrev pub is_lower_word : List ℕ → Bool
is_lower_word [] = false
is_lower_word (c ∷ cs) = is_lower c && list_all is_name_char cs

-- the bytes are those of the characters of a word, where the kind is that of a name without points
abbrev pub SpellsName : Kind → List ℕ → Type 0
SpellsName LowerName bytes = IsUtf8 bytes × IsTrue (is_lower_word (chars bytes))
SpellsName UpperName bytes = IsUtf8 bytes × IsTrue (is_upper_word (chars bytes))
SpellsName _ bytes = ⊤

-- each name without points is a word
abbrev pub AreNames : List Token → Type 0
AreNames ts = All (λ t. SpellsName t.kind t.text) ts

-- the bytes are those of a literal, where the kind is that of one
abbrev pub SpellsValue : Kind → List ℕ → Type 0
SpellsValue Text bytes = SpellsLiteral bytes
SpellsValue Char bytes = SpellsLiteral bytes
SpellsValue _ bytes = ⊤

-- each text and character has a value
abbrev pub AreValues : List Token → Type 0
AreValues ts = All (λ t. SpellsValue t.kind t.text) ts

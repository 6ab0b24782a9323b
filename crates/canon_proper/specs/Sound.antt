-- What the tokens of a text guarantee of a tree that is made of them.
use Rattle.std.specs.Prelude.{◌≡◌, ◌<◌, ◌≤◌, List, [], ◌∷◌, Bool, true, false, ⊤}
use Rattle.std.specs.List.{All, list_all}
use Rattle.elm_lexer.specs.declared.token.Kind.{Kind}
use Rattle.elm_lexer.specs.declared.token.Kind.TheVariants.{LowerName, UpperName, QualifiedUpper, Field, Int, Text}
use Rattle.elm_lexer.specs.declared.token.Kind.TheVariants.{Char}
use Rattle.elm_lexer.specs.Literals.{literal_units}
use Rattle.elm_lexer.specs.Tokens.{Place, Token}
use Rattle.elm_tree.specs.Words.{word_of, field_of}
use Rattle.canon_env.specs.Imports.{name_of}
use Rattle.elm_canon.specs.Names.{Name}
use Rattle.elm_canon.specs.Spelled.{is_unit, is_upper, is_word, is_module}

abbrev pub begins_upper : Name → Bool
begins_upper [] = false
begins_upper (u ∷ us) = is_upper u

-- of this kind: a name or a field is a word that JavaScript can spell; the first letter of a name has its case, and an
-- upper-case name can name a module too; an integer is at most 2 ^ 53 - 1; a text or a character has units of UTF-16
abbrev pub IsSoundAs : Kind → Token → Type 0
IsSoundAs LowerName t = (is_word (name_of (word_of t)) ≡ true) × (begins_upper (name_of (word_of t)) ≡ false)
IsSoundAs UpperName t = (is_word (name_of (word_of t)) ≡ true) × (is_module true (name_of (word_of t)) ≡ true)
IsSoundAs QualifiedUpper t = is_module true (name_of (word_of t)) ≡ true
IsSoundAs Field t = is_word (name_of (field_of t)) ≡ true
IsSoundAs (Int n) t = n ≤ 9007199254740991
IsSoundAs Text t = list_all is_unit (literal_units t.text) ≡ true
IsSoundAs Char t = list_all is_unit (literal_units t.text) ≡ true
IsSoundAs _ t = ⊤

abbrev pub IsSound : Token → Type 0
IsSound t = IsSoundAs t.kind t

abbrev pub AreSound : List Token → Type 0
AreSound ts = All IsSound ts

-- in a row above, or further left in the same row
pub record IsBefore (p q : Place) : Type 0 where
  pub above : p.row ≤ q.row
  pub left : p.row ≡ q.row → p.column < q.column

-- each begins before those after it
abbrev pub StandInOrder : List Token → Type 0
StandInOrder [] = ⊤
StandInOrder (t ∷ ts) = All (λ (u : Token). IsBefore t.start u.start) ts × StandInOrder ts

-- What single tokens are in a tree. A tree of the program names each by its number in the list of tokens.
use Rattle.std.specs.Prelude.{ℕ, ◌-◌, pos, neg_ℤ, List, [], length, take, drop, get_or, Bool, false, if◌then◌else◌}
use Rattle.elm_lexer.specs.declared.token.Kind.{Kind}
use Rattle.elm_lexer.specs.declared.token.Kind.TheVariants as kind
use Rattle.elm_lexer.specs.Tokens.{Token, first_place}
use Rattle.elm_lexer.specs.Kinds.{last_word}
use Rattle.elm_lexer.specs.Literals.{literal_units}
use Rattle.elm_tree.specs.Tree.{Pos, Word, Long, Literal, IntL, CharL, TextL, Expr, Is, Name, Constructor, OperatorName}
use Rattle.elm_tree.specs.Tree.{Accessor, Pattern, Anything, Named, Exactly, Exposed, OneValue, OneType, OpenType}
use Rattle.elm_tree.specs.Tree.{OneOperator}

-- past the end of the list stands an empty name
abbrev pub no_token : Token
no_token = record { kind = kind.LowerName; text = []; start = first_place; space_before = false; space_after = false }

abbrev pub token_at : List Token → ℕ → Token
token_at tokens i = get_or tokens i no_token

abbrev pub pos_of : Token → Pos
pos_of t = record { row = t.start.row; column = t.start.column }

-- ---- names

abbrev pub word_of : Token → Word
word_of t = record { place = pos_of t; text = t.text }

-- .x names the field x
abbrev pub field_of : Token → Word
field_of t = record { place = pos_of t; text = drop 1 t.text }

-- the module stands before the last point
abbrev pub long_of : Token → Long
long_of t = record {
  place = pos_of t;
  qualifier = take (length t.text - length (last_word t.text t.text) - 1) t.text;
  text = last_word t.text t.text;
}

-- ---- literals

abbrev pub number_in : Kind → ℕ
number_in (kind.Int n) = n
number_in _ = 0

abbrev pub negative_of : Token → Literal
negative_of t = IntL (neg_ℤ (pos (number_in t.kind)))

abbrev pub char_of : Token → Literal
char_of t = CharL (literal_units t.text)

abbrev pub text_of : Token → Literal
text_of t = TextL (literal_units t.text)

-- ---- by the kind of a token

-- an expression of one token: a literal, a constructor, an operator, .x, or else a name
abbrev pub expr_by : Kind → Token → Expr
expr_by (kind.Int n) t = Is (pos_of t) (IntL (pos n))
expr_by kind.Char t = Is (pos_of t) (char_of t)
expr_by kind.Text t = Is (pos_of t) (text_of t)
expr_by kind.UpperName t = Constructor (long_of t)
expr_by kind.QualifiedUpper t = Constructor (long_of t)
expr_by kind.Operator t = OperatorName (word_of t)
expr_by kind.Field t = Accessor (field_of t)
expr_by _ t = Name (long_of t)

abbrev pub expr_of : Token → Expr
expr_of t = expr_by t.kind t

-- a pattern of one token: _, a literal, or else a name
abbrev pub pattern_by : Kind → Token → Pattern
pattern_by kind.Underscore t = Anything (pos_of t)
pattern_by (kind.Int n) t = Exactly (pos_of t) (IntL (pos n))
pattern_by kind.Char t = Exactly (pos_of t) (char_of t)
pattern_by kind.Text t = Exactly (pos_of t) (text_of t)
pattern_by _ t = Named (word_of t)

abbrev pub pattern_of : Token → Pattern
pattern_of t = pattern_by t.kind t

-- what is exposed by a token, with its constructors or without
abbrev pub exposed_by : Kind → Token → Bool → Exposed
exposed_by kind.UpperName t with_parts = if with_parts then OpenType (word_of t) else OneType (word_of t)
exposed_by kind.Operator t with_parts = OneOperator (word_of t)
exposed_by _ t with_parts = OneValue (word_of t)

abbrev pub exposed_of : Token → Bool → Exposed
exposed_of t with_parts = exposed_by t.kind t with_parts

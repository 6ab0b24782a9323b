-- The classes of tokens that the grammar speaks of, and the class of each token of a text.
use Rattle.std.specs.Prelude.{ℕ, suc, ◌+◌, Bool, true, false, ◌&&◌, if◌then◌else◌, not, nat_eq, List, [], ◌∷◌, codes}
use Rattle.std.specs.List.{list_any}
use Rattle.std.specs.Str.{bytes_eq}
use Rattle.elm_lexer.specs.declared.token.Kind.{Kind}
use Rattle.elm_lexer.specs.declared.token.Kind.TheVariants.{If, Then, Else, Case, Of, Let, In, «Type», Module, Import}
use Rattle.elm_lexer.specs.declared.token.Kind.TheVariants.{Exposing, As, Port, LowerName, UpperName, QualifiedLower}
use Rattle.elm_lexer.specs.declared.token.Kind.TheVariants.{QualifiedUpper, Int, Text, Char, Field, Underscore}
use Rattle.elm_lexer.specs.declared.token.Kind.TheVariants.{OpenParen, CloseParen, OpenBrace, CloseBrace, OpenBracket}
use Rattle.elm_lexer.specs.declared.token.Kind.TheVariants.{CloseBracket, Comma, Backslash, Equals, Arrow, Colon, Bar}
use Rattle.elm_lexer.specs.declared.token.Kind.TheVariants.{Dots, Operator}
use Rattle.elm_lexer.specs.Tokens.{Token}
use Rattle.parse_machine.specs.declared.table.Token as machine

-- ---- the classes, each by its number

abbrev pub name : ℕ
name = 0

abbrev pub alias : ℕ
alias = 1

abbrev pub upper : ℕ
upper = 2

abbrev pub qualified : ℕ
qualified = 3

abbrev pub qualified_upper : ℕ
qualified_upper = 4

abbrev pub number : ℕ
number = 5

abbrev pub text : ℕ
text = 6

abbrev pub accessor : ℕ
accessor = 7

abbrev pub access : ℕ
access = 8

abbrev pub underscore : ℕ
underscore = 9

abbrev pub operator : ℕ
operator = 10

abbrev pub cons : ℕ
cons = 11

abbrev pub minus_tight : ℕ
minus_tight = 12

abbrev pub minus_prefix : ℕ
minus_prefix = 13

abbrev pub minus_apart : ℕ
minus_apart = 14

abbrev pub open_paren : ℕ
open_paren = 15

abbrev pub close_paren : ℕ
close_paren = 16

abbrev pub open_square : ℕ
open_square = 17

abbrev pub close_square : ℕ
close_square = 18

abbrev pub open_brace : ℕ
open_brace = 19

abbrev pub close_brace : ℕ
close_brace = 20

abbrev pub comma : ℕ
comma = 21

abbrev pub equals : ℕ
equals = 22

abbrev pub arrow : ℕ
arrow = 23

abbrev pub colon : ℕ
colon = 24

abbrev pub bar : ℕ
bar = 25

abbrev pub dots : ℕ
dots = 26

abbrev pub backslash : ℕ
backslash = 27

abbrev pub if_ : ℕ
if_ = 28

abbrev pub then_ : ℕ
then_ = 29

abbrev pub else_ : ℕ
else_ = 30

abbrev pub case_ : ℕ
case_ = 31

abbrev pub of_ : ℕ
of_ = 32

abbrev pub let_ : ℕ
let_ = 33

abbrev pub in_ : ℕ
in_ = 34

abbrev pub type_ : ℕ
type_ = 35

abbrev pub module_ : ℕ
module_ = 36

abbrev pub import : ℕ
import = 37

abbrev pub exposing : ℕ
exposing = 38

abbrev pub as_ : ℕ
as_ = 39

abbrev pub port : ℕ
port = 40

abbrev pub other : ℕ
other = 41

-- ---- the class of a token

-- what follows directly after one of these can be an access to a field
abbrev pub ends_operand : ℕ → Bool
ends_operand before = list_any (λ k. nat_eq k before) (name ∷ qualified ∷ close_paren ∷ close_brace ∷ access ∷ [])

-- alias is a name but directly after `type`
abbrev pub name_class : ℕ → List ℕ → ℕ
name_class before text = if nat_eq before type_ && bytes_eq text (codes "alias") then alias else name

-- .x directly after an operand is an access, and anywhere else a function
abbrev pub field_class : ℕ → Bool → ℕ
field_class before spaced = if not spaced && ends_operand before then access else accessor

-- a minus with space after it joins two operands; with space before it alone it begins an argument; with none it does
-- either
abbrev pub minus_class : Bool → Bool → ℕ
minus_class spaced_before spaced_after =
    if spaced_after then minus_apart else (if spaced_before then minus_prefix else minus_tight)

abbrev pub operator_class : Token → ℕ
operator_class t =
    if bytes_eq t.text (codes "-") then minus_class t.space_before t.space_after
    else (if bytes_eq t.text (codes "::") then cons else operator)

-- a reserved word; `where` and a point alone stand nowhere
abbrev pub word_class : Kind → ℕ
word_class If = if_
word_class Then = then_
word_class Else = else_
word_class Case = case_
word_class Of = of_
word_class Let = let_
word_class In = in_
word_class «Type» = type_
word_class Module = module_
word_class Import = import
word_class Exposing = exposing
word_class As = as_
word_class Port = port
word_class _ = other

-- a token whose kind alone tells its class
abbrev pub plain_class : Kind → ℕ
plain_class UpperName = upper
plain_class QualifiedLower = qualified
plain_class QualifiedUpper = qualified_upper
plain_class (Int n) = number
plain_class Text = text
plain_class Char = text
plain_class Underscore = underscore
plain_class OpenParen = open_paren
plain_class CloseParen = close_paren
plain_class OpenBracket = open_square
plain_class CloseBracket = close_square
plain_class OpenBrace = open_brace
plain_class CloseBrace = close_brace
plain_class Comma = comma
plain_class Equals = equals
plain_class Arrow = arrow
plain_class Colon = colon
plain_class Bar = bar
plain_class Dots = dots
plain_class Backslash = backslash
plain_class kind = word_class kind

-- by its kind, after a token of the class `before`
abbrev pub class_by : Kind → ℕ → Token → ℕ
class_by LowerName before t = name_class before t.text
class_by Field before t = field_class before t.space_before
class_by Operator before t = operator_class t
class_by kind before t = plain_class kind

-- the tokens as the grammar sees them, numbered from n on, after a token of the class `before`
abbrev pub classed_from : ℕ → ℕ → List Token → List machine.Token
classed_from n before [] = []
classed_from n before (t ∷ ts) =
    let k = class_by t.kind before t in
    record { class = k; column = t.start.column; index = n } ∷ classed_from (suc n) k ts

-- the first token follows none
abbrev pub classed : List Token → List machine.Token
classed ts = classed_from 0 other ts

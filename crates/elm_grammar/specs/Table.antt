-- The grammar of Elm 0.19.1: a production a line, with what is made of it. (Elm syntax reference; layout.) `Part n`
-- asks for nonterminal n under the same enclosing column, `Line n` for one whose first token stands in that column,
-- `Block n` for one under a column of its own, right of the enclosing one. Any other token stands right of the
-- enclosing column.
use Rattle.std.specs.Prelude.{ℕ, zero, suc, ◌+◌, ◌^◌, List, [], ◌∷◌, map}
use Rattle.parse_machine.specs.declared.table.Symbol.{Symbol}
use Rattle.parse_machine.specs.declared.table.Symbol.TheVariants.{Word, Part, Line, Block}
use Rattle.parse_machine.specs.Grammar.{Production, ◌⟶◌}
use Rattle.elm_grammar.specs.Classes as class
use Rattle.elm_grammar.specs.declared.action.Action.{Action}
use Rattle.elm_grammar.specs.declared.action.Action.TheVariants.{Same, WithHeader, WithImport, WithDeclaration}
use Rattle.elm_grammar.specs.declared.action.Action.TheVariants.{EmptyModule, Second, PortModule, FirstPort, HeaderOf}
use Rattle.elm_grammar.specs.declared.action.Action.TheVariants.{PortHeader, ExposeAll, ExposeThese, ExposeWord}
use Rattle.elm_grammar.specs.declared.action.Action.TheVariants.{ExposeUpper, ExposeOperator, Opening, Empty, Comma}
use Rattle.elm_grammar.specs.declared.action.Action.TheVariants.{End, ImportOf, SecondAsList, ExposeNothing, PortOf}
use Rattle.elm_grammar.specs.declared.action.Action.TheVariants.{ValueOf, AliasOf, UnionOf, More, ConstructorOf}
use Rattle.elm_grammar.specs.declared.action.Action.TheVariants.{AnnotationRest, FunctionRest, ConstantRest, ArrowsOf}
use Rattle.elm_grammar.specs.declared.action.Action.TheVariants.{NamedType, NamedTypeAlone, VariableType, BracketType}
use Rattle.elm_grammar.specs.declared.action.Action.TheVariants.{EmptyRecordType, RecordTypeOf, MoreFieldTypes, ChainOf}
use Rattle.elm_grammar.specs.declared.action.Action.TheVariants.{MoreOperators, OperandThen, LastOperand, Applied}
use Rattle.elm_grammar.specs.declared.action.Action.TheVariants.{Negative, NegativeArgument, IfOf, CaseOf, LetOf}
use Rattle.elm_grammar.specs.declared.action.Action.TheVariants.{LambdaOf, BranchOf, DefinitionOf, DestructureOf}
use Rattle.elm_grammar.specs.declared.action.Action.TheVariants.{ConstructAlone, WordAccess, WordExpr, BracketAccess}
use Rattle.elm_grammar.specs.declared.action.Action.TheVariants.{ListOf, RecordAccess, OperatorAlone, MinusParen}
use Rattle.elm_grammar.specs.declared.action.Action.TheVariants.{MinusAlone, MinusOperand, UnsignedOf, EmptyRecord}
use Rattle.elm_grammar.specs.declared.action.Action.TheVariants.{RecordOf, MoreFields, PatternOf, ConstructOf}
use Rattle.elm_grammar.specs.declared.action.Action.TheVariants.{WordPattern, NegativePattern, BracketPattern}
use Rattle.elm_grammar.specs.declared.action.Action.TheVariants.{ListPatternOf, FieldsPatternOf}
use Rattle.elm_grammar.specs.declared.action.Item.TheVariants as item

-- a production, and what is made of the values of its symbols
pub data Ruled : Type 0 where
  ◌by◌ : Production → Action → Ruled

infix 10 ◌by◌
abbrev pub rule : Ruled → Production
rule (p by a) = p

abbrev pub action : Ruled → Action
action (p by a) = a

-- ---- a token of a class

abbrev pub name : Symbol
name = Word (2 ^ class.name)

abbrev pub alias : Symbol
alias = Word (2 ^ class.alias)

abbrev pub upper : Symbol
upper = Word (2 ^ class.upper)

abbrev pub qualified : Symbol
qualified = Word (2 ^ class.qualified)

abbrev pub qualified_upper : Symbol
qualified_upper = Word (2 ^ class.qualified_upper)

abbrev pub number : Symbol
number = Word (2 ^ class.number)

abbrev pub text : Symbol
text = Word (2 ^ class.text)

abbrev pub accessor : Symbol
accessor = Word (2 ^ class.accessor)

abbrev pub access : Symbol
access = Word (2 ^ class.access)

abbrev pub underscore : Symbol
underscore = Word (2 ^ class.underscore)

abbrev pub operator : Symbol
operator = Word (2 ^ class.operator)

abbrev pub cons : Symbol
cons = Word (2 ^ class.cons)

abbrev pub minus_tight : Symbol
minus_tight = Word (2 ^ class.minus_tight)

abbrev pub minus_prefix : Symbol
minus_prefix = Word (2 ^ class.minus_prefix)

abbrev pub minus_apart : Symbol
minus_apart = Word (2 ^ class.minus_apart)

abbrev pub open_paren : Symbol
open_paren = Word (2 ^ class.open_paren)

abbrev pub close_paren : Symbol
close_paren = Word (2 ^ class.close_paren)

abbrev pub open_square : Symbol
open_square = Word (2 ^ class.open_square)

abbrev pub close_square : Symbol
close_square = Word (2 ^ class.close_square)

abbrev pub open_brace : Symbol
open_brace = Word (2 ^ class.open_brace)

abbrev pub close_brace : Symbol
close_brace = Word (2 ^ class.close_brace)

abbrev pub comma : Symbol
comma = Word (2 ^ class.comma)

abbrev pub equals : Symbol
equals = Word (2 ^ class.equals)

abbrev pub arrow : Symbol
arrow = Word (2 ^ class.arrow)

abbrev pub colon : Symbol
colon = Word (2 ^ class.colon)

abbrev pub bar : Symbol
bar = Word (2 ^ class.bar)

abbrev pub dots : Symbol
dots = Word (2 ^ class.dots)

abbrev pub backslash : Symbol
backslash = Word (2 ^ class.backslash)

abbrev pub if_ : Symbol
if_ = Word (2 ^ class.if_)

abbrev pub then_ : Symbol
then_ = Word (2 ^ class.then_)

abbrev pub else_ : Symbol
else_ = Word (2 ^ class.else_)

abbrev pub case_ : Symbol
case_ = Word (2 ^ class.case_)

abbrev pub of_ : Symbol
of_ = Word (2 ^ class.of_)

abbrev pub let_ : Symbol
let_ = Word (2 ^ class.let_)

abbrev pub in_ : Symbol
in_ = Word (2 ^ class.in_)

abbrev pub type_ : Symbol
type_ = Word (2 ^ class.type_)

abbrev pub module_ : Symbol
module_ = Word (2 ^ class.module_)

abbrev pub import : Symbol
import = Word (2 ^ class.import)

abbrev pub exposing : Symbol
exposing = Word (2 ^ class.exposing)

abbrev pub as_ : Symbol
as_ = Word (2 ^ class.as_)

abbrev pub port : Symbol
port = Word (2 ^ class.port)

-- ---- a token of one of several classes

-- the name of a type or a constructor, with a module or without
abbrev pub any_upper : Symbol
any_upper = Word (2 ^ class.upper + 2 ^ class.qualified_upper)

-- the name of a value, with a module or without
abbrev pub value_name : Symbol
value_name = Word (2 ^ class.name + 2 ^ class.qualified)

-- an operand of one token to which no access follows
abbrev pub constant : Symbol
constant = Word (2 ^ class.upper + 2 ^ class.qualified_upper + 2 ^ class.number + 2 ^ class.text + 2 ^ class.accessor)

-- a pattern of one token that is no name
abbrev pub plain_pattern : Symbol
plain_pattern = Word (2 ^ class.underscore + 2 ^ class.number + 2 ^ class.text)

-- a minus that touches what follows
abbrev pub negation : Symbol
negation = Word (2 ^ class.minus_tight + 2 ^ class.minus_prefix)

-- an operator between two operands
abbrev pub infix_operator : Symbol
infix_operator = Word (2 ^ class.operator + 2 ^ class.cons + 2 ^ class.minus_apart + 2 ^ class.minus_tight)

-- an operator that may stand alone in parentheses; a minus that touches what follows has a production of its own
abbrev pub lone_operator : Symbol
lone_operator = Word (2 ^ class.operator + 2 ^ class.cons + 2 ^ class.minus_apart)

-- any operator
abbrev pub any_operator : Symbol
any_operator =
    Word (2 ^ class.operator + 2 ^ class.cons + 2 ^ class.minus_apart + 2 ^ class.minus_tight + 2 ^ class.minus_prefix)

-- ---- the nonterminals

abbrev pub Module : ℕ
Module = 0

abbrev pub PortFirst : ℕ
PortFirst = 1

abbrev pub AfterPort : ℕ
AfterPort = 2

abbrev pub Header : ℕ
Header = 3

abbrev pub HeaderRest : ℕ
HeaderRest = 4

abbrev pub Contents : ℕ
Contents = 5

abbrev pub Declarations : ℕ
Declarations = 6

abbrev pub Head : ℕ
Head = 7

abbrev pub HeadHeader : ℕ
HeadHeader = 8

abbrev pub Imports : ℕ
Imports = 9

abbrev pub Exposing : ℕ
Exposing = 10

abbrev pub ExposingRest : ℕ
ExposingRest = 11

abbrev pub Exposed : ℕ
Exposed = 12

abbrev pub ExposedOpen : ℕ
ExposedOpen = 13

abbrev pub MoreExposed : ℕ
MoreExposed = 14

abbrev pub Import : ℕ
Import = 15

abbrev pub ImportAs : ℕ
ImportAs = 16

abbrev pub ImportExposing : ℕ
ImportExposing = 17

abbrev pub PortDeclaration : ℕ
PortDeclaration = 18

abbrev pub Declaration : ℕ
Declaration = 19

abbrev pub TypeDeclaration : ℕ
TypeDeclaration = 20

abbrev pub TypeVariables : ℕ
TypeVariables = 21

abbrev pub Constructor : ℕ
Constructor = 22

abbrev pub Constructors : ℕ
Constructors = 23

abbrev pub ValueRest : ℕ
ValueRest = 24

abbrev pub Parameters : ℕ
Parameters = 25

abbrev pub MoreParameters : ℕ
MoreParameters = 26

abbrev pub Typing : ℕ
Typing = 27

abbrev pub Arrows : ℕ
Arrows = 28

abbrev pub TypeOperand : ℕ
TypeOperand = 29

abbrev pub TypeArguments : ℕ
TypeArguments = 30

abbrev pub TypeAtom : ℕ
TypeAtom = 31

abbrev pub TypePlain : ℕ
TypePlain = 32

abbrev pub TypeParen : ℕ
TypeParen = 33

abbrev pub TypeTuple : ℕ
TypeTuple = 34

abbrev pub TypeRecord : ℕ
TypeRecord = 35

abbrev pub TypeFields : ℕ
TypeFields = 36

abbrev pub Base : ℕ
Base = 37

abbrev pub Expression : ℕ
Expression = 38

abbrev pub Operators : ℕ
Operators = 39

abbrev pub OperatorRight : ℕ
OperatorRight = 40

abbrev pub Operand : ℕ
Operand = 41

abbrev pub Signed : ℕ
Signed = 42

abbrev pub Arguments : ℕ
Arguments = 43

abbrev pub Closing : ℕ
Closing = 44

abbrev pub Branches : ℕ
Branches = 45

abbrev pub MoreBranches : ℕ
MoreBranches = 46

abbrev pub Branch : ℕ
Branch = 47

abbrev pub Definitions : ℕ
Definitions = 48

abbrev pub MoreDefinitions : ℕ
MoreDefinitions = 49

abbrev pub Definition : ℕ
Definition = 50

abbrev pub Destructured : ℕ
Destructured = 51

abbrev pub Atom : ℕ
Atom = 52

abbrev pub Accesses : ℕ
Accesses = 53

abbrev pub Paren : ℕ
Paren = 54

abbrev pub AfterMinus : ℕ
AfterMinus = 55

abbrev pub Unsigned : ℕ
Unsigned = 56

abbrev pub ParenRest : ℕ
ParenRest = 57

abbrev pub ListRest : ℕ
ListRest = 58

abbrev pub ListMore : ℕ
ListMore = 59

abbrev pub Record : ℕ
Record = 60

abbrev pub Fields : ℕ
Fields = 61

abbrev pub Pattern : ℕ
Pattern = 62

abbrev pub PatternConses : ℕ
PatternConses = 63

abbrev pub PatternAs : ℕ
PatternAs = 64

abbrev pub PatternOperand : ℕ
PatternOperand = 65

abbrev pub PatternAtom : ℕ
PatternAtom = 66

abbrev pub PatternPlain : ℕ
PatternPlain = 67

abbrev pub PatternParen : ℕ
PatternParen = 68

abbrev pub PatternTuple : ℕ
PatternTuple = 69

abbrev pub PatternList : ℕ
PatternList = 70

abbrev pub PatternListMore : ℕ
PatternListMore = 71

abbrev pub PatternRecord : ℕ
PatternRecord = 72

abbrev pub PatternFields : ℕ
PatternFields = 73

-- how many there are
abbrev pub nonterminals : ℕ
nonterminals = 74

-- ---- the productions

abbrev pub elm_rules : List Ruled
elm_rules =
    -- modules
    ((Module ⟶ Line PortFirst ∷ []) by Same item.Module) ∷
    ((Module ⟶ Line Header ∷ Part Contents ∷ []) by WithHeader) ∷
    ((Module ⟶ Line Import ∷ Part Contents ∷ []) by WithImport) ∷
    ((Module ⟶ Line Declaration ∷ Part Declarations ∷ []) by WithDeclaration) ∷
    ((Module ⟶ []) by EmptyModule) ∷
    ((PortFirst ⟶ port ∷ Part AfterPort ∷ []) by Second item.Module) ∷
    ((AfterPort ⟶ module_ ∷ Part HeaderRest ∷ Part Contents ∷ []) by PortModule) ∷
    ((AfterPort ⟶ name ∷ colon ∷ Part Typing ∷ Part Declarations ∷ []) by FirstPort) ∷
    ((Header ⟶ module_ ∷ Part HeaderRest ∷ []) by Second item.Header) ∷
    ((HeaderRest ⟶ any_upper ∷ exposing ∷ Part Exposing ∷ []) by HeaderOf) ∷
    ((Contents ⟶ Line Import ∷ Part Contents ∷ []) by WithImport) ∷
    ((Contents ⟶ Line Declaration ∷ Part Declarations ∷ []) by WithDeclaration) ∷
    ((Contents ⟶ Line PortDeclaration ∷ Part Declarations ∷ []) by WithDeclaration) ∷
    ((Contents ⟶ []) by EmptyModule) ∷
    ((Declarations ⟶ Line Declaration ∷ Part Declarations ∷ []) by WithDeclaration) ∷
    ((Declarations ⟶ Line PortDeclaration ∷ Part Declarations ∷ []) by WithDeclaration) ∷
    ((Declarations ⟶ []) by EmptyModule) ∷
    -- the head alone: a first `port` begins it only where `module` follows
    ((Head ⟶ Line HeadHeader ∷ Part Imports ∷ []) by WithHeader) ∷
    ((Head ⟶ Line Import ∷ Part Imports ∷ []) by WithImport) ∷
    ((Head ⟶ []) by EmptyModule) ∷
    ((HeadHeader ⟶ module_ ∷ Part HeaderRest ∷ []) by Second item.Header) ∷
    ((HeadHeader ⟶ port ∷ module_ ∷ Part HeaderRest ∷ []) by PortHeader) ∷
    ((Imports ⟶ Line Import ∷ Part Imports ∷ []) by WithImport) ∷
    ((Imports ⟶ []) by EmptyModule) ∷
    -- what a header or an import exposes
    ((Exposing ⟶ open_paren ∷ Part ExposingRest ∷ []) by Second item.Exposing) ∷
    ((ExposingRest ⟶ dots ∷ close_paren ∷ []) by ExposeAll) ∷
    ((ExposingRest ⟶ Part Exposed ∷ Part MoreExposed ∷ []) by ExposeThese) ∷
    ((Exposed ⟶ name ∷ []) by ExposeWord) ∷
    ((Exposed ⟶ upper ∷ Part ExposedOpen ∷ []) by ExposeUpper) ∷
    ((Exposed ⟶ open_paren ∷ any_operator ∷ close_paren ∷ []) by ExposeOperator) ∷
    ((ExposedOpen ⟶ open_paren ∷ dots ∷ close_paren ∷ []) by Opening) ∷
    ((ExposedOpen ⟶ []) by Empty item.Word) ∷
    ((MoreExposed ⟶ comma ∷ Part Exposed ∷ Part MoreExposed ∷ []) by Comma item.Exposed) ∷
    ((MoreExposed ⟶ close_paren ∷ []) by End item.Exposed) ∷
    -- imports
    ((Import ⟶ import ∷ any_upper ∷ Part ImportAs ∷ Part ImportExposing ∷ []) by ImportOf) ∷
    ((ImportAs ⟶ as_ ∷ upper ∷ []) by SecondAsList) ∷
    ((ImportAs ⟶ []) by Empty item.Word) ∷
    ((ImportExposing ⟶ exposing ∷ Part Exposing ∷ []) by Second item.Exposing) ∷
    ((ImportExposing ⟶ []) by ExposeNothing) ∷
    -- declarations
    ((PortDeclaration ⟶ port ∷ name ∷ colon ∷ Part Typing ∷ []) by PortOf) ∷
    ((Declaration ⟶ name ∷ Part ValueRest ∷ []) by ValueOf) ∷
    ((Declaration ⟶ type_ ∷ Part TypeDeclaration ∷ []) by Second item.Declaration) ∷
    ((TypeDeclaration ⟶ alias ∷ upper ∷ Part TypeVariables ∷ equals ∷ Part Typing ∷ []) by AliasOf) ∷
    ((TypeDeclaration ⟶ upper ∷ Part TypeVariables ∷ equals ∷ Part Constructor ∷ Part Constructors ∷ []) by UnionOf) ∷
    ((TypeVariables ⟶ name ∷ Part TypeVariables ∷ []) by More item.Word) ∷
    ((TypeVariables ⟶ []) by Empty item.Word) ∷
    ((Constructor ⟶ upper ∷ Part TypeArguments ∷ []) by ConstructorOf) ∷
    ((Constructors ⟶ bar ∷ Part Constructor ∷ Part Constructors ∷ []) by Comma item.Constructor) ∷
    ((Constructors ⟶ []) by Empty item.Constructor) ∷
    ((ValueRest ⟶ colon ∷ Part Typing ∷ []) by AnnotationRest) ∷
    ((ValueRest ⟶ Part Parameters ∷ equals ∷ Part Expression ∷ []) by FunctionRest) ∷
    ((ValueRest ⟶ equals ∷ Part Expression ∷ []) by ConstantRest) ∷
    ((Parameters ⟶ Part PatternAtom ∷ Part MoreParameters ∷ []) by More item.Pattern) ∷
    ((MoreParameters ⟶ Part PatternAtom ∷ Part MoreParameters ∷ []) by More item.Pattern) ∷
    ((MoreParameters ⟶ []) by Empty item.Pattern) ∷
    -- types
    ((Typing ⟶ Part TypeOperand ∷ Part Arrows ∷ []) by ArrowsOf) ∷
    ((Arrows ⟶ arrow ∷ Part TypeOperand ∷ Part Arrows ∷ []) by Comma item.TypeTree) ∷
    ((Arrows ⟶ []) by Empty item.TypeTree) ∷
    ((TypeOperand ⟶ any_upper ∷ Part TypeArguments ∷ []) by NamedType) ∷
    ((TypeOperand ⟶ Part TypePlain ∷ []) by Same item.TypeTree) ∷
    ((TypeArguments ⟶ Part TypeAtom ∷ Part TypeArguments ∷ []) by More item.TypeTree) ∷
    ((TypeArguments ⟶ []) by Empty item.TypeTree) ∷
    ((TypeAtom ⟶ any_upper ∷ []) by NamedTypeAlone) ∷
    ((TypeAtom ⟶ Part TypePlain ∷ []) by Same item.TypeTree) ∷
    ((TypePlain ⟶ name ∷ []) by VariableType) ∷
    ((TypePlain ⟶ open_paren ∷ Part TypeParen ∷ []) by BracketType) ∷
    ((TypePlain ⟶ open_brace ∷ Part TypeRecord ∷ []) by Second item.TypeTree) ∷
    ((TypeParen ⟶ close_paren ∷ []) by End item.TypeTree) ∷
    ((TypeParen ⟶ Part Typing ∷ Part TypeTuple ∷ []) by More item.TypeTree) ∷
    ((TypeTuple ⟶ comma ∷ Part Typing ∷ Part TypeTuple ∷ []) by Comma item.TypeTree) ∷
    ((TypeTuple ⟶ close_paren ∷ []) by End item.TypeTree) ∷
    ((TypeRecord ⟶ close_brace ∷ []) by EmptyRecordType) ∷
    ((TypeRecord ⟶ name ∷ Part Base ∷ colon ∷ Part Typing ∷ Part TypeFields ∷ []) by RecordTypeOf) ∷
    ((TypeFields ⟶ comma ∷ name ∷ colon ∷ Part Typing ∷ Part TypeFields ∷ []) by MoreFieldTypes) ∷
    ((TypeFields ⟶ close_brace ∷ []) by End item.FieldType) ∷
    ((Base ⟶ bar ∷ name ∷ []) by SecondAsList) ∷
    ((Base ⟶ []) by Empty item.Word) ∷
    -- expressions: chains and their operands
    ((Expression ⟶ Part Operand ∷ Part Operators ∷ []) by ChainOf) ∷
    ((Expression ⟶ Part Closing ∷ []) by Same item.Expr) ∷
    ((Operators ⟶ infix_operator ∷ Part OperatorRight ∷ []) by MoreOperators) ∷
    ((Operators ⟶ []) by Empty item.Part) ∷
    ((OperatorRight ⟶ Part Operand ∷ Part Operators ∷ []) by OperandThen) ∷
    ((OperatorRight ⟶ Part Closing ∷ []) by LastOperand) ∷
    ((Operand ⟶ Part Signed ∷ Part Arguments ∷ []) by Applied) ∷
    ((Signed ⟶ negation ∷ Part Atom ∷ []) by Negative) ∷
    ((Signed ⟶ Part Atom ∷ []) by Same item.Expr) ∷
    ((Arguments ⟶ Part Atom ∷ Part Arguments ∷ []) by More item.Expr) ∷
    ((Arguments ⟶ minus_prefix ∷ Part Atom ∷ Part Arguments ∷ []) by NegativeArgument) ∷
    ((Arguments ⟶ []) by Empty item.Expr) ∷
    -- what reaches as far right as it can
    ((Closing ⟶ if_ ∷ Part Expression ∷ then_ ∷ Part Expression ∷ else_ ∷ Part Expression ∷ []) by IfOf) ∷
    ((Closing ⟶ case_ ∷ Part Expression ∷ of_ ∷ Block Branches ∷ []) by CaseOf) ∷
    ((Closing ⟶ let_ ∷ Block Definitions ∷ in_ ∷ Part Expression ∷ []) by LetOf) ∷
    ((Closing ⟶ backslash ∷ Part Parameters ∷ arrow ∷ Part Expression ∷ []) by LambdaOf) ∷
    ((Branches ⟶ Line Branch ∷ Part MoreBranches ∷ []) by More item.Branch) ∷
    ((MoreBranches ⟶ Line Branch ∷ Part MoreBranches ∷ []) by More item.Branch) ∷
    ((MoreBranches ⟶ []) by Empty item.Branch) ∷
    ((Branch ⟶ Part Pattern ∷ arrow ∷ Part Expression ∷ []) by BranchOf) ∷
    -- what stands in a let
    ((Definitions ⟶ Line Definition ∷ Part MoreDefinitions ∷ []) by More item.Definition) ∷
    ((MoreDefinitions ⟶ Line Definition ∷ Part MoreDefinitions ∷ []) by More item.Definition) ∷
    ((MoreDefinitions ⟶ []) by Empty item.Definition) ∷
    ((Definition ⟶ name ∷ Part ValueRest ∷ []) by DefinitionOf) ∷
    ((Definition ⟶ Part Destructured ∷ equals ∷ Part Expression ∷ []) by DestructureOf) ∷
    ((Destructured ⟶ any_upper ∷ []) by ConstructAlone) ∷
    ((Destructured ⟶ Part PatternPlain ∷ []) by Same item.Pattern) ∷
    -- operands without arguments
    ((Atom ⟶ value_name ∷ Part Accesses ∷ []) by WordAccess) ∷
    ((Atom ⟶ constant ∷ []) by WordExpr) ∷
    ((Atom ⟶ open_paren ∷ Part Paren ∷ Part Accesses ∷ []) by BracketAccess) ∷
    ((Atom ⟶ open_square ∷ Part ListRest ∷ []) by ListOf) ∷
    ((Atom ⟶ open_brace ∷ Part Record ∷ Part Accesses ∷ []) by RecordAccess) ∷
    ((Accesses ⟶ access ∷ Part Accesses ∷ []) by More item.Word) ∷
    ((Accesses ⟶ []) by Empty item.Word) ∷
    ((Paren ⟶ close_paren ∷ []) by End item.Expr) ∷
    ((Paren ⟶ lone_operator ∷ close_paren ∷ []) by OperatorAlone) ∷
    ((Paren ⟶ negation ∷ Part AfterMinus ∷ []) by MinusParen) ∷
    ((Paren ⟶ Part Unsigned ∷ Part ParenRest ∷ []) by More item.Expr) ∷
    ((AfterMinus ⟶ close_paren ∷ []) by MinusAlone) ∷
    ((AfterMinus ⟶ Part Atom ∷ Part Arguments ∷ Part Operators ∷ Part ParenRest ∷ []) by MinusOperand) ∷
    ((Unsigned ⟶ Part Atom ∷ Part Arguments ∷ Part Operators ∷ []) by UnsignedOf) ∷
    ((Unsigned ⟶ Part Closing ∷ []) by Same item.Expr) ∷
    ((ParenRest ⟶ comma ∷ Part Expression ∷ Part ParenRest ∷ []) by Comma item.Expr) ∷
    ((ParenRest ⟶ close_paren ∷ []) by End item.Expr) ∷
    ((ListRest ⟶ close_square ∷ []) by End item.Expr) ∷
    ((ListRest ⟶ Part Expression ∷ Part ListMore ∷ []) by More item.Expr) ∷
    ((ListMore ⟶ comma ∷ Part Expression ∷ Part ListMore ∷ []) by Comma item.Expr) ∷
    ((ListMore ⟶ close_square ∷ []) by End item.Expr) ∷
    ((Record ⟶ close_brace ∷ []) by EmptyRecord) ∷
    ((Record ⟶ name ∷ Part Base ∷ equals ∷ Part Expression ∷ Part Fields ∷ []) by RecordOf) ∷
    ((Fields ⟶ comma ∷ name ∷ equals ∷ Part Expression ∷ Part Fields ∷ []) by MoreFields) ∷
    ((Fields ⟶ close_brace ∷ []) by End item.Part) ∷
    -- patterns
    ((Pattern ⟶ Part PatternOperand ∷ Part PatternConses ∷ Part PatternAs ∷ []) by PatternOf) ∷
    ((PatternConses ⟶ cons ∷ Part PatternOperand ∷ Part PatternConses ∷ []) by Comma item.Pattern) ∷
    ((PatternConses ⟶ []) by Empty item.Pattern) ∷
    ((PatternAs ⟶ as_ ∷ name ∷ []) by SecondAsList) ∷
    ((PatternAs ⟶ []) by Empty item.Word) ∷
    ((PatternOperand ⟶ any_upper ∷ Part MoreParameters ∷ []) by ConstructOf) ∷
    ((PatternOperand ⟶ name ∷ []) by WordPattern) ∷
    ((PatternOperand ⟶ Part PatternPlain ∷ []) by Same item.Pattern) ∷
    ((PatternAtom ⟶ any_upper ∷ []) by ConstructAlone) ∷
    ((PatternAtom ⟶ name ∷ []) by WordPattern) ∷
    ((PatternAtom ⟶ Part PatternPlain ∷ []) by Same item.Pattern) ∷
    ((PatternPlain ⟶ plain_pattern ∷ []) by WordPattern) ∷
    ((PatternPlain ⟶ negation ∷ number ∷ []) by NegativePattern) ∷
    ((PatternPlain ⟶ open_paren ∷ Part PatternParen ∷ []) by BracketPattern) ∷
    ((PatternPlain ⟶ open_square ∷ Part PatternList ∷ []) by ListPatternOf) ∷
    ((PatternPlain ⟶ open_brace ∷ Part PatternRecord ∷ []) by FieldsPatternOf) ∷
    ((PatternParen ⟶ close_paren ∷ []) by End item.Pattern) ∷
    ((PatternParen ⟶ Part Pattern ∷ Part PatternTuple ∷ []) by More item.Pattern) ∷
    ((PatternTuple ⟶ comma ∷ Part Pattern ∷ Part PatternTuple ∷ []) by Comma item.Pattern) ∷
    ((PatternTuple ⟶ close_paren ∷ []) by End item.Pattern) ∷
    ((PatternList ⟶ close_square ∷ []) by End item.Pattern) ∷
    ((PatternList ⟶ Part Pattern ∷ Part PatternListMore ∷ []) by More item.Pattern) ∷
    ((PatternListMore ⟶ comma ∷ Part Pattern ∷ Part PatternListMore ∷ []) by Comma item.Pattern) ∷
    ((PatternListMore ⟶ close_square ∷ []) by End item.Pattern) ∷
    ((PatternRecord ⟶ close_brace ∷ []) by End item.Word) ∷
    ((PatternRecord ⟶ name ∷ Part PatternFields ∷ []) by More item.Word) ∷
    ((PatternFields ⟶ comma ∷ name ∷ Part PatternFields ∷ []) by Comma item.Word) ∷
    ((PatternFields ⟶ close_brace ∷ []) by End item.Word) ∷
    []

abbrev pub elm : List Production
elm = map rule elm_rules

abbrev pub elm_actions : List Action
elm_actions = map action elm_rules

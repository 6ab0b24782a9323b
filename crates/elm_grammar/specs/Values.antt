-- What is made of each production: a function of the values of its symbols. The value of a word is its token.
use Rattle.std.specs.Prelude.{ℕ, List, [], ◌∷◌, map, Bool, true, false, Option, Some, None}
use Rattle.elm_lexer.specs.Tokens.{Token}
use Rattle.elm_tree.specs.Tree as tree
use Rattle.elm_tree.specs.Tree.{Pos, Word, TypeTree, TypeVariable, TypeName, FunctionType, TupleType, RecordType}
use Rattle.elm_tree.specs.Tree.{ExtendedType, NoType, NoFieldType, Pattern, Patterns, NoPattern, As, Exactly, Construct}
use Rattle.elm_tree.specs.Tree.{ConsPattern, ListPattern, TuplePattern, FieldsPattern, Expr, Lambda, Apply, Chain}
use Rattle.elm_tree.specs.Tree.{Negate, If, Case, Let, ListOf, TupleOf, RecordOf, Update, Access, Definition, Annotate}
use Rattle.elm_tree.specs.Tree.{Define, Destructure, Declaration, Value, Port, Union, Alias, Everything, These}
use Rattle.elm_tree.specs.Tree.{types_of, field_types_of, patterns_of, exprs_of, parts_of, branches_of, definitions_of}
use Rattle.elm_tree.specs.Words.{pos_of, word_of, field_of, long_of, negative_of, expr_of, pattern_of, exposed_of}
use Rattle.elm_grammar.specs.declared.action.Item.{Item}
use Rattle.elm_grammar.specs.declared.action.Item.TheVariants as item
use Rattle.elm_grammar.specs.declared.action.Action.{Action}
use Rattle.elm_grammar.specs.declared.action.Action.TheVariants as action

-- ---- values on the way to a tree

-- a definition without its name
pub data Rest : Type 0 where
  -- : t
  Typed : TypeTree → Rest
  -- p q = e
  Bodied : Patterns → Expr → Rest

-- what follows a minus in parentheses: the closing one, or an operand, its arguments, the others of the chain, and
-- the other parts of a tuple
pub data AfterMinus : Type 0 where
  Closed : AfterMinus
  Operand : Expr → List Expr → List (Word × Expr) → List Expr → AfterMinus

-- a pattern and where its text begins: at its bracket, if it stands in one
pub record Begun : Type 0 where
  pub place : Pos
  pub pattern : Pattern

abbrev pub thing_of : Item → Type 0
thing_of item.Word = Token
thing_of item.Module = tree.Module
thing_of item.Header = tree.Header
thing_of item.Exposing = tree.Exposing
thing_of item.Exposed = tree.Exposed
thing_of item.Import = tree.Import
thing_of item.Declaration = Declaration
thing_of item.Rest = Rest
thing_of item.Constructor = tree.ConstructorOf
thing_of item.TypeTree = TypeTree
thing_of item.FieldType = Word × TypeTree
thing_of item.Pattern = Begun
thing_of item.Expr = Expr
thing_of item.Part = Word × Expr
thing_of item.Chain = Expr × List (Word × Expr)
thing_of item.AfterMinus = AfterMinus
thing_of item.Record = Option Word × List (Word × Expr)
thing_of item.Branch = Pattern × Expr
thing_of item.Definition = Definition

-- one, or a list of them
pub data Kind : Type 0 where
  One : Item → Kind
  Many : Item → Kind

abbrev pub Thing : Kind → Type 0
Thing (One i) = thing_of i
Thing (Many i) = List (thing_of i)

-- of things of these kinds, one after the other, to a thing of the last kind
abbrev pub Function : List Kind → Kind → Type 0
Function [] k = Thing k
Function (j ∷ js) k = Thing j → Function js k

-- ---- modules

abbrev pub empty_module : tree.Module
empty_module = record { head = record { header = None; imports = [] }; declarations = [] }

abbrev pub with_header : tree.Header → tree.Module → tree.Module
with_header h m = record { head = record { header = Some h; imports = m.head.imports }; declarations = m.declarations }

abbrev pub with_import : tree.Import → tree.Module → tree.Module
with_import i m = record {
  head = record { header = m.head.header; imports = i ∷ m.head.imports };
  declarations = m.declarations;
}

abbrev pub with_declaration : Declaration → tree.Module → tree.Module
with_declaration d m = record { head = m.head; declarations = d ∷ m.declarations }

abbrev pub with_ports : tree.Header → tree.Header
with_ports h = record { has_ports = true; name = h.name; exposes = h.exposes }

abbrev pub is_given : List Token → Bool
is_given [] = false
is_given (t ∷ ts) = true

abbrev pub first_word : List Token → Option Word
first_word [] = None
first_word (t ∷ ts) = Some (word_of t)

-- ---- types

-- t -> u -> v; without arrows, the type
abbrev pub arrows_of : TypeTree → List TypeTree → TypeTree
arrows_of t [] = t
arrows_of t (u ∷ us) = FunctionType (types_of (t ∷ u ∷ us))

-- one in parentheses is that type
abbrev pub bracket_type : List TypeTree → TypeTree
bracket_type (t ∷ []) = t
bracket_type ts = TupleType (types_of ts)

-- { x : t, .. } or { r | x : t, .. }, and the same of values: the first word is a field's or the base's
abbrev pub fields_from : {A : Type 0} → Word → List Token → A → List (Word × A) → Option Word × List (Word × A)
fields_from x [] e fs = (None, (x, e) ∷ fs)
fields_from r (x ∷ xs) e fs = (Some r, (word_of x, e) ∷ fs)

abbrev pub record_type : Option Word × List (Word × TypeTree) → TypeTree
record_type (None, fs) = RecordType (field_types_of fs)
record_type (Some a, fs) = ExtendedType a (field_types_of fs)

-- ---- patterns

abbrev pub patterns_in : List Begun → Patterns
patterns_in ps = patterns_of (map (λ (p : Begun). p.pattern) ps)

abbrev pub begun : Pos → Pattern → Begun
begun place p = record { place = place; pattern = p }

-- one in parentheses is that pattern
abbrev pub bracket_pattern : Pos → List Begun → Pattern
bracket_pattern place (p ∷ []) = p.pattern
bracket_pattern place ps = TuplePattern place (patterns_in ps)

-- p :: q :: r; without others, the pattern
abbrev pub conses_of : Begun → List Begun → Begun
conses_of p [] = p
conses_of p (q ∷ qs) = begun p.place (ConsPattern p.place (patterns_in (p ∷ q ∷ qs)))

-- p as x; without a name, the pattern
abbrev pub with_name : Begun → List Token → Begun
with_name p [] = p
with_name p (x ∷ xs) = begun p.place (As p.place p.pattern (word_of x))

-- ---- expressions

-- a function with arguments; without, the function
abbrev pub applied : Expr → List Expr → Expr
applied f [] = f
applied f (e ∷ es) = Apply f (exprs_of (e ∷ es))

-- an operand and the others; without others, the operand
abbrev pub chained : Expr → List (Word × Expr) → Expr
chained e [] = e
chained e (p ∷ ps) = Chain e (parts_of (p ∷ ps))

-- one in parentheses is that expression
abbrev pub bracketed : Pos → List Expr → Expr
bracketed place (e ∷ []) = e
bracketed place es = TupleOf place (exprs_of es)

-- e.x.y, which begins there; without fields, the expression
abbrev pub accessed : Pos → Expr → List Token → Expr
accessed place e [] = e
accessed place e (x ∷ xs) = Access place e (map field_of (x ∷ xs))

abbrev pub record_expr : Pos → Option Word × List (Word × Expr) → Expr
record_expr place (None, fs) = RecordOf place (parts_of fs)
record_expr place (Some r, fs) = Update place r (parts_of fs)

-- what stands in parentheses that begin with a minus
abbrev pub after_minus : Token → AfterMinus → List Expr
after_minus t Closed = expr_of t ∷ []
after_minus t (Operand e es ps rest) = chained (applied (Negate (pos_of t) e) es) ps ∷ rest

abbrev pub defined : Token → Rest → Definition
defined x (Typed t) = Annotate (word_of x) t
defined x (Bodied ps e) = Define (word_of x) ps e

-- ---- the kinds of values that an action asks for

abbrev pub word : Kind
word = One item.Word

abbrev pub words : Kind
words = Many item.Word

abbrev pub expr : Kind
expr = One item.Expr

abbrev pub exprs : Kind
exprs = Many item.Expr

abbrev pub parts : Kind
parts = Many item.Part

abbrev pub shape : Kind
shape = One item.Pattern

abbrev pub shapes : Kind
shapes = Many item.Pattern

abbrev pub type_tree : Kind
type_tree = One item.TypeTree

abbrev pub type_trees : Kind
type_trees = Many item.TypeTree

abbrev pub field_types : Kind
field_types = Many item.FieldType

unfoldable pub takes : Action → List Kind
takes (action.Same i) = One i ∷ []
takes (action.Second i) = word ∷ One i ∷ []
takes (action.Empty i) = []
takes (action.End i) = word ∷ []
takes (action.More i) = One i ∷ Many i ∷ []
takes (action.Comma i) = word ∷ One i ∷ Many i ∷ []
takes action.SecondAsList = word ∷ word ∷ []
takes action.EmptyModule = []
takes action.WithHeader = One item.Header ∷ One item.Module ∷ []
takes action.WithImport = One item.Import ∷ One item.Module ∷ []
takes action.WithDeclaration = One item.Declaration ∷ One item.Module ∷ []
takes action.PortModule = word ∷ One item.Header ∷ One item.Module ∷ []
takes action.FirstPort = word ∷ word ∷ type_tree ∷ One item.Module ∷ []
takes action.HeaderOf = word ∷ word ∷ One item.Exposing ∷ []
takes action.PortHeader = word ∷ word ∷ One item.Header ∷ []
takes action.ExposeAll = word ∷ word ∷ []
takes action.ExposeNothing = []
takes action.ExposeThese = One item.Exposed ∷ Many item.Exposed ∷ []
takes action.ExposeWord = word ∷ []
takes action.ExposeUpper = word ∷ words ∷ []
takes action.ExposeOperator = word ∷ word ∷ word ∷ []
takes action.Opening = word ∷ word ∷ word ∷ []
takes action.ImportOf = word ∷ word ∷ words ∷ One item.Exposing ∷ []
takes action.PortOf = word ∷ word ∷ word ∷ type_tree ∷ []
takes action.ValueOf = word ∷ One item.Rest ∷ []
takes action.AliasOf = word ∷ word ∷ words ∷ word ∷ type_tree ∷ []
takes action.UnionOf = word ∷ words ∷ word ∷ One item.Constructor ∷ Many item.Constructor ∷ []
takes action.ConstructorOf = word ∷ type_trees ∷ []
takes action.AnnotationRest = word ∷ type_tree ∷ []
takes action.FunctionRest = shapes ∷ word ∷ expr ∷ []
takes action.ConstantRest = word ∷ expr ∷ []
takes action.ArrowsOf = type_tree ∷ type_trees ∷ []
takes action.NamedType = word ∷ type_trees ∷ []
takes action.NamedTypeAlone = word ∷ []
takes action.VariableType = word ∷ []
takes action.BracketType = word ∷ type_trees ∷ []
takes action.EmptyRecordType = word ∷ []
takes action.RecordTypeOf = word ∷ words ∷ word ∷ type_tree ∷ field_types ∷ []
takes action.MoreFieldTypes = word ∷ word ∷ word ∷ type_tree ∷ field_types ∷ []
takes action.ChainOf = expr ∷ parts ∷ []
takes action.MoreOperators = word ∷ One item.Chain ∷ []
takes action.OperandThen = expr ∷ parts ∷ []
takes action.LastOperand = expr ∷ []
takes action.Applied = expr ∷ exprs ∷ []
takes action.Negative = word ∷ expr ∷ []
takes action.NegativeArgument = word ∷ expr ∷ exprs ∷ []
takes action.IfOf = word ∷ expr ∷ word ∷ expr ∷ word ∷ expr ∷ []
takes action.CaseOf = word ∷ expr ∷ word ∷ Many item.Branch ∷ []
takes action.LetOf = word ∷ Many item.Definition ∷ word ∷ expr ∷ []
takes action.LambdaOf = word ∷ shapes ∷ word ∷ expr ∷ []
takes action.BranchOf = shape ∷ word ∷ expr ∷ []
takes action.DefinitionOf = word ∷ One item.Rest ∷ []
takes action.DestructureOf = shape ∷ word ∷ expr ∷ []
takes action.WordExpr = word ∷ []
takes action.WordAccess = word ∷ words ∷ []
takes action.BracketAccess = word ∷ exprs ∷ words ∷ []
takes action.RecordAccess = word ∷ One item.Record ∷ words ∷ []
takes action.ListOf = word ∷ exprs ∷ []
takes action.OperatorAlone = word ∷ word ∷ []
takes action.MinusParen = word ∷ One item.AfterMinus ∷ []
takes action.MinusAlone = word ∷ []
takes action.MinusOperand = expr ∷ exprs ∷ parts ∷ exprs ∷ []
takes action.UnsignedOf = expr ∷ exprs ∷ parts ∷ []
takes action.EmptyRecord = word ∷ []
takes action.RecordOf = word ∷ words ∷ word ∷ expr ∷ parts ∷ []
takes action.MoreFields = word ∷ word ∷ word ∷ expr ∷ parts ∷ []
takes action.PatternOf = shape ∷ shapes ∷ words ∷ []
takes action.ConstructOf = word ∷ shapes ∷ []
takes action.ConstructAlone = word ∷ []
takes action.WordPattern = word ∷ []
takes action.NegativePattern = word ∷ word ∷ []
takes action.BracketPattern = word ∷ shapes ∷ []
takes action.ListPatternOf = word ∷ shapes ∷ []
takes action.FieldsPatternOf = word ∷ words ∷ []

-- and of what it makes
unfoldable pub gives : Action → Kind
gives (action.Same i) = One i
gives (action.Second i) = One i
gives (action.Empty i) = Many i
gives (action.End i) = Many i
gives (action.More i) = Many i
gives (action.Comma i) = Many i
gives action.SecondAsList = words
gives action.EmptyModule = One item.Module
gives action.WithHeader = One item.Module
gives action.WithImport = One item.Module
gives action.WithDeclaration = One item.Module
gives action.PortModule = One item.Module
gives action.FirstPort = One item.Module
gives action.HeaderOf = One item.Header
gives action.PortHeader = One item.Header
gives action.ExposeAll = One item.Exposing
gives action.ExposeNothing = One item.Exposing
gives action.ExposeThese = One item.Exposing
gives action.ExposeWord = One item.Exposed
gives action.ExposeUpper = One item.Exposed
gives action.ExposeOperator = One item.Exposed
gives action.Opening = words
gives action.ImportOf = One item.Import
gives action.PortOf = One item.Declaration
gives action.ValueOf = One item.Declaration
gives action.AliasOf = One item.Declaration
gives action.UnionOf = One item.Declaration
gives action.ConstructorOf = One item.Constructor
gives action.AnnotationRest = One item.Rest
gives action.FunctionRest = One item.Rest
gives action.ConstantRest = One item.Rest
gives action.ArrowsOf = type_tree
gives action.NamedType = type_tree
gives action.NamedTypeAlone = type_tree
gives action.VariableType = type_tree
gives action.BracketType = type_tree
gives action.EmptyRecordType = type_tree
gives action.RecordTypeOf = type_tree
gives action.MoreFieldTypes = field_types
gives action.ChainOf = expr
gives action.MoreOperators = parts
gives action.OperandThen = One item.Chain
gives action.LastOperand = One item.Chain
gives action.Applied = expr
gives action.Negative = expr
gives action.NegativeArgument = exprs
gives action.IfOf = expr
gives action.CaseOf = expr
gives action.LetOf = expr
gives action.LambdaOf = expr
gives action.BranchOf = One item.Branch
gives action.DefinitionOf = One item.Definition
gives action.DestructureOf = One item.Definition
gives action.WordExpr = expr
gives action.WordAccess = expr
gives action.BracketAccess = expr
gives action.RecordAccess = expr
gives action.ListOf = expr
gives action.OperatorAlone = exprs
gives action.MinusParen = exprs
gives action.MinusAlone = One item.AfterMinus
gives action.MinusOperand = One item.AfterMinus
gives action.UnsignedOf = expr
gives action.EmptyRecord = One item.Record
gives action.RecordOf = One item.Record
gives action.MoreFields = parts
gives action.PatternOf = shape
gives action.ConstructOf = shape
gives action.ConstructAlone = shape
gives action.WordPattern = shape
gives action.NegativePattern = shape
gives action.BracketPattern = shape
gives action.ListPatternOf = shape
gives action.FieldsPatternOf = shape

-- ---- what each action makes

unfoldable pub act : (a : Action) → Function (takes a) (gives a)
unfolding takes gives
act (action.Same i) = λ x. x
act (action.Second i) = λ t x. x
act (action.Empty i) = []
act (action.End i) = λ t. []
act (action.More i) = λ x xs. x ∷ xs
act (action.Comma i) = λ t x xs. x ∷ xs
act action.SecondAsList = λ t x. x ∷ []
act action.EmptyModule = empty_module
act action.WithHeader = λ h m. with_header h m
act action.WithImport = λ i m. with_import i m
act action.WithDeclaration = λ d m. with_declaration d m
act action.PortModule = λ t h m. with_header (with_ports h) m
act action.FirstPort = λ x colon t m. with_declaration (Port (word_of x) t) m
act action.HeaderOf = λ x t e. record { has_ports = false; name = word_of x; exposes = e }
act action.PortHeader = λ t u h. with_ports h
act action.ExposeAll = λ t u. Everything
act action.ExposeNothing = These []
act action.ExposeThese = λ e es. These (e ∷ es)
act action.ExposeWord = λ t. exposed_of t false
act action.ExposeUpper = λ t dots. exposed_of t (is_given dots)
act action.ExposeOperator = λ left t right. exposed_of t false
act action.Opening = λ left dots right. dots ∷ []
act action.ImportOf = λ t x alias e. record { name = word_of x; alias = first_word alias; exposes = e }
act action.PortOf = λ p x colon t. Port (word_of x) t
act action.ValueOf = λ x r. Value (defined x r)
act action.AliasOf = λ a x ps equals t. Alias (word_of x) (map word_of ps) t
act action.UnionOf = λ x ps equals c cs. Union (word_of x) (map word_of ps) (c ∷ cs)
act action.ConstructorOf = λ x ts. record { name = word_of x; fields = types_of ts }
act action.AnnotationRest = λ colon t. Typed t
act action.FunctionRest = λ ps equals e. Bodied (patterns_in ps) e
act action.ConstantRest = λ equals e. Bodied NoPattern e
act action.ArrowsOf = λ t ts. arrows_of t ts
act action.NamedType = λ x ts. TypeName (long_of x) (types_of ts)
act action.NamedTypeAlone = λ x. TypeName (long_of x) NoType
act action.VariableType = λ x. TypeVariable (word_of x)
act action.BracketType = λ left ts. bracket_type ts
act action.EmptyRecordType = λ right. RecordType NoFieldType
act action.RecordTypeOf = λ x base colon t fs. record_type (fields_from (word_of x) base t fs)
act action.MoreFieldTypes = λ comma x colon t fs. (word_of x, t) ∷ fs
act action.ChainOf = λ e ps. chained e ps
act action.MoreOperators = λ op c. (word_of op, c.0) ∷ c.1
act action.OperandThen = λ e ps. (e, ps)
act action.LastOperand = λ e. (e, [])
act action.Applied = λ f es. applied f es
act action.Negative = λ t e. Negate (pos_of t) e
act action.NegativeArgument = λ t e es. Negate (pos_of t) e ∷ es
act action.IfOf = λ i c t a e b. If c a b
act action.CaseOf = λ t e o bs. Case (pos_of t) e (branches_of bs)
act action.LetOf = λ l ds i e. Let (definitions_of ds) e
act action.LambdaOf = λ t ps arrow e. Lambda (pos_of t) (patterns_in ps) e
act action.BranchOf = λ p arrow e. (p.pattern, e)
act action.DefinitionOf = λ x r. defined x r
act action.DestructureOf = λ p equals e. Destructure p.pattern e
act action.WordExpr = λ t. expr_of t
act action.WordAccess = λ t xs. accessed (pos_of t) (expr_of t) xs
act action.BracketAccess = λ t es xs. accessed (pos_of t) (bracketed (pos_of t) es) xs
act action.RecordAccess = λ t r xs. accessed (pos_of t) (record_expr (pos_of t) r) xs
act action.ListOf = λ t es. ListOf (pos_of t) (exprs_of es)
act action.OperatorAlone = λ t right. expr_of t ∷ []
act action.MinusParen = λ t r. after_minus t r
act action.MinusAlone = λ right. Closed
act action.MinusOperand = λ e es ps rest. Operand e es ps rest
act action.UnsignedOf = λ e es ps. chained (applied e es) ps
act action.EmptyRecord = λ right. (None, [])
act action.RecordOf = λ x base equals e fs. fields_from (word_of x) base e fs
act action.MoreFields = λ comma x equals e fs. (word_of x, e) ∷ fs
act action.PatternOf = λ p ps names. with_name (conses_of p ps) names
act action.ConstructOf = λ x ps. begun (pos_of x) (Construct (long_of x) (patterns_in ps))
act action.ConstructAlone = λ x. begun (pos_of x) (Construct (long_of x) NoPattern)
act action.WordPattern = λ t. begun (pos_of t) (pattern_of t)
act action.NegativePattern = λ t n. begun (pos_of t) (Exactly (pos_of t) (negative_of n))
act action.BracketPattern = λ t ps. begun (pos_of t) (bracket_pattern (pos_of t) ps)
act action.ListPatternOf = λ t ps. begun (pos_of t) (ListPattern (pos_of t) (patterns_in ps))
act action.FieldsPatternOf = λ t xs. begun (pos_of t) (FieldsPattern (pos_of t) (map word_of xs))

-- What a tree of the program is, given the tokens of the module.
use Rattle.std.specs.Prelude.{List, map, Option, Some, None, option_map}
use Rattle.elm_lexer.specs.Tokens.{Token}
use Rattle.elm_tree.specs.Tree as plain
use Rattle.elm_tree.specs.Tree.{types_of, field_types_of, patterns_of, exprs_of, parts_of, branches_of, definitions_of}
use Rattle.elm_tree.specs.Words.{token_at, pos_of, word_of, field_of, long_of, negative_of, expr_of, pattern_of}
use Rattle.elm_tree.specs.Words.{exposed_of}
use Rattle.elm_tree.specs.declared.tree.Word.{Word}
use Rattle.elm_tree.specs.declared.tree.TypeTree.{TypeTree, fold-TypeTree}
use Rattle.elm_tree.specs.declared.tree.TypeTree.TheOpen.{TypeTree-F, FieldType-F}
use Rattle.elm_tree.specs.declared.tree.FieldType.{FieldType, fold-FieldType}
use Rattle.elm_tree.specs.declared.tree.Pattern.{Pattern, fold-Pattern}
use Rattle.elm_tree.specs.declared.tree.Pattern.TheOpen.{Pattern-F}
use Rattle.elm_tree.specs.declared.tree.Expr.{Expr, fold-Expr}
use Rattle.elm_tree.specs.declared.tree.Definition.TheOpen.{Definition-F, Expr-F, Branch-F, Part-F}
use Rattle.elm_tree.specs.declared.tree.Definition.{Definition, fold-Definition}
use Rattle.elm_tree.specs.declared.tree.Part.{Part, fold-Part}
use Rattle.elm_tree.specs.declared.tree.Branch.{Branch, fold-Branch}
use Rattle.elm_tree.specs.declared.tree.Constructor.{Constructor}
use Rattle.elm_tree.specs.declared.tree.Declaration as declaration
use Rattle.elm_tree.specs.declared.tree.Exposed.{Exposed}
use Rattle.elm_tree.specs.declared.tree.Exposing as exposing_part
use Rattle.elm_tree.specs.declared.tree.Import.{Import}
use Rattle.elm_tree.specs.declared.tree.Header.{Header}
use Rattle.elm_tree.specs.declared.tree.Head.{Head}
use Rattle.elm_tree.specs.declared.tree.Module.{Module}

-- ---- words

abbrev pub token_view : List Token → Word → Token
token_view tokens x = token_at tokens x.index

abbrev pub word_view : List Token → Word → plain.Word
word_view tokens x = word_of (token_view tokens x)

abbrev pub place_view : List Token → Word → plain.Pos
place_view tokens x = pos_of (token_view tokens x)

abbrev pub long_view : List Token → Word → plain.Long
long_view tokens x = long_of (token_view tokens x)

abbrev pub words_view : List Token → List Word → List plain.Word
words_view tokens xs = map (word_view tokens) xs

abbrev pub fields_view : List Token → List Word → List plain.Word
fields_view tokens xs = map (λ x. field_of (token_view tokens x)) xs

-- ---- types

abbrev pub NamedType : Type 0
NamedType = plain.Word × plain.TypeTree

-- a record, over a base if there is one
abbrev pub record_type : List Token → Option Word → List NamedType → plain.TypeTree
record_type tokens None fs = plain.RecordType (field_types_of fs)
record_type tokens (Some a) fs = plain.ExtendedType (word_view tokens a) (field_types_of fs)

-- one level, with each part already seen
abbrev pub type_step : List Token → TypeTree-F plain.TypeTree NamedType → plain.TypeTree
type_step tokens (TypeTree-F.Variable a) = plain.TypeVariable (word_view tokens a)
type_step tokens (TypeTree-F.Named x ts) = plain.TypeName (long_view tokens x) (types_of ts.items)
type_step tokens (TypeTree-F.Function ts) = plain.FunctionType (types_of ts.items)
type_step tokens (TypeTree-F.Tuple ts) = plain.TupleType (types_of ts.items)
type_step tokens (TypeTree-F.Record base fs) = record_type tokens base fs.items

abbrev pub field_type_step : List Token → FieldType-F plain.TypeTree NamedType → NamedType
field_type_step tokens f = (word_view tokens f.name, f.field_type)

unfoldable pub type_view : List Token → TypeTree → plain.TypeTree
type_view tokens = fold-TypeTree plain.TypeTree NamedType (type_step tokens) (field_type_step tokens)

unfoldable pub field_type_view : List Token → FieldType → NamedType
field_type_view tokens = fold-FieldType plain.TypeTree NamedType (type_step tokens) (field_type_step tokens)

-- ---- patterns

abbrev pub pattern_step : List Token → Pattern-F plain.Pattern → plain.Pattern
pattern_step tokens (Pattern-F.OneWord x) = pattern_of (token_view tokens x)
pattern_step tokens (Pattern-F.Negative sign x) =
    plain.Exactly (place_view tokens sign) (negative_of (token_view tokens x))
pattern_step tokens (Pattern-F.Construct x ps) = plain.Construct (long_view tokens x) (patterns_of ps.items)
pattern_step tokens (Pattern-F.Cons first ps) = plain.ConsPattern (place_view tokens first) (patterns_of ps.items)
pattern_step tokens (Pattern-F.List first ps) = plain.ListPattern (place_view tokens first) (patterns_of ps.items)
pattern_step tokens (Pattern-F.Tuple first ps) = plain.TuplePattern (place_view tokens first) (patterns_of ps.items)
pattern_step tokens (Pattern-F.Fields first xs) =
    plain.FieldsPattern (place_view tokens first) (words_view tokens xs.items)
pattern_step tokens (Pattern-F.As first p x) = plain.As (place_view tokens first) p.value (word_view tokens x)

unfoldable pub pattern_view : List Token → Pattern → plain.Pattern
pattern_view tokens = fold-Pattern plain.Pattern (pattern_step tokens)

abbrev pub patterns_view : List Token → List Pattern → plain.Patterns
patterns_view tokens ps = patterns_of (map (pattern_view tokens) ps)

-- ---- expressions

abbrev pub WordExpr : Type 0
WordExpr = plain.Word × plain.Expr

abbrev pub BranchView : Type 0
BranchView = plain.Pattern × plain.Expr

-- a record, over a base if there is one
abbrev pub record_expr : List Token → Word → Option Word → List WordExpr → plain.Expr
record_expr tokens first None fs = plain.RecordOf (place_view tokens first) (parts_of fs)
record_expr tokens first (Some r) fs = plain.Update (place_view tokens first) (word_view tokens r) (parts_of fs)

abbrev pub expr_step : List Token → Expr-F plain.Definition plain.Expr BranchView WordExpr → plain.Expr
expr_step tokens (Expr-F.OneWord x) = expr_of (token_view tokens x)
expr_step tokens (Expr-F.Negative sign e) = plain.Negate (place_view tokens sign) e.value
expr_step tokens (Expr-F.Apply f es) = plain.Apply f.value (exprs_of es.items)
expr_step tokens (Expr-F.Chain e ps) = plain.Chain e.value (parts_of ps.items)
expr_step tokens (Expr-F.List first es) = plain.ListOf (place_view tokens first) (exprs_of es.items)
expr_step tokens (Expr-F.Tuple first es) = plain.TupleOf (place_view tokens first) (exprs_of es.items)
expr_step tokens (Expr-F.Record first base fs) = record_expr tokens first base fs.items
expr_step tokens (Expr-F.Access first e xs) =
    plain.Access (place_view tokens first) e.value (fields_view tokens xs.items)
expr_step tokens (Expr-F.If c a b) = plain.If c.value a.value b.value
expr_step tokens (Expr-F.Case first e bs) = plain.Case (place_view tokens first) e.value (branches_of bs.items)
expr_step tokens (Expr-F.Let ds e) = plain.Let (definitions_of ds.items) e.value
expr_step tokens (Expr-F.Lambda first ps e) =
    plain.Lambda (place_view tokens first) (patterns_view tokens ps.items) e.value

abbrev pub definition_step : List Token → Definition-F plain.Definition plain.Expr BranchView WordExpr →
    plain.Definition
definition_step tokens (Definition-F.Annotate x t) = plain.Annotate (word_view tokens x) (type_view tokens t)
definition_step tokens (Definition-F.Define x ps e) =
    plain.Define (word_view tokens x) (patterns_view tokens ps.items) e
definition_step tokens (Definition-F.Destructure p e) = plain.Destructure (pattern_view tokens p) e

abbrev pub branch_step : List Token → Branch-F plain.Definition plain.Expr BranchView WordExpr → BranchView
branch_step tokens b = (pattern_view tokens b.pattern, b.body)

abbrev pub part_step : List Token → Part-F plain.Definition plain.Expr BranchView WordExpr → WordExpr
part_step tokens p = (word_view tokens p.word, p.value)

unfoldable pub expr_view : List Token → Expr → plain.Expr
expr_view tokens =
    fold-Expr plain.Definition plain.Expr BranchView WordExpr (definition_step tokens) (expr_step tokens)
    (branch_step tokens) (part_step tokens)

unfoldable pub definition_view : List Token → Definition → plain.Definition
definition_view tokens =
    fold-Definition plain.Definition plain.Expr BranchView WordExpr (definition_step tokens) (expr_step tokens)
    (branch_step tokens) (part_step tokens)

unfoldable pub branch_view : List Token → Branch → BranchView
branch_view tokens =
    fold-Branch plain.Definition plain.Expr BranchView WordExpr (definition_step tokens) (expr_step tokens)
    (branch_step tokens) (part_step tokens)

unfoldable pub part_view : List Token → Part → WordExpr
part_view tokens =
    fold-Part plain.Definition plain.Expr BranchView WordExpr (definition_step tokens) (expr_step tokens)
    (branch_step tokens) (part_step tokens)

-- ---- modules

abbrev pub constructor_view : List Token → Constructor → plain.ConstructorOf
constructor_view tokens c = record {
  name = word_view tokens c.name;
  fields = types_of (map (type_view tokens) c.arguments.items);
}

abbrev pub declaration_view : List Token → declaration.Declaration → plain.Declaration
declaration_view tokens (declaration.Declaration.Value d) = plain.Value (definition_view tokens d)
declaration_view tokens (declaration.Declaration.Port x t) = plain.Port (word_view tokens x) (type_view tokens t)
declaration_view tokens (declaration.Declaration.Union x ps cs) =
    plain.Union (word_view tokens x) (words_view tokens ps.items) (map (constructor_view tokens) cs.items)
declaration_view tokens (declaration.Declaration.Alias x ps t) =
    plain.Alias (word_view tokens x) (words_view tokens ps.items) (type_view tokens t)

abbrev pub exposed_view : List Token → Exposed → plain.Exposed
exposed_view tokens e = exposed_of (token_view tokens e.name) e.is_open

abbrev pub exposing_view : List Token → exposing_part.Exposing → plain.Exposing
exposing_view tokens exposing_part.Exposing.Everything = plain.Everything
exposing_view tokens (exposing_part.Exposing.These es) = plain.These (map (exposed_view tokens) es.items)

abbrev pub import_view : List Token → Import → plain.Import
import_view tokens i = record {
  name = word_view tokens i.name;
  alias = option_map (word_view tokens) i.alias;
  exposes = exposing_view tokens i.exposes;
}

abbrev pub header_view : List Token → Header → plain.Header
header_view tokens h = record {
  has_ports = h.has_ports;
  name = word_view tokens h.name;
  exposes = exposing_view tokens h.exposes;
}

abbrev pub head_view : List Token → Head → plain.Head
head_view tokens h = record {
  header = option_map (header_view tokens) h.header;
  imports = map (import_view tokens) h.imports.items;
}

abbrev pub module_view : List Token → Module → plain.Module
module_view tokens m = record {
  head = head_view tokens m.head;
  declarations = map (declaration_view tokens) m.declarations.items;
}

-- What a tree of the program is.
use Rattle.std.specs.Prelude.{List, [], ◌∷◌, ◌++◌, map, length, Option, Some, None, option_map}
use Rattle.elm_base.specs.declared.position.Pos.{Pos}
use Rattle.elm_canon.specs.Names.{Name}
use Rattle.elm_canon.specs.declared.tree.Connective.{Connective}
use Rattle.elm_canon.specs.Unions.{TupleUnion, ListUnion, tuple_alternative, nil_alternative, cons_alternative}
use Rattle.elm_canon.specs.Tree as plain
use Rattle.elm_canon.specs.Tree.{annotations_of, field_types_of, patterns_of, exprs_of, branches_of, groups_of}
use Rattle.elm_canon.specs.Tree.{functions_of, payloads_of, payload_fields_of}
use Rattle.elm_canon.specs.declared.tree.Annotation.{Annotation, fold-Annotation}
use Rattle.elm_canon.specs.declared.tree.Annotation.TheOpen.{Annotation-F, FieldType-F}
use Rattle.elm_canon.specs.declared.tree.FieldType.{FieldType, fold-FieldType}
use Rattle.elm_canon.specs.declared.tree.Pattern.{Pattern, fold-Pattern}
use Rattle.elm_canon.specs.declared.tree.Pattern.TheOpen.{Pattern-F}
use Rattle.elm_canon.specs.declared.tree.Op.{Op}
use Rattle.elm_canon.specs.declared.tree.Op.TheVariants as op
use Rattle.elm_canon.specs.declared.tree.Title.{Title}
use Rattle.elm_canon.specs.declared.tree.Expr.{Expr, fold-Expr}
use Rattle.elm_canon.specs.declared.tree.Expr.TheOpen.{Expr-F, Link-F, Branch-F, Group-F, Function-F}
use Rattle.elm_canon.specs.declared.tree.Link.{Link, fold-Link}
use Rattle.elm_canon.specs.declared.tree.Branch.{Branch, fold-Branch}
use Rattle.elm_canon.specs.declared.tree.Group.{Group, fold-Group}
use Rattle.elm_canon.specs.declared.tree.Function.{Function, fold-Function}
use Rattle.elm_canon.specs.declared.tree.Payload.{Payload, fold-Payload}
use Rattle.elm_canon.specs.declared.tree.Payload.TheOpen.{Payload-F, PayloadField-F}
use Rattle.elm_canon.specs.declared.tree.PayloadField.{PayloadField, fold-PayloadField}
use Rattle.elm_canon.specs.declared.tree.Known.{Known}
use Rattle.elm_canon.specs.declared.tree.Known.TheVariants as known
use Rattle.elm_canon.specs.declared.tree.UnionDeclaration.{UnionDeclaration}
use Rattle.elm_canon.specs.declared.tree.AliasDeclaration.{AliasDeclaration}
use Rattle.elm_canon.specs.declared.tree.PortDeclaration.{PortDeclaration}
use Rattle.elm_canon.specs.declared.tree.Declaration as declaration
use Rattle.elm_canon.specs.declared.tree.Module.{Module}

-- ---- types

abbrev pub NamedType : Type 0
NamedType = Name × plain.Annotation

-- the parameters before the result, which is the last
abbrev pub function_to : plain.Annotation → List plain.Annotation → plain.Annotation
function_to t [] = t
function_to t (u ∷ us) = plain.FunctionType t (function_to u us)

-- of no types, which no type is written with, the tuple of none
abbrev pub function_type : List plain.Annotation → plain.Annotation
function_type [] = plain.TupleType plain.NoAnnotation
function_type (t ∷ ts) = function_to t ts

-- a record, over a variable if there is one
abbrev pub record_type : Option Name → List NamedType → plain.Annotation
record_type None fs = plain.RecordType (field_types_of fs)
record_type (Some a) fs = plain.ExtendedType a (field_types_of fs)

abbrev pub annotation_step : Annotation-F plain.Annotation NamedType → plain.Annotation
annotation_step (Annotation-F.Variable a) = plain.Variable a
annotation_step (Annotation-F.Named m x ts) = plain.NamedType m x (annotations_of ts.items)
annotation_step (Annotation-F.Function ts) = function_type ts.items
annotation_step (Annotation-F.Tuple ts) = plain.TupleType (annotations_of ts.items)
annotation_step (Annotation-F.Record base fs) = record_type base fs.items
annotation_step (Annotation-F.Shared t) = t.value

abbrev pub field_type_step : FieldType-F plain.Annotation NamedType → NamedType
field_type_step f = (f.name, f.field_type)

unfoldable pub annotation_view : Annotation → plain.Annotation
annotation_view = fold-Annotation plain.Annotation NamedType annotation_step field_type_step

unfoldable pub field_type_view : FieldType → NamedType
field_type_view = fold-FieldType plain.Annotation NamedType annotation_step field_type_step

-- ---- patterns

abbrev pub tuple_pattern : List plain.Pattern → plain.Pattern
tuple_pattern ps = plain.Construct (TupleUnion (length ps)) (tuple_alternative (length ps)) (patterns_of ps)

abbrev pub nil_pattern : plain.Pattern
nil_pattern = plain.Construct ListUnion nil_alternative plain.NoPattern

abbrev pub cons_pattern : plain.Pattern → plain.Pattern → plain.Pattern
cons_pattern p rest =
    plain.Construct ListUnion cons_alternative (plain.MorePattern p (plain.MorePattern rest plain.NoPattern))

-- p :: q :: rest
abbrev pub items_before : plain.Pattern → List plain.Pattern → plain.Pattern
items_before rest [] = rest
items_before rest (p ∷ ps) = cons_pattern p (items_before rest ps)

abbrev pub pattern_step : Pattern-F plain.Pattern → plain.Pattern
pattern_step Pattern-F.Anything = plain.Anything
pattern_step (Pattern-F.Named x) = plain.Named x
pattern_step (Pattern-F.As p x) = plain.As p.value x
pattern_step (Pattern-F.Exactly l) = plain.Exactly l
pattern_step (Pattern-F.Construct u c ps) = plain.Construct u c (patterns_of ps.items)
pattern_step (Pattern-F.Tuple ps) = tuple_pattern ps.items
pattern_step (Pattern-F.List ps) = items_before nil_pattern ps.items
pattern_step (Pattern-F.Items ps rest) = items_before rest.value ps.items
pattern_step (Pattern-F.Fields xs) = plain.FieldsOf xs.items
pattern_step (Pattern-F.Located place p) = plain.LocatedPattern place p.value

unfoldable pub pattern_view : Pattern → plain.Pattern
pattern_view = fold-Pattern plain.Pattern pattern_step

abbrev pub patterns_view : List Pattern → plain.Patterns
patterns_view ps = patterns_of (map pattern_view ps)

-- ---- expressions

abbrev pub op_view : Op → plain.Op
op_view op.Tuple = plain.TupleOf
op_view op.List = plain.ListOf
op_view (op.Build place u c) = plain.Build place u c
op_view (op.Record xs) = plain.RecordOf xs.items
op_view (op.Update xs) = plain.Update xs.items
op_view op.Negate = plain.Negate
op_view (op.Binary place o) = plain.Binary place o

abbrev pub title_view : Title → plain.Title
title_view t = record { name = t.name; place = t.place; annotation = option_map annotation_view t.annotation }

-- a.x.y
abbrev pub accessed : plain.Expr → List Name → plain.Expr
accessed e [] = e
accessed e (x ∷ xs) = accessed (plain.Strict (plain.Access x) (plain.MoreExpr e plain.NoExpr)) xs

-- what is done with an expression: it is the last argument of a function, or the first; it is the last part, or the
-- first; it is on the right of `&&` or `||`
pub data LinkView : Type 0 where
  Given : plain.Expr → List plain.Expr → LinkView
  Composed : plain.Expr → plain.Expr → LinkView
  After : plain.Op → List plain.Expr → LinkView
  Before : plain.Op → plain.Expr → LinkView
  Decided : Pos → Connective → plain.Expr → LinkView

abbrev pub done : LinkView → plain.Expr → plain.Expr
done (Given f es) e = plain.Apply f (exprs_of (es ++ e ∷ []))
done (Composed f a) e = plain.Apply f (exprs_of (e ∷ a ∷ []))
done (After o es) e = plain.Strict o (exprs_of (es ++ e ∷ []))
done (Before o a) e = plain.Strict o (exprs_of (e ∷ a ∷ []))
done (Decided place c a) e = plain.Logical place c a e

-- one after the other
abbrev pub linked : plain.Expr → List LinkView → plain.Expr
linked e [] = e
linked e (l ∷ ls) = linked (done l e) ls

abbrev pub BranchView : Type 0
BranchView = plain.Pattern × plain.Expr

abbrev pub FunctionView : Type 0
FunctionView = plain.Title × plain.Patterns × plain.Expr

abbrev pub expr_step : Expr-F plain.Expr plain.Group LinkView BranchView FunctionView → plain.Expr
expr_step (Expr-F.Literal l) = plain.Is l
expr_step (Expr-F.Name x) = plain.NameOf x
expr_step (Expr-F.Accessor x) = plain.Accessor x
expr_step (Expr-F.Lambda ps e) = plain.Lambda (patterns_view ps.items) e.value
expr_step (Expr-F.Apply f es) = plain.Apply f.value (exprs_of es.items)
expr_step (Expr-F.Strict o es) = plain.Strict (op_view o) (exprs_of es.items)
expr_step (Expr-F.Access e xs) = accessed e.value xs.items
expr_step (Expr-F.If c a b) = plain.If c.value a.value b.value
expr_step (Expr-F.Chain e ls) = linked e.value ls.items
expr_step (Expr-F.Let gs e) = plain.Let (groups_of gs.items) e.value
expr_step (Expr-F.Case e bs) = plain.Case e.value (branches_of bs.items)
expr_step (Expr-F.Located place e) = plain.Located place e.value

abbrev pub link_step : Link-F plain.Expr plain.Group LinkView BranchView FunctionView → LinkView
link_step (Link-F.Given f es) = Given f.value es.items
link_step (Link-F.Composed f a) = Composed f.value a.value
link_step (Link-F.After o es) = After (op_view o) es.items
link_step (Link-F.Before o a) = Before (op_view o) a.value
link_step (Link-F.Decided place c a) = Decided place c a.value

abbrev pub branch_step : Branch-F plain.Expr plain.Group LinkView BranchView FunctionView → BranchView
branch_step b = (pattern_view b.pattern, b.body.value)

abbrev pub group_step : Group-F plain.Expr plain.Group LinkView BranchView FunctionView → plain.Group
group_step (Group-F.Together fs) = plain.Together (functions_of fs.items)
group_step (Group-F.Constant t e) = plain.Constant (title_view t) e.value
group_step (Group-F.Destructure p e) = plain.Destructure (pattern_view p) e.value

abbrev pub function_step : Function-F plain.Expr plain.Group LinkView BranchView FunctionView → FunctionView
function_step f = (title_view f.title, patterns_view f.parameters.items, f.body.value)

unfoldable pub expr_view : Expr → plain.Expr
expr_view =
    fold-Expr plain.Expr plain.Group LinkView BranchView FunctionView expr_step group_step link_step branch_step
    function_step

unfoldable pub link_view : Link → LinkView
link_view =
    fold-Link plain.Expr plain.Group LinkView BranchView FunctionView expr_step group_step link_step branch_step
    function_step

unfoldable pub branch_view : Branch → BranchView
branch_view =
    fold-Branch plain.Expr plain.Group LinkView BranchView FunctionView expr_step group_step link_step branch_step
    function_step

unfoldable pub group_view : Group → plain.Group
group_view =
    fold-Group plain.Expr plain.Group LinkView BranchView FunctionView expr_step group_step link_step branch_step
    function_step

unfoldable pub function_view : Function → FunctionView
function_view =
    fold-Function plain.Expr plain.Group LinkView BranchView FunctionView expr_step group_step link_step branch_step
    function_step

-- ---- what is declared without a body

abbrev pub NamedPayload : Type 0
NamedPayload = Name × plain.Payload

abbrev pub payload_step : Payload-F plain.Payload NamedPayload → plain.Payload
payload_step Payload-F.Int = plain.IntPayload
payload_step Payload-F.Bool = plain.BoolPayload
payload_step Payload-F.Text = plain.TextPayload
payload_step (Payload-F.Maybe p) = plain.MaybePayload p.value
payload_step (Payload-F.List p) = plain.ListPayload p.value
payload_step (Payload-F.Tuple ps) = plain.TuplePayload (payloads_of ps.items)
payload_step (Payload-F.Record fs) = plain.RecordPayload (payload_fields_of fs.items)

abbrev pub payload_field_step : PayloadField-F plain.Payload NamedPayload → NamedPayload
payload_field_step f = (f.name, f.value)

unfoldable pub payload_view : Payload → plain.Payload
payload_view = fold-Payload plain.Payload NamedPayload payload_step payload_field_step

unfoldable pub payload_field_view : PayloadField → NamedPayload
payload_field_view = fold-PayloadField plain.Payload NamedPayload payload_step payload_field_step

abbrev pub known_view : Known → plain.Known
known_view (known.Maker c) = plain.Maker c
known_view (known.RecordMaker xs) = plain.RecordMaker xs.items
known_view (known.OutPort x p) = plain.OutPort x (payload_view p)
known_view (known.InPort x p) = plain.InPort x (payload_view p)

-- ---- modules

abbrev pub types_view : List Annotation → plain.Annotations
types_view ts = annotations_of (map annotation_view ts)

abbrev pub union_declaration_view : UnionDeclaration → plain.UnionDeclaration
union_declaration_view u = record {
  name = u.name;
  union = u.union;
  parameters = u.parameters.items;
  fields = map (λ f. types_view f.types.items) u.fields.items;
}

abbrev pub alias_declaration_view : AliasDeclaration → plain.AliasDeclaration
alias_declaration_view a = record {
  name = a.name;
  parameters = a.parameters.items;
  body = annotation_view a.body;
  is_maker = a.is_maker;
}

abbrev pub port_declaration_view : PortDeclaration → plain.PortDeclaration
port_declaration_view p = record { name = p.name; place = p.place; port_type = annotation_view p.port_type }

abbrev pub declaration_view : declaration.Declaration → plain.Declaration
declaration_view (declaration.Declaration.Given x k) = plain.Given x (known_view k)
declaration_view (declaration.Declaration.Define g) = plain.Define (group_view g)

abbrev pub module_view : Module → plain.Module
module_view m = record {
  name = m.name;
  unions = map (λ u. union_declaration_view u.value) m.unions.items;
  aliases = map (λ a. alias_declaration_view a.value) m.aliases.items;
  ports = map port_declaration_view m.ports.items;
  declarations = map declaration_view m.declarations.items;
}

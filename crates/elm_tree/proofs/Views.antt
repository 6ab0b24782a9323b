-- What each form of a tree is, given the tokens, by what its parts are: one step of each view.
use Rattle.std.proofs.Common.{◌≡◌, List, map, Option, Vec, Global, sym, ap, ◌∙◌}
use Rattle.std.specs.declared.boxed.Box.{Box}
use Rattle.elm_lexer.specs.Tokens.{Token}
use Rattle.elm_tree.specs.Tree as plain
use Rattle.elm_tree.specs.Tree.{types_of, patterns_of, exprs_of, parts_of, branches_of, definitions_of}
use Rattle.elm_tree.specs.Words.{negative_of, expr_of, pattern_of}
use Rattle.elm_tree.specs.View.{token_view, word_view, place_view, long_view, words_view, fields_view, NamedType}
use Rattle.elm_tree.specs.View.{record_type, type_step, field_type_step, type_view, field_type_view, pattern_step}
use Rattle.elm_tree.specs.View.{pattern_view, patterns_view, BranchView, WordExpr, record_expr, expr_step}
use Rattle.elm_tree.specs.View.{definition_step, branch_step, part_step, expr_view, definition_view, branch_view}
use Rattle.elm_tree.specs.View.{part_view}
use Rattle.elm_tree.specs.declared.tree.Word.{Word}
use Rattle.elm_tree.specs.declared.tree.TypeTree.{TypeTree}
use Rattle.elm_tree.specs.declared.tree.TypeTree.TheVariants as type_tree
use Rattle.elm_tree.specs.declared.tree.TypeTree.TheOpen.{TypeTree-F}
use Rattle.elm_tree.specs.declared.tree.FieldType.{FieldType}
use Rattle.elm_tree.specs.declared.tree.TypeTree.TheFolds.{fold-roll-TypeTree, fold_out-FieldType}
use Rattle.elm_tree.specs.declared.tree.Pattern.{Pattern}
use Rattle.elm_tree.specs.declared.tree.Pattern.TheVariants as shape
use Rattle.elm_tree.specs.declared.tree.Pattern.TheOpen.{Pattern-F}
use Rattle.elm_tree.specs.declared.tree.Pattern.TheFolds.{fold-roll-Pattern}
use Rattle.elm_tree.specs.declared.tree.Expr.{Expr}
use Rattle.elm_tree.specs.declared.tree.Expr.TheVariants as expr
use Rattle.elm_tree.specs.declared.tree.Part.{Part}
use Rattle.elm_tree.specs.declared.tree.Branch.{Branch}
use Rattle.elm_tree.specs.declared.tree.Definition.{Definition}
use Rattle.elm_tree.specs.declared.tree.Definition.TheVariants as definition
use Rattle.elm_tree.specs.declared.tree.Definition.TheOpen.{Expr-F, Definition-F}
use Rattle.elm_tree.specs.declared.tree.Definition.TheFolds.{fold-roll-Expr, fold-roll-Definition, fold_out-Part}
use Rattle.elm_tree.specs.declared.tree.Definition.TheFolds.{fold_out-Branch}

pub variable_type : (tokens : List Token) (x : Word) →
    type_view tokens (type_tree.Variable x)
    ≡ plain.TypeVariable (word_view tokens x)
unfolding type_view field_type_view pattern_view expr_view definition_view branch_view part_view
variable_type tokens x =
    ap (type_view tokens) (sym (type_tree.rolls-Variable x))
    ∙ fold-roll-TypeTree plain.TypeTree NamedType (type_step tokens) (field_type_step tokens) (TypeTree-F.Variable x)

pub named_type : (tokens : List Token) (x : Word) (ts : Vec TypeTree Global) →
    type_view tokens (type_tree.Named x ts)
    ≡ plain.TypeName (long_view tokens x) (types_of (map (type_view tokens) ts.items))
unfolding type_view field_type_view pattern_view expr_view definition_view branch_view part_view
named_type tokens x ts =
    ap (type_view tokens) (sym (type_tree.rolls-Named x ts))
    ∙ fold-roll-TypeTree plain.TypeTree NamedType (type_step tokens) (field_type_step tokens) (TypeTree-F.Named x ts)

pub function_type : (tokens : List Token) (ts : Vec TypeTree Global) →
    type_view tokens (type_tree.Function ts)
    ≡ plain.FunctionType (types_of (map (type_view tokens) ts.items))
unfolding type_view field_type_view pattern_view expr_view definition_view branch_view part_view
function_type tokens ts =
    ap (type_view tokens) (sym (type_tree.rolls-Function ts))
    ∙ fold-roll-TypeTree plain.TypeTree NamedType (type_step tokens) (field_type_step tokens) (TypeTree-F.Function ts)

pub tuple_type : (tokens : List Token) (ts : Vec TypeTree Global) →
    type_view tokens (type_tree.Tuple ts)
    ≡ plain.TupleType (types_of (map (type_view tokens) ts.items))
unfolding type_view field_type_view pattern_view expr_view definition_view branch_view part_view
tuple_type tokens ts =
    ap (type_view tokens) (sym (type_tree.rolls-Tuple ts))
    ∙ fold-roll-TypeTree plain.TypeTree NamedType (type_step tokens) (field_type_step tokens) (TypeTree-F.Tuple ts)

pub record_of_type : (tokens : List Token) (base : Option Word) (fs : Vec FieldType Global) →
    type_view tokens (type_tree.Record base fs)
    ≡ record_type tokens base (map (field_type_view tokens) fs.items)
unfolding type_view field_type_view pattern_view expr_view definition_view branch_view part_view
record_of_type tokens base fs =
    ap (type_view tokens) (sym (type_tree.rolls-Record base fs))
    ∙ fold-roll-TypeTree plain.TypeTree NamedType (type_step tokens) (field_type_step tokens) (TypeTree-F.Record base fs)

pub field_of_type : (tokens : List Token) (f : FieldType) → field_type_view tokens f ≡ (word_view tokens f.name, type_view tokens f.field_type)
unfolding type_view field_type_view pattern_view expr_view definition_view branch_view part_view
field_of_type tokens f = fold_out-FieldType plain.TypeTree NamedType (type_step tokens) (field_type_step tokens) f

pub word_pattern : (tokens : List Token) (x : Word) →
    pattern_view tokens (shape.OneWord x)
    ≡ pattern_of (token_view tokens x)
unfolding type_view field_type_view pattern_view expr_view definition_view branch_view part_view
word_pattern tokens x =
    ap (pattern_view tokens) (sym (shape.rolls-OneWord x))
    ∙ fold-roll-Pattern plain.Pattern (pattern_step tokens) (Pattern-F.OneWord x)

pub negative_pattern : (tokens : List Token) (sign x : Word) →
    pattern_view tokens (shape.Negative sign x)
    ≡ plain.Exactly (place_view tokens sign) (negative_of (token_view tokens x))
unfolding type_view field_type_view pattern_view expr_view definition_view branch_view part_view
negative_pattern tokens sign x =
    ap (pattern_view tokens) (sym (shape.rolls-Negative sign x))
    ∙ fold-roll-Pattern plain.Pattern (pattern_step tokens) (Pattern-F.Negative sign x)

pub construct_pattern : (tokens : List Token) (x : Word) (ps : Vec Pattern Global) →
    pattern_view tokens (shape.Construct x ps)
    ≡ plain.Construct (long_view tokens x) (patterns_of (map (pattern_view tokens) ps.items))
unfolding type_view field_type_view pattern_view expr_view definition_view branch_view part_view
construct_pattern tokens x ps =
    ap (pattern_view tokens) (sym (shape.rolls-Construct x ps))
    ∙ fold-roll-Pattern plain.Pattern (pattern_step tokens) (Pattern-F.Construct x ps)

pub cons_pattern : (tokens : List Token) (x : Word) (ps : Vec Pattern Global) →
    pattern_view tokens (shape.Cons x ps)
    ≡ plain.ConsPattern (place_view tokens x) (patterns_of (map (pattern_view tokens) ps.items))
unfolding type_view field_type_view pattern_view expr_view definition_view branch_view part_view
cons_pattern tokens x ps =
    ap (pattern_view tokens) (sym (shape.rolls-Cons x ps))
    ∙ fold-roll-Pattern plain.Pattern (pattern_step tokens) (Pattern-F.Cons x ps)

pub list_pattern : (tokens : List Token) (x : Word) (ps : Vec Pattern Global) →
    pattern_view tokens (shape.List x ps)
    ≡ plain.ListPattern (place_view tokens x) (patterns_of (map (pattern_view tokens) ps.items))
unfolding type_view field_type_view pattern_view expr_view definition_view branch_view part_view
list_pattern tokens x ps =
    ap (pattern_view tokens) (sym (shape.rolls-List x ps))
    ∙ fold-roll-Pattern plain.Pattern (pattern_step tokens) (Pattern-F.List x ps)

pub tuple_pattern : (tokens : List Token) (x : Word) (ps : Vec Pattern Global) →
    pattern_view tokens (shape.Tuple x ps)
    ≡ plain.TuplePattern (place_view tokens x) (patterns_of (map (pattern_view tokens) ps.items))
unfolding type_view field_type_view pattern_view expr_view definition_view branch_view part_view
tuple_pattern tokens x ps =
    ap (pattern_view tokens) (sym (shape.rolls-Tuple x ps))
    ∙ fold-roll-Pattern plain.Pattern (pattern_step tokens) (Pattern-F.Tuple x ps)

pub fields_pattern : (tokens : List Token) (first : Word) (xs : Vec Word Global) →
    pattern_view tokens (shape.Fields first xs)
    ≡ plain.FieldsPattern (place_view tokens first) (words_view tokens xs.items)
unfolding type_view field_type_view pattern_view expr_view definition_view branch_view part_view
fields_pattern tokens first xs =
    ap (pattern_view tokens) (sym (shape.rolls-Fields first xs))
    ∙ fold-roll-Pattern plain.Pattern (pattern_step tokens) (Pattern-F.Fields first xs)

pub as_pattern : (tokens : List Token) (first : Word) (p : Box Pattern Global) (x : Word) →
    pattern_view tokens (shape.As first p x)
    ≡ plain.As (place_view tokens first) (pattern_view tokens p.value) (word_view tokens x)
unfolding type_view field_type_view pattern_view expr_view definition_view branch_view part_view
as_pattern tokens first p x =
    ap (pattern_view tokens) (sym (shape.rolls-As first p x))
    ∙ fold-roll-Pattern plain.Pattern (pattern_step tokens) (Pattern-F.As first p x)

pub word_expr : (tokens : List Token) (x : Word) →
    expr_view tokens (expr.OneWord x)
    ≡ expr_of (token_view tokens x)
unfolding type_view field_type_view pattern_view expr_view definition_view branch_view part_view
word_expr tokens x =
    ap (expr_view tokens) (sym (expr.rolls-OneWord x))
    ∙ fold-roll-Expr plain.Definition plain.Expr BranchView WordExpr (definition_step tokens) (expr_step tokens)
    (branch_step tokens) (part_step tokens) (Expr-F.OneWord x)

pub negative_expr : (tokens : List Token) (sign : Word) (e : Box Expr Global) →
    expr_view tokens (expr.Negative sign e)
    ≡ plain.Negate (place_view tokens sign) (expr_view tokens e.value)
unfolding type_view field_type_view pattern_view expr_view definition_view branch_view part_view
negative_expr tokens sign e =
    ap (expr_view tokens) (sym (expr.rolls-Negative sign e))
    ∙ fold-roll-Expr plain.Definition plain.Expr BranchView WordExpr (definition_step tokens) (expr_step tokens)
    (branch_step tokens) (part_step tokens) (Expr-F.Negative sign e)

pub apply_expr : (tokens : List Token) (f : Box Expr Global) (es : Vec Expr Global) →
    expr_view tokens (expr.Apply f es)
    ≡ plain.Apply (expr_view tokens f.value) (exprs_of (map (expr_view tokens) es.items))
unfolding type_view field_type_view pattern_view expr_view definition_view branch_view part_view
apply_expr tokens f es =
    ap (expr_view tokens) (sym (expr.rolls-Apply f es))
    ∙ fold-roll-Expr plain.Definition plain.Expr BranchView WordExpr (definition_step tokens) (expr_step tokens)
    (branch_step tokens) (part_step tokens) (Expr-F.Apply f es)

pub chain_expr : (tokens : List Token) (e : Box Expr Global) (ps : Vec Part Global) →
    expr_view tokens (expr.Chain e ps)
    ≡ plain.Chain (expr_view tokens e.value) (parts_of (map (part_view tokens) ps.items))
unfolding type_view field_type_view pattern_view expr_view definition_view branch_view part_view
chain_expr tokens e ps =
    ap (expr_view tokens) (sym (expr.rolls-Chain e ps))
    ∙ fold-roll-Expr plain.Definition plain.Expr BranchView WordExpr (definition_step tokens) (expr_step tokens)
    (branch_step tokens) (part_step tokens) (Expr-F.Chain e ps)

pub list_expr : (tokens : List Token) (first : Word) (es : Vec Expr Global) →
    expr_view tokens (expr.List first es)
    ≡ plain.ListOf (place_view tokens first) (exprs_of (map (expr_view tokens) es.items))
unfolding type_view field_type_view pattern_view expr_view definition_view branch_view part_view
list_expr tokens first es =
    ap (expr_view tokens) (sym (expr.rolls-List first es))
    ∙ fold-roll-Expr plain.Definition plain.Expr BranchView WordExpr (definition_step tokens) (expr_step tokens)
    (branch_step tokens) (part_step tokens) (Expr-F.List first es)

pub tuple_expr : (tokens : List Token) (first : Word) (es : Vec Expr Global) →
    expr_view tokens (expr.Tuple first es)
    ≡ plain.TupleOf (place_view tokens first) (exprs_of (map (expr_view tokens) es.items))
unfolding type_view field_type_view pattern_view expr_view definition_view branch_view part_view
tuple_expr tokens first es =
    ap (expr_view tokens) (sym (expr.rolls-Tuple first es))
    ∙ fold-roll-Expr plain.Definition plain.Expr BranchView WordExpr (definition_step tokens) (expr_step tokens)
    (branch_step tokens) (part_step tokens) (Expr-F.Tuple first es)

pub record_of_expr : (tokens : List Token) (first : Word) (base : Option Word) (fs : Vec Part Global) →
    expr_view tokens (expr.Record first base fs)
    ≡ record_expr tokens first base (map (part_view tokens) fs.items)
unfolding type_view field_type_view pattern_view expr_view definition_view branch_view part_view
record_of_expr tokens first base fs =
    ap (expr_view tokens) (sym (expr.rolls-Record first base fs))
    ∙ fold-roll-Expr plain.Definition plain.Expr BranchView WordExpr (definition_step tokens) (expr_step tokens)
    (branch_step tokens) (part_step tokens) (Expr-F.Record first base fs)

pub access_expr : (tokens : List Token) (first : Word) (e : Box Expr Global) (xs : Vec Word Global) →
    expr_view tokens (expr.Access first e xs)
    ≡ plain.Access (place_view tokens first) (expr_view tokens e.value) (fields_view tokens xs.items)
unfolding type_view field_type_view pattern_view expr_view definition_view branch_view part_view
access_expr tokens first e xs =
    ap (expr_view tokens) (sym (expr.rolls-Access first e xs))
    ∙ fold-roll-Expr plain.Definition plain.Expr BranchView WordExpr (definition_step tokens) (expr_step tokens)
    (branch_step tokens) (part_step tokens) (Expr-F.Access first e xs)

pub if_expr : (tokens : List Token) (c a b : Box Expr Global) →
    expr_view tokens (expr.If c a b)
    ≡ plain.If (expr_view tokens c.value) (expr_view tokens a.value) (expr_view tokens b.value)
unfolding type_view field_type_view pattern_view expr_view definition_view branch_view part_view
if_expr tokens c a b =
    ap (expr_view tokens) (sym (expr.rolls-If c a b))
    ∙ fold-roll-Expr plain.Definition plain.Expr BranchView WordExpr (definition_step tokens) (expr_step tokens)
    (branch_step tokens) (part_step tokens) (Expr-F.If c a b)

pub case_expr : (tokens : List Token) (first : Word) (e : Box Expr Global) (bs : Vec Branch Global) →
    expr_view tokens (expr.Case first e bs)
    ≡ plain.Case (place_view tokens first) (expr_view tokens e.value) (branches_of (map (branch_view tokens) bs.items))
unfolding type_view field_type_view pattern_view expr_view definition_view branch_view part_view
case_expr tokens first e bs =
    ap (expr_view tokens) (sym (expr.rolls-Case first e bs))
    ∙ fold-roll-Expr plain.Definition plain.Expr BranchView WordExpr (definition_step tokens) (expr_step tokens)
    (branch_step tokens) (part_step tokens) (Expr-F.Case first e bs)

pub let_expr : (tokens : List Token) (ds : Vec Definition Global) (e : Box Expr Global) →
    expr_view tokens (expr.Let ds e)
    ≡ plain.Let (definitions_of (map (definition_view tokens) ds.items)) (expr_view tokens e.value)
unfolding type_view field_type_view pattern_view expr_view definition_view branch_view part_view
let_expr tokens ds e =
    ap (expr_view tokens) (sym (expr.rolls-Let ds e))
    ∙ fold-roll-Expr plain.Definition plain.Expr BranchView WordExpr (definition_step tokens) (expr_step tokens)
    (branch_step tokens) (part_step tokens) (Expr-F.Let ds e)

pub lambda_expr : (tokens : List Token) (first : Word) (ps : Vec Pattern Global) (e : Box Expr Global) →
    expr_view tokens (expr.Lambda first ps e)
    ≡ plain.Lambda (place_view tokens first) (patterns_view tokens ps.items) (expr_view tokens e.value)
unfolding type_view field_type_view pattern_view expr_view definition_view branch_view part_view
lambda_expr tokens first ps e =
    ap (expr_view tokens) (sym (expr.rolls-Lambda first ps e))
    ∙ fold-roll-Expr plain.Definition plain.Expr BranchView WordExpr (definition_step tokens) (expr_step tokens)
    (branch_step tokens) (part_step tokens) (Expr-F.Lambda first ps e)

pub part_of : (tokens : List Token) (p : Part) → part_view tokens p ≡ (word_view tokens p.word, expr_view tokens p.value)
unfolding type_view field_type_view pattern_view expr_view definition_view branch_view part_view
part_of tokens p = fold_out-Part plain.Definition plain.Expr BranchView WordExpr (definition_step tokens) (expr_step tokens)
    (branch_step tokens) (part_step tokens) p

pub branch_of : (tokens : List Token) (b : Branch) → branch_view tokens b ≡ (pattern_view tokens b.pattern, expr_view tokens b.body)
unfolding type_view field_type_view pattern_view expr_view definition_view branch_view part_view
branch_of tokens b = fold_out-Branch plain.Definition plain.Expr BranchView WordExpr (definition_step tokens) (expr_step tokens)
    (branch_step tokens) (part_step tokens) b

pub annotate_definition : (tokens : List Token) (x : Word) (t : TypeTree) →
    definition_view tokens (definition.Annotate x t)
    ≡ plain.Annotate (word_view tokens x) (type_view tokens t)
unfolding type_view field_type_view pattern_view expr_view definition_view branch_view part_view
annotate_definition tokens x t =
    ap (definition_view tokens) (sym (definition.rolls-Annotate x t))
    ∙ fold-roll-Definition plain.Definition plain.Expr BranchView WordExpr (definition_step tokens) (expr_step tokens)
    (branch_step tokens) (part_step tokens) (Definition-F.Annotate x t)

pub define_definition : (tokens : List Token) (x : Word) (ps : Vec Pattern Global) (e : Expr) →
    definition_view tokens (definition.Define x ps e)
    ≡ plain.Define (word_view tokens x) (patterns_view tokens ps.items) (expr_view tokens e)
unfolding type_view field_type_view pattern_view expr_view definition_view branch_view part_view
define_definition tokens x ps e =
    ap (definition_view tokens) (sym (definition.rolls-Define x ps e))
    ∙ fold-roll-Definition plain.Definition plain.Expr BranchView WordExpr (definition_step tokens) (expr_step tokens)
    (branch_step tokens) (part_step tokens) (Definition-F.Define x ps e)

pub destructure_definition : (tokens : List Token) (p : Pattern) (e : Expr) →
    definition_view tokens (definition.Destructure p e)
    ≡ plain.Destructure (pattern_view tokens p) (expr_view tokens e)
unfolding type_view field_type_view pattern_view expr_view definition_view branch_view part_view
destructure_definition tokens p e =
    ap (definition_view tokens) (sym (definition.rolls-Destructure p e))
    ∙ fold-roll-Definition plain.Definition plain.Expr BranchView WordExpr (definition_step tokens) (expr_step tokens)
    (branch_step tokens) (part_step tokens) (Definition-F.Destructure p e)

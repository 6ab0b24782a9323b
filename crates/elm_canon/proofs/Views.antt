-- What each form of a tree is, by what its parts are: one step of each view.
use Rattle.std.proofs.Common.{◌≡◌, map, Option, Vec, Global, sym, ap, ◌∙◌}
use Rattle.std.specs.declared.boxed.Box.{Box}
use Rattle.std.specs.declared.sync.Arc.{Arc}
use Rattle.elm_canon.specs.Tree as plain
use Rattle.elm_base.specs.declared.position.Pos.{Pos}
use Rattle.elm_canon.specs.Names.{Name}
use Rattle.elm_canon.specs.Unions.{Union}
use Rattle.elm_canon.specs.declared.reference.Ref.{Ref}
use Rattle.elm_canon.specs.declared.unions.Alternative.{Alternative}
use Rattle.elm_canon.specs.declared.tree.Literal.{Literal}
use Rattle.elm_canon.specs.declared.tree.Connective.{Connective}
use Rattle.elm_canon.specs.Tree.{exprs_of, branches_of, groups_of, functions_of, payloads_of, payload_fields_of}
use Rattle.elm_canon.specs.View.{NamedType, function_type, record_type, annotation_step, field_type_step}
use Rattle.elm_canon.specs.View.{annotation_view, field_type_view, tuple_pattern, nil_pattern, items_before}
use Rattle.elm_canon.specs.View.{pattern_step, pattern_view, patterns_view, op_view, title_view, accessed, BranchView}
use Rattle.elm_canon.specs.View as view
use Rattle.elm_canon.specs.View.{LinkView, linked, link_step, link_view}
use Rattle.elm_canon.specs.View.{FunctionView, expr_step, branch_step, group_step, function_step, expr_view}
use Rattle.elm_canon.specs.View.{branch_view, group_view, function_view, NamedPayload, payload_step, payload_field_step}
use Rattle.elm_canon.specs.View.{payload_view, payload_field_view, types_view}
use Rattle.elm_canon.specs.declared.tree.Annotation.{Annotation}
use Rattle.elm_canon.specs.declared.tree.Annotation.TheVariants as annotation
use Rattle.elm_canon.specs.declared.tree.Annotation.TheOpen.{Annotation-F}
use Rattle.elm_canon.specs.declared.tree.Annotation.TheFolds.{fold-roll-Annotation, fold_out-FieldType}
use Rattle.elm_canon.specs.declared.tree.FieldType.{FieldType}
use Rattle.elm_canon.specs.declared.tree.Pattern.{Pattern}
use Rattle.elm_canon.specs.declared.tree.Pattern.TheVariants as pattern
use Rattle.elm_canon.specs.declared.tree.Pattern.TheOpen.{Pattern-F}
use Rattle.elm_canon.specs.declared.tree.Pattern.TheFolds.{fold-roll-Pattern}
use Rattle.elm_canon.specs.declared.tree.Op.{Op}
use Rattle.elm_canon.specs.declared.tree.Title.{Title}
use Rattle.elm_canon.specs.declared.tree.Expr.{Expr}
use Rattle.elm_canon.specs.declared.tree.Expr.TheVariants as expr
use Rattle.elm_canon.specs.declared.tree.Expr.TheOpen.{Expr-F, Link-F, Group-F}
use Rattle.elm_canon.specs.declared.tree.Expr.TheFolds.{fold-roll-Expr, fold-roll-Link, fold-roll-Group, fold_out-Branch}
use Rattle.elm_canon.specs.declared.tree.Expr.TheFolds.{fold_out-Function}
use Rattle.elm_canon.specs.declared.tree.Link.{Link}
use Rattle.elm_canon.specs.declared.tree.Link.TheVariants as link
use Rattle.elm_canon.specs.declared.tree.Group.{Group}
use Rattle.elm_canon.specs.declared.tree.Group.TheVariants as group
use Rattle.elm_canon.specs.declared.tree.Branch.{Branch}
use Rattle.elm_canon.specs.declared.tree.Function.{Function}
use Rattle.elm_canon.specs.declared.tree.Payload.{Payload}
use Rattle.elm_canon.specs.declared.tree.Payload.TheVariants as payload
use Rattle.elm_canon.specs.declared.tree.Payload.TheOpen.{Payload-F}
use Rattle.elm_canon.specs.declared.tree.Payload.TheFolds.{fold-roll-Payload, fold_out-PayloadField}
use Rattle.elm_canon.specs.declared.tree.PayloadField.{PayloadField}

pub variable_type : (x : Name) →
    annotation_view (annotation.Variable x) ≡ plain.Variable x
unfolding annotation_view field_type_view pattern_view expr_view link_view branch_view group_view function_view payload_view payload_field_view
variable_type x =
    ap annotation_view (sym (annotation.rolls-Variable x))
    ∙ fold-roll-Annotation plain.Annotation NamedType annotation_step field_type_step (Annotation-F.Variable x)

pub named_type : (m x : Name) (ts : Vec Annotation Global) →
    annotation_view (annotation.Named m x ts) ≡ plain.NamedType m x (types_view ts.items)
unfolding annotation_view field_type_view pattern_view expr_view link_view branch_view group_view function_view payload_view payload_field_view
named_type m x ts =
    ap annotation_view (sym (annotation.rolls-Named m x ts))
    ∙ fold-roll-Annotation plain.Annotation NamedType annotation_step field_type_step (Annotation-F.Named m x ts)

pub type_of_function : (ts : Vec Annotation Global) →
    annotation_view (annotation.Function ts) ≡ function_type (map annotation_view ts.items)
unfolding annotation_view field_type_view pattern_view expr_view link_view branch_view group_view function_view payload_view payload_field_view
type_of_function ts =
    ap annotation_view (sym (annotation.rolls-Function ts))
    ∙ fold-roll-Annotation plain.Annotation NamedType annotation_step field_type_step (Annotation-F.Function ts)

pub tuple_type : (ts : Vec Annotation Global) →
    annotation_view (annotation.Tuple ts) ≡ plain.TupleType (types_view ts.items)
unfolding annotation_view field_type_view pattern_view expr_view link_view branch_view group_view function_view payload_view payload_field_view
tuple_type ts =
    ap annotation_view (sym (annotation.rolls-Tuple ts))
    ∙ fold-roll-Annotation plain.Annotation NamedType annotation_step field_type_step (Annotation-F.Tuple ts)

pub type_of_record : (base : Option Name) (fs : Vec FieldType Global) →
    annotation_view (annotation.Record base fs) ≡ record_type base (map field_type_view fs.items)
unfolding annotation_view field_type_view pattern_view expr_view link_view branch_view group_view function_view payload_view payload_field_view
type_of_record base fs =
    ap annotation_view (sym (annotation.rolls-Record base fs))
    ∙ fold-roll-Annotation plain.Annotation NamedType annotation_step field_type_step (Annotation-F.Record base fs)

pub shared_type : (t : Arc Annotation Global) →
    annotation_view (annotation.Shared t) ≡ annotation_view t.value
unfolding annotation_view field_type_view pattern_view expr_view link_view branch_view group_view function_view payload_view payload_field_view
shared_type t =
    ap annotation_view (sym (annotation.rolls-Shared t))
    ∙ fold-roll-Annotation plain.Annotation NamedType annotation_step field_type_step (Annotation-F.Shared t)

pub field_type : (f : FieldType) → field_type_view f ≡ (f.name, annotation_view f.field_type)
unfolding annotation_view field_type_view pattern_view expr_view link_view branch_view group_view function_view payload_view payload_field_view
field_type f = fold_out-FieldType plain.Annotation NamedType annotation_step field_type_step f

pub anything_pattern : pattern_view pattern.Anything ≡ plain.Anything
unfolding annotation_view field_type_view pattern_view expr_view link_view branch_view group_view function_view payload_view payload_field_view
anything_pattern =
    ap pattern_view (sym pattern.rolls-Anything)
    ∙ fold-roll-Pattern plain.Pattern pattern_step Pattern-F.Anything

pub named_pattern : (x : Name) →
    pattern_view (pattern.Named x) ≡ plain.Named x
unfolding annotation_view field_type_view pattern_view expr_view link_view branch_view group_view function_view payload_view payload_field_view
named_pattern x =
    ap pattern_view (sym (pattern.rolls-Named x))
    ∙ fold-roll-Pattern plain.Pattern pattern_step (Pattern-F.Named x)

pub as_pattern : (p : Box Pattern Global) (x : Name) →
    pattern_view (pattern.As p x) ≡ plain.As (pattern_view p.value) x
unfolding annotation_view field_type_view pattern_view expr_view link_view branch_view group_view function_view payload_view payload_field_view
as_pattern p x =
    ap pattern_view (sym (pattern.rolls-As p x))
    ∙ fold-roll-Pattern plain.Pattern pattern_step (Pattern-F.As p x)

pub exact_pattern : (l : Literal) →
    pattern_view (pattern.Exactly l) ≡ plain.Exactly l
unfolding annotation_view field_type_view pattern_view expr_view link_view branch_view group_view function_view payload_view payload_field_view
exact_pattern l =
    ap pattern_view (sym (pattern.rolls-Exactly l))
    ∙ fold-roll-Pattern plain.Pattern pattern_step (Pattern-F.Exactly l)

pub construct_pattern : (u : Union) (c : Alternative) (ps : Vec Pattern Global) →
    pattern_view (pattern.Construct u c ps) ≡ plain.Construct u c (patterns_view ps.items)
unfolding annotation_view field_type_view pattern_view expr_view link_view branch_view group_view function_view payload_view payload_field_view
construct_pattern u c ps =
    ap pattern_view (sym (pattern.rolls-Construct u c ps))
    ∙ fold-roll-Pattern plain.Pattern pattern_step (Pattern-F.Construct u c ps)

pub pattern_of_tuple : (ps : Vec Pattern Global) →
    pattern_view (pattern.Tuple ps) ≡ tuple_pattern (map pattern_view ps.items)
unfolding annotation_view field_type_view pattern_view expr_view link_view branch_view group_view function_view payload_view payload_field_view
pattern_of_tuple ps =
    ap pattern_view (sym (pattern.rolls-Tuple ps))
    ∙ fold-roll-Pattern plain.Pattern pattern_step (Pattern-F.Tuple ps)

pub list_pattern : (ps : Vec Pattern Global) →
    pattern_view (pattern.List ps) ≡ items_before nil_pattern (map pattern_view ps.items)
unfolding annotation_view field_type_view pattern_view expr_view link_view branch_view group_view function_view payload_view payload_field_view
list_pattern ps =
    ap pattern_view (sym (pattern.rolls-List ps))
    ∙ fold-roll-Pattern plain.Pattern pattern_step (Pattern-F.List ps)

pub items_pattern : (ps : Vec Pattern Global) (rest : Box Pattern Global) →
    pattern_view (pattern.Items ps rest) ≡ items_before (pattern_view rest.value) (map pattern_view ps.items)
unfolding annotation_view field_type_view pattern_view expr_view link_view branch_view group_view function_view payload_view payload_field_view
items_pattern ps rest =
    ap pattern_view (sym (pattern.rolls-Items ps rest))
    ∙ fold-roll-Pattern plain.Pattern pattern_step (Pattern-F.Items ps rest)

pub fields_pattern : (xs : Vec Name Global) →
    pattern_view (pattern.Fields xs) ≡ plain.FieldsOf xs.items
unfolding annotation_view field_type_view pattern_view expr_view link_view branch_view group_view function_view payload_view payload_field_view
fields_pattern xs =
    ap pattern_view (sym (pattern.rolls-Fields xs))
    ∙ fold-roll-Pattern plain.Pattern pattern_step (Pattern-F.Fields xs)

pub located_pattern : (place : Pos) (p : Box Pattern Global) →
    pattern_view (pattern.Located place p) ≡ plain.LocatedPattern place (pattern_view p.value)
unfolding annotation_view field_type_view pattern_view expr_view link_view branch_view group_view function_view payload_view payload_field_view
located_pattern place p =
    ap pattern_view (sym (pattern.rolls-Located place p))
    ∙ fold-roll-Pattern plain.Pattern pattern_step (Pattern-F.Located place p)

pub literal : (l : Literal) →
    expr_view (expr.Literal l) ≡ plain.Is l
unfolding annotation_view field_type_view pattern_view expr_view link_view branch_view group_view function_view payload_view payload_field_view
literal l =
    ap expr_view (sym (expr.rolls-Literal l))
    ∙ fold-roll-Expr plain.Expr plain.Group LinkView BranchView FunctionView expr_step group_step link_step branch_step function_step (Expr-F.Literal l)

pub name : (x : Ref) →
    expr_view (expr.Name x) ≡ plain.NameOf x
unfolding annotation_view field_type_view pattern_view expr_view link_view branch_view group_view function_view payload_view payload_field_view
name x =
    ap expr_view (sym (expr.rolls-Name x))
    ∙ fold-roll-Expr plain.Expr plain.Group LinkView BranchView FunctionView expr_step group_step link_step branch_step function_step (Expr-F.Name x)

pub accessor : (x : Name) →
    expr_view (expr.Accessor x) ≡ plain.Accessor x
unfolding annotation_view field_type_view pattern_view expr_view link_view branch_view group_view function_view payload_view payload_field_view
accessor x =
    ap expr_view (sym (expr.rolls-Accessor x))
    ∙ fold-roll-Expr plain.Expr plain.Group LinkView BranchView FunctionView expr_step group_step link_step branch_step function_step (Expr-F.Accessor x)

pub lambda : (ps : Vec Pattern Global) (e : Box Expr Global) →
    expr_view (expr.Lambda ps e) ≡ plain.Lambda (patterns_view ps.items) (expr_view e.value)
unfolding annotation_view field_type_view pattern_view expr_view link_view branch_view group_view function_view payload_view payload_field_view
lambda ps e =
    ap expr_view (sym (expr.rolls-Lambda ps e))
    ∙ fold-roll-Expr plain.Expr plain.Group LinkView BranchView FunctionView expr_step group_step link_step branch_step function_step (Expr-F.Lambda ps e)

pub apply : (f : Box Expr Global) (es : Vec Expr Global) →
    expr_view (expr.Apply f es) ≡ plain.Apply (expr_view f.value) (exprs_of (map expr_view es.items))
unfolding annotation_view field_type_view pattern_view expr_view link_view branch_view group_view function_view payload_view payload_field_view
apply f es =
    ap expr_view (sym (expr.rolls-Apply f es))
    ∙ fold-roll-Expr plain.Expr plain.Group LinkView BranchView FunctionView expr_step group_step link_step branch_step function_step (Expr-F.Apply f es)

pub strict : (o : Op) (es : Vec Expr Global) →
    expr_view (expr.Strict o es) ≡ plain.Strict (op_view o) (exprs_of (map expr_view es.items))
unfolding annotation_view field_type_view pattern_view expr_view link_view branch_view group_view function_view payload_view payload_field_view
strict o es =
    ap expr_view (sym (expr.rolls-Strict o es))
    ∙ fold-roll-Expr plain.Expr plain.Group LinkView BranchView FunctionView expr_step group_step link_step branch_step function_step (Expr-F.Strict o es)

pub access : (e : Box Expr Global) (xs : Vec Name Global) →
    expr_view (expr.Access e xs) ≡ accessed (expr_view e.value) xs.items
unfolding annotation_view field_type_view pattern_view expr_view link_view branch_view group_view function_view payload_view payload_field_view
access e xs =
    ap expr_view (sym (expr.rolls-Access e xs))
    ∙ fold-roll-Expr plain.Expr plain.Group LinkView BranchView FunctionView expr_step group_step link_step branch_step function_step (Expr-F.Access e xs)

pub conditional : (c : Box Expr Global) (a : Box Expr Global) (b : Box Expr Global) →
    expr_view (expr.If c a b) ≡ plain.If (expr_view c.value) (expr_view a.value) (expr_view b.value)
unfolding annotation_view field_type_view pattern_view expr_view link_view branch_view group_view function_view payload_view payload_field_view
conditional c a b =
    ap expr_view (sym (expr.rolls-If c a b))
    ∙ fold-roll-Expr plain.Expr plain.Group LinkView BranchView FunctionView expr_step group_step link_step branch_step function_step (Expr-F.If c a b)

pub chain : (e : Box Expr Global) (ls : Vec Link Global) →
    expr_view (expr.Chain e ls) ≡ linked (expr_view e.value) (map link_view ls.items)
unfolding annotation_view field_type_view pattern_view expr_view link_view branch_view group_view function_view payload_view payload_field_view
chain e ls =
    ap expr_view (sym (expr.rolls-Chain e ls))
    ∙ fold-roll-Expr plain.Expr plain.Group LinkView BranchView FunctionView expr_step group_step link_step branch_step function_step (Expr-F.Chain e ls)

pub given : (f : Box Expr Global) (es : Vec Expr Global) →
    link_view (link.Given f es) ≡ view.Given (expr_view f.value) (map expr_view es.items)
unfolding annotation_view field_type_view pattern_view expr_view link_view branch_view group_view function_view payload_view payload_field_view
given f es =
    ap link_view (sym (link.rolls-Given f es))
    ∙ fold-roll-Link plain.Expr plain.Group LinkView BranchView FunctionView expr_step group_step link_step branch_step function_step (Link-F.Given f es)

pub composed : (f a : Box Expr Global) →
    link_view (link.Composed f a) ≡ view.Composed (expr_view f.value) (expr_view a.value)
unfolding annotation_view field_type_view pattern_view expr_view link_view branch_view group_view function_view payload_view payload_field_view
composed f a =
    ap link_view (sym (link.rolls-Composed f a))
    ∙ fold-roll-Link plain.Expr plain.Group LinkView BranchView FunctionView expr_step group_step link_step branch_step function_step (Link-F.Composed f a)

pub part_after : (o : Op) (es : Vec Expr Global) →
    link_view (link.After o es) ≡ view.After (op_view o) (map expr_view es.items)
unfolding annotation_view field_type_view pattern_view expr_view link_view branch_view group_view function_view payload_view payload_field_view
part_after o es =
    ap link_view (sym (link.rolls-After o es))
    ∙ fold-roll-Link plain.Expr plain.Group LinkView BranchView FunctionView expr_step group_step link_step branch_step function_step (Link-F.After o es)

pub part_before : (o : Op) (a : Box Expr Global) →
    link_view (link.Before o a) ≡ view.Before (op_view o) (expr_view a.value)
unfolding annotation_view field_type_view pattern_view expr_view link_view branch_view group_view function_view payload_view payload_field_view
part_before o a =
    ap link_view (sym (link.rolls-Before o a))
    ∙ fold-roll-Link plain.Expr plain.Group LinkView BranchView FunctionView expr_step group_step link_step branch_step function_step (Link-F.Before o a)

pub decided : (place : Pos) (c : Connective) (a : Box Expr Global) →
    link_view (link.Decided place c a) ≡ view.Decided place c (expr_view a.value)
unfolding annotation_view field_type_view pattern_view expr_view link_view branch_view group_view function_view payload_view payload_field_view
decided place c a =
    ap link_view (sym (link.rolls-Decided place c a))
    ∙ fold-roll-Link plain.Expr plain.Group LinkView BranchView FunctionView expr_step group_step link_step branch_step function_step (Link-F.Decided place c a)

pub let_in : (gs : Vec Group Global) (e : Box Expr Global) →
    expr_view (expr.Let gs e) ≡ plain.Let (groups_of (map group_view gs.items)) (expr_view e.value)
unfolding annotation_view field_type_view pattern_view expr_view link_view branch_view group_view function_view payload_view payload_field_view
let_in gs e =
    ap expr_view (sym (expr.rolls-Let gs e))
    ∙ fold-roll-Expr plain.Expr plain.Group LinkView BranchView FunctionView expr_step group_step link_step branch_step function_step (Expr-F.Let gs e)

pub case_of : (e : Box Expr Global) (bs : Vec Branch Global) →
    expr_view (expr.Case e bs) ≡ plain.Case (expr_view e.value) (branches_of (map branch_view bs.items))
unfolding annotation_view field_type_view pattern_view expr_view link_view branch_view group_view function_view payload_view payload_field_view
case_of e bs =
    ap expr_view (sym (expr.rolls-Case e bs))
    ∙ fold-roll-Expr plain.Expr plain.Group LinkView BranchView FunctionView expr_step group_step link_step branch_step function_step (Expr-F.Case e bs)

pub located : (place : Pos) (e : Box Expr Global) →
    expr_view (expr.Located place e) ≡ plain.Located place (expr_view e.value)
unfolding annotation_view field_type_view pattern_view expr_view link_view branch_view group_view function_view payload_view payload_field_view
located place e =
    ap expr_view (sym (expr.rolls-Located place e))
    ∙ fold-roll-Expr plain.Expr plain.Group LinkView BranchView FunctionView expr_step group_step link_step branch_step function_step (Expr-F.Located place e)

pub together : (fs : Vec Function Global) →
    group_view (group.Together fs) ≡ plain.Together (functions_of (map function_view fs.items))
unfolding annotation_view field_type_view pattern_view expr_view link_view branch_view group_view function_view payload_view payload_field_view
together fs =
    ap group_view (sym (group.rolls-Together fs))
    ∙ fold-roll-Group plain.Expr plain.Group LinkView BranchView FunctionView expr_step group_step link_step branch_step function_step (Group-F.Together fs)

pub constant : (t : Title) (e : Box Expr Global) →
    group_view (group.Constant t e) ≡ plain.Constant (title_view t) (expr_view e.value)
unfolding annotation_view field_type_view pattern_view expr_view link_view branch_view group_view function_view payload_view payload_field_view
constant t e =
    ap group_view (sym (group.rolls-Constant t e))
    ∙ fold-roll-Group plain.Expr plain.Group LinkView BranchView FunctionView expr_step group_step link_step branch_step function_step (Group-F.Constant t e)

pub destructure : (p : Pattern) (e : Box Expr Global) →
    group_view (group.Destructure p e) ≡ plain.Destructure (pattern_view p) (expr_view e.value)
unfolding annotation_view field_type_view pattern_view expr_view link_view branch_view group_view function_view payload_view payload_field_view
destructure p e =
    ap group_view (sym (group.rolls-Destructure p e))
    ∙ fold-roll-Group plain.Expr plain.Group LinkView BranchView FunctionView expr_step group_step link_step branch_step function_step (Group-F.Destructure p e)

pub branch : (b : Branch) → branch_view b ≡ (pattern_view b.pattern, expr_view b.body.value)
unfolding annotation_view field_type_view pattern_view expr_view link_view branch_view group_view function_view payload_view payload_field_view
branch b = fold_out-Branch plain.Expr plain.Group LinkView BranchView FunctionView expr_step group_step link_step branch_step function_step b

pub function : (f : Function) →
    function_view f ≡ (title_view f.title, patterns_view f.parameters.items, expr_view f.body.value)
unfolding annotation_view field_type_view pattern_view expr_view link_view branch_view group_view function_view payload_view payload_field_view
function f = fold_out-Function plain.Expr plain.Group LinkView BranchView FunctionView expr_step group_step link_step branch_step function_step f

pub int_payload : payload_view payload.Int ≡ plain.IntPayload
unfolding annotation_view field_type_view pattern_view expr_view link_view branch_view group_view function_view payload_view payload_field_view
int_payload =
    ap payload_view (sym payload.rolls-Int)
    ∙ fold-roll-Payload plain.Payload NamedPayload payload_step payload_field_step Payload-F.Int

pub bool_payload : payload_view payload.Bool ≡ plain.BoolPayload
unfolding annotation_view field_type_view pattern_view expr_view link_view branch_view group_view function_view payload_view payload_field_view
bool_payload =
    ap payload_view (sym payload.rolls-Bool)
    ∙ fold-roll-Payload plain.Payload NamedPayload payload_step payload_field_step Payload-F.Bool

pub text_payload : payload_view payload.Text ≡ plain.TextPayload
unfolding annotation_view field_type_view pattern_view expr_view link_view branch_view group_view function_view payload_view payload_field_view
text_payload =
    ap payload_view (sym payload.rolls-Text)
    ∙ fold-roll-Payload plain.Payload NamedPayload payload_step payload_field_step Payload-F.Text

pub maybe_payload : (p : Box Payload Global) →
    payload_view (payload.Maybe p) ≡ plain.MaybePayload (payload_view p.value)
unfolding annotation_view field_type_view pattern_view expr_view link_view branch_view group_view function_view payload_view payload_field_view
maybe_payload p =
    ap payload_view (sym (payload.rolls-Maybe p))
    ∙ fold-roll-Payload plain.Payload NamedPayload payload_step payload_field_step (Payload-F.Maybe p)

pub list_payload : (p : Box Payload Global) →
    payload_view (payload.List p) ≡ plain.ListPayload (payload_view p.value)
unfolding annotation_view field_type_view pattern_view expr_view link_view branch_view group_view function_view payload_view payload_field_view
list_payload p =
    ap payload_view (sym (payload.rolls-List p))
    ∙ fold-roll-Payload plain.Payload NamedPayload payload_step payload_field_step (Payload-F.List p)

pub tuple_payload : (ps : Vec Payload Global) →
    payload_view (payload.Tuple ps) ≡ plain.TuplePayload (payloads_of (map payload_view ps.items))
unfolding annotation_view field_type_view pattern_view expr_view link_view branch_view group_view function_view payload_view payload_field_view
tuple_payload ps =
    ap payload_view (sym (payload.rolls-Tuple ps))
    ∙ fold-roll-Payload plain.Payload NamedPayload payload_step payload_field_step (Payload-F.Tuple ps)

pub record_payload : (fs : Vec PayloadField Global) →
    payload_view (payload.Record fs) ≡ plain.RecordPayload (payload_fields_of (map payload_field_view fs.items))
unfolding annotation_view field_type_view pattern_view expr_view link_view branch_view group_view function_view payload_view payload_field_view
record_payload fs =
    ap payload_view (sym (payload.rolls-Record fs))
    ∙ fold-roll-Payload plain.Payload NamedPayload payload_step payload_field_step (Payload-F.Record fs)

pub payload_field : (f : PayloadField) → payload_field_view f ≡ (f.name, payload_view f.value)
unfolding annotation_view field_type_view pattern_view expr_view link_view branch_view group_view function_view payload_view payload_field_view
payload_field f = fold_out-PayloadField plain.Payload NamedPayload payload_step payload_field_step f

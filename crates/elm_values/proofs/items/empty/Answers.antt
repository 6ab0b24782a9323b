-- An empty list comes first in its column (`seen_empty`).
use Rattle.std.proofs.Common.{ap, sym, ◌∙◌}
use Rattle.std.proofs.lemmas.Result.{on_ok_weaker}
use Rattle.elm_tree.specs.View.{branch_view, constructor_view, definition_view, exposed_view, expr_view, field_type_view}
use Rattle.elm_tree.specs.View.{part_view, token_view, type_view}
use Rattle.elm_grammar.specs.declared.action.Action.TheVariants.{Empty}
use Rattle.elm_grammar.specs.declared.action.Item.TheVariants as item
use Rattle.elm_grammar.specs.Values.{act, gives, takes}
use Rattle.elm_values.specs.Stack.{apply, begun_view, columns, push}
use Rattle.elm_values.proofs.Columns.{seen_empty}
use Rattle.elm_values.proofs.items.empty.Goals as goal

pub returns-in-Word : goal.returns-in-Word
unfolding takes gives act columns push
returns-in-Word c =
    on_ok_weaker c.put_empty.result
    (λ h tokens.
    ap (λ z. record (columns tokens c.stacks.inside.held) { word_lists = z })
    (seen_empty (token_view tokens) c.stacks.inside.held.word_lists.items c.put_empty.new.lists.items h) ∙
    (ap (λ z. apply tokens (Empty item.Word) (columns tokens z)) c.stacks.view_is ∙
    ap (λ z. apply tokens (Empty z) (columns tokens c.args.stacks.now)) (sym c.in-Word.is)))
    c.put_empty.ensures

pub returns-in-Exposed : goal.returns-in-Exposed
unfolding takes gives act columns push
returns-in-Exposed c =
    on_ok_weaker c.put_empty-in-Exposed.result
    (λ h tokens.
    ap (λ z. record (columns tokens c.stacks.inside.held) { exposed_lists = z })
    (seen_empty (exposed_view tokens) c.stacks.inside.held.exposed_lists.items c.put_empty-in-Exposed.new.lists.items h) ∙
    (ap (λ z. apply tokens (Empty item.Exposed) (columns tokens z)) c.stacks.view_is ∙
    ap (λ z. apply tokens (Empty z) (columns tokens c.args.stacks.now)) (sym c.in-Exposed.is)))
    c.put_empty-in-Exposed.ensures

pub returns-in-Constructor : goal.returns-in-Constructor
unfolding takes gives act columns push
returns-in-Constructor c =
    on_ok_weaker c.put_empty-in-Constructor.result
    (λ h tokens.
    ap (λ z. record (columns tokens c.stacks.inside.held) { constructor_lists = z })
    (seen_empty (constructor_view tokens) c.stacks.inside.held.constructor_lists.items c.put_empty-in-Constructor.new.lists.items h) ∙
    (ap (λ z. apply tokens (Empty item.Constructor) (columns tokens z)) c.stacks.view_is ∙
    ap (λ z. apply tokens (Empty z) (columns tokens c.args.stacks.now)) (sym c.in-Constructor.is)))
    c.put_empty-in-Constructor.ensures

pub returns-in-TypeTree : goal.returns-in-TypeTree
unfolding takes gives act columns push
returns-in-TypeTree c =
    on_ok_weaker c.put_empty-in-TypeTree.result
    (λ h tokens.
    ap (λ z. record (columns tokens c.stacks.inside.held) { type_lists = z })
    (seen_empty (type_view tokens) c.stacks.inside.held.type_lists.items c.put_empty-in-TypeTree.new.lists.items h) ∙
    (ap (λ z. apply tokens (Empty item.TypeTree) (columns tokens z)) c.stacks.view_is ∙
    ap (λ z. apply tokens (Empty z) (columns tokens c.args.stacks.now)) (sym c.in-TypeTree.is)))
    c.put_empty-in-TypeTree.ensures

pub returns-in-FieldType : goal.returns-in-FieldType
unfolding takes gives act columns push
returns-in-FieldType c =
    on_ok_weaker c.put_empty-in-FieldType.result
    (λ h tokens.
    ap (λ z. record (columns tokens c.stacks.inside.held) { field_type_lists = z })
    (seen_empty (field_type_view tokens) c.stacks.inside.held.field_type_lists.items c.put_empty-in-FieldType.new.lists.items h) ∙
    (ap (λ z. apply tokens (Empty item.FieldType) (columns tokens z)) c.stacks.view_is ∙
    ap (λ z. apply tokens (Empty z) (columns tokens c.args.stacks.now)) (sym c.in-FieldType.is)))
    c.put_empty-in-FieldType.ensures

pub returns-in-Pattern : goal.returns-in-Pattern
unfolding takes gives act columns push
returns-in-Pattern c =
    on_ok_weaker c.put_empty-in-Pattern.result
    (λ h tokens.
    ap (λ z. record (columns tokens c.stacks.inside.held) { pattern_lists = z })
    (seen_empty (begun_view tokens) c.stacks.inside.held.pattern_lists.items c.put_empty-in-Pattern.new.lists.items h) ∙
    (ap (λ z. apply tokens (Empty item.Pattern) (columns tokens z)) c.stacks.view_is ∙
    ap (λ z. apply tokens (Empty z) (columns tokens c.args.stacks.now)) (sym c.in-Pattern.is)))
    c.put_empty-in-Pattern.ensures

pub returns-in-Expr : goal.returns-in-Expr
unfolding takes gives act columns push
returns-in-Expr c =
    on_ok_weaker c.put_empty-in-Expr.result
    (λ h tokens.
    ap (λ z. record (columns tokens c.stacks.inside.held) { expr_lists = z })
    (seen_empty (expr_view tokens) c.stacks.inside.held.expr_lists.items c.put_empty-in-Expr.new.lists.items h) ∙
    (ap (λ z. apply tokens (Empty item.Expr) (columns tokens z)) c.stacks.view_is ∙
    ap (λ z. apply tokens (Empty z) (columns tokens c.args.stacks.now)) (sym c.in-Expr.is)))
    c.put_empty-in-Expr.ensures

pub returns-in-Part : goal.returns-in-Part
unfolding takes gives act columns push
returns-in-Part c =
    on_ok_weaker c.put_empty-in-Part.result
    (λ h tokens.
    ap (λ z. record (columns tokens c.stacks.inside.held) { part_lists = z })
    (seen_empty (part_view tokens) c.stacks.inside.held.part_lists.items c.put_empty-in-Part.new.lists.items h) ∙
    (ap (λ z. apply tokens (Empty item.Part) (columns tokens z)) c.stacks.view_is ∙
    ap (λ z. apply tokens (Empty z) (columns tokens c.args.stacks.now)) (sym c.in-Part.is)))
    c.put_empty-in-Part.ensures

pub returns-in-Branch : goal.returns-in-Branch
unfolding takes gives act columns push
returns-in-Branch c =
    on_ok_weaker c.put_empty-in-Branch.result
    (λ h tokens.
    ap (λ z. record (columns tokens c.stacks.inside.held) { branch_lists = z })
    (seen_empty (branch_view tokens) c.stacks.inside.held.branch_lists.items c.put_empty-in-Branch.new.lists.items h) ∙
    (ap (λ z. apply tokens (Empty item.Branch) (columns tokens z)) c.stacks.view_is ∙
    ap (λ z. apply tokens (Empty z) (columns tokens c.args.stacks.now)) (sym c.in-Branch.is)))
    c.put_empty-in-Branch.ensures

pub returns-in-Definition : goal.returns-in-Definition
unfolding takes gives act columns push
returns-in-Definition c =
    on_ok_weaker c.put_empty-in-Definition.result
    (λ h tokens.
    ap (λ z. record (columns tokens c.stacks.inside.held) { definition_lists = z })
    (seen_empty (definition_view tokens) c.stacks.inside.held.definition_lists.items c.put_empty-in-Definition.new.lists.items h) ∙
    (ap (λ z. apply tokens (Empty item.Definition) (columns tokens z)) c.stacks.view_is ∙
    ap (λ z. apply tokens (Empty z) (columns tokens c.args.stacks.now)) (sym c.in-Definition.is)))
    c.put_empty-in-Definition.ensures

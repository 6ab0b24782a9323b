-- What is taken goes in front of the last list (`seen_in`).
use Rattle.std.proofs.Common.{ap, ap₂, ◌∙◌, ◌∷◌}
use Rattle.std.proofs.lemmas.Result.{on_ok_weaker}
use Rattle.elm_tree.specs.View.{field_type_view, word_view}
use Rattle.elm_grammar.specs.declared.action.Item.TheVariants as item
use Rattle.elm_grammar.specs.Values.{Many}
use Rattle.elm_values.specs.Stack.{columns, pop, push, top}
use Rattle.elm_values.proofs.Columns.{seen_in}
use Rattle.elm_values.proofs.Making.{field_type_made}
use Rattle.elm_values.proofs.types.put_field_type.Goals as goal

pub returns : goal.returns
unfolding columns push pop top
returns c =
    on_ok_weaker c.put_in.result
    (λ h tokens.
    ap (λ z. record (columns tokens c.stacks.inside.held) { field_type_lists = z })
    (seen_in (field_type_view tokens) c.stacks.inside.held.field_type_lists.items
    c.put_in.new.lists.items h (field_type_made tokens _)) ∙
    ap₂ (λ y z. push (Many item.FieldType) ((word_view tokens c.args.name, y) ∷ top tokens (Many item.FieldType) z)
    (pop (Many item.FieldType) z))
    (c.take_type-field_type.ensures.value tokens) (ap (columns tokens) c.stacks.view_is ∙ c.take_type-field_type.ensures.rest tokens))
    c.put_in.ensures

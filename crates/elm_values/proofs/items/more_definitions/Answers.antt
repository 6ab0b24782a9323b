-- What is taken goes in front of the last list (`seen_in`), and the others stay (`seen_tail`).
use Rattle.std.proofs.Common.{ap, ap₂, refl, reverse, ◌∙◌}
use Rattle.std.proofs.lemmas.Result.{on_ok_weaker}
use Rattle.elm_tree.specs.View.{definition_view}
use Rattle.elm_grammar.specs.declared.action.Action.TheVariants.{More}
use Rattle.elm_grammar.specs.declared.action.Item.TheVariants as item
use Rattle.elm_grammar.specs.Values.{takes, gives, act}
use Rattle.elm_values.specs.Stack.{apply, columns, pop, push, top}
use Rattle.elm_values.proofs.Columns.{seen_head, seen_in, seen_tail}
use Rattle.elm_values.proofs.items.more_definitions.Goals as goal

pub returns : goal.returns
unfolding takes gives act columns push pop top
returns c =
    on_ok_weaker c.grow.result
    (λ h tokens.
    ap₂ (λ y z. record (columns tokens c.stacks.inside.held) { definitions = y; definition_lists = z })
    (seen_tail (definition_view tokens) (reverse c.stacks.inside.held.definitions.items) h.0)
    (seen_in (definition_view tokens) c.stacks.inside.held.definition_lists.items c.grow.new.lists.items h.1
    (seen_head (definition_view tokens) (reverse c.stacks.inside.held.definitions.items) refl (c.no_definition.ensures tokens))) ∙
    ap (λ z. apply tokens (More item.Definition) (columns tokens z)) c.stacks.view_is)
    c.grow.ensures

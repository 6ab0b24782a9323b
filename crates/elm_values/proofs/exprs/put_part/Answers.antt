-- What is taken goes in front of the last list (`seen_in`).
use Rattle.std.proofs.Common.{ap, ap₂, ◌∙◌, ◌∷◌}
use Rattle.std.proofs.lemmas.Result.{on_ok_weaker}
use Rattle.elm_tree.specs.View.{part_view, word_view}
use Rattle.elm_grammar.specs.declared.action.Item.TheVariants as item
use Rattle.elm_grammar.specs.Values.{Many}
use Rattle.elm_values.specs.Stack.{columns, pop, push, top}
use Rattle.elm_values.proofs.Columns.{seen_in}
use Rattle.elm_values.proofs.Making.{part_made}
use Rattle.elm_values.proofs.exprs.put_part.Goals as goal

pub returns : goal.returns
unfolding columns push pop top
returns c =
    on_ok_weaker c.put_in.result
    (λ h tokens.
    ap (λ z. record (columns tokens c.stacks.inside.held) { part_lists = z })
    (seen_in (part_view tokens) c.stacks.inside.held.part_lists.items c.put_in.new.lists.items h
    (part_made tokens _)) ∙
    ap₂ (λ y z. push (Many item.Part) ((word_view tokens c.args.word, y) ∷ top tokens (Many item.Part) z)
    (pop (Many item.Part) z))
    (c.take_expr-value.ensures.value tokens) (ap (columns tokens) c.stacks.view_is ∙ c.take_expr-value.ensures.rest tokens))
    c.put_in.ensures

-- What is taken is the first of the column (`seen_head`), and the others stay (`seen_tail`).
use Rattle.std.proofs.Common.{ap, reverse, ◌∙◌}
use Rattle.elm_tree.specs.View.{header_view}
use Rattle.elm_grammar.specs.declared.action.Item.TheVariants as item
use Rattle.elm_grammar.specs.Values.{One}
use Rattle.elm_values.specs.Stack.{columns, pop, top}
use Rattle.elm_values.proofs.Columns.{seen_head, seen_tail}
use Rattle.elm_values.proofs.stack.take_header.Goals as goal

pub returns-clause-value : goal.returns-clause-value
unfolding columns top
returns-clause-value c = λ tokens.
    seen_head (header_view tokens) (reverse c.stacks.inside.held.headers.items) c.take_or.ensures.value (c.no_header.ensures tokens) ∙
    ap (λ z. top tokens (One item.Header) (columns tokens z)) c.stacks.view_is

pub returns-clause-rest : goal.returns-clause-rest
unfolding columns pop
returns-clause-rest c = λ tokens.
    ap (λ z. record (columns tokens c.stacks.inside.held) { headers = z })
    (seen_tail (header_view tokens) (reverse c.stacks.inside.held.headers.items) c.take_or.ensures.rest) ∙
    ap (λ z. pop (One item.Header) (columns tokens z)) c.stacks.view_is

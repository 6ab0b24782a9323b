-- What is taken is the first of the column (`seen_head`), and the others stay (`seen_tail`).
use Rattle.std.proofs.Common.{ap, reverse, ◌∙◌}
use Rattle.elm_grammar.specs.declared.action.Item.TheVariants as item
use Rattle.elm_grammar.specs.Values.{Many}
use Rattle.elm_values.specs.Stack.{begun_view, columns, held, pop, top}
use Rattle.elm_values.proofs.Columns.{seen_head, seen_tail}
use Rattle.elm_values.proofs.stack.take_patterns.Goals as goal

pub returns-clause-value : goal.returns-clause-value
unfolding columns top
returns-clause-value c = λ tokens.
    seen_head (λ xs. held (begun_view tokens) xs.items) (reverse c.stacks.inside.held.pattern_lists.items) c.take_or.ensures.value (ap (held (begun_view tokens)) c.new.ensures.items) ∙
    ap (λ z. top tokens (Many item.Pattern) (columns tokens z)) c.stacks.view_is

pub returns-clause-rest : goal.returns-clause-rest
unfolding columns pop
returns-clause-rest c = λ tokens.
    ap (λ z. record (columns tokens c.stacks.inside.held) { pattern_lists = z })
    (seen_tail (λ xs. held (begun_view tokens) xs.items) (reverse c.stacks.inside.held.pattern_lists.items) c.take_or.ensures.rest) ∙
    ap (λ z. pop (Many item.Pattern) (columns tokens z)) c.stacks.view_is

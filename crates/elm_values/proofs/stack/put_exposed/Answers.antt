-- The view of the new column.
use Rattle.std.proofs.Common.{ap, map, ◌∙◌}
use Rattle.std.proofs.lemmas.Result.{on_ok_weaker}
use Rattle.elm_tree.specs.View.{exposed_view}
use Rattle.elm_grammar.specs.declared.action.Item.TheVariants as item
use Rattle.elm_grammar.specs.Values.{One}
use Rattle.elm_values.specs.Stack.{columns, push}
use Rattle.elm_values.proofs.stack.put_exposed.Goals as goal

pub returns : goal.returns
unfolding columns push
returns c =
    on_ok_weaker c.put.result
    (λ h tokens.
    ap (λ z. record (columns tokens c.stacks.inside.held) { exposed = map (exposed_view tokens) z }) h ∙
    ap (λ z. push (One item.Exposed) (exposed_view tokens c.args.exposed) (columns tokens z)) c.stacks.view_is)
    c.put.ensures

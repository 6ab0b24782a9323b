-- The first of the column stays (`seen_kept`).
use Rattle.std.proofs.Common.{ap, reverse, ◌∙◌}
use Rattle.std.proofs.lemmas.Result.{on_ok_weaker}
use Rattle.elm_grammar.specs.declared.action.Action.TheVariants.{Same}
use Rattle.elm_grammar.specs.declared.action.Item.TheVariants as item
use Rattle.elm_grammar.specs.Values.{takes, gives, act}
use Rattle.elm_values.specs.Stack.{apply, built_module, columns, pop, push, top}
use Rattle.elm_values.proofs.Columns.{seen_kept}
use Rattle.elm_values.proofs.items.same_module.Goals as goal

pub returns : goal.returns
unfolding takes gives act columns push pop top
returns c =
    on_ok_weaker c.keep.result
    (λ h tokens. ap (λ z. record (columns tokens c.stacks.inside.held) { modules = z })
    (seen_kept (built_module tokens) (reverse c.stacks.inside.held.modules.items) h (c.no_module.ensures tokens)) ∙
    ap (λ z. apply tokens (Same item.Module) (columns tokens z)) c.stacks.view_is)
    c.keep.ensures

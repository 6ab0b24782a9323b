-- The value that the steps leave on top is the one that their derivation means (`runs_as`).
use Rattle.std.proofs.Common.{refl, ap, ◌∙◌}
use Rattle.elm_grammar.specs.declared.action.Item.TheVariants as item
use Rattle.elm_grammar.specs.Values.{One}
use Rattle.elm_values.specs.Stack.{top}
use Rattle.elm_values.proofs.Runs.{runs_as}
use Rattle.elm_values.proofs.build.type_of.Goals as goal

pub returns : goal.returns
returns c = λ tokens x w e m.
    c.take_type-built.ensures.value tokens ∙
    (ap (top tokens (One item.TypeTree)) (c.in_ok-stacks.ensures tokens) ∙
    runs_as tokens (One item.TypeTree) x w c.args.steps.now refl e m)

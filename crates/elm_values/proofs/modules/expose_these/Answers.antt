-- What is taken off the stacks in turn (`took`) gives way to what is made of it (`acted`).
use Rattle.std.proofs.Common.{map, refl, ap, ◌∙◌}
use Rattle.std.proofs.lemmas.Result.{on_ok_weaker}
use Rattle.elm_tree.specs.Tree.{These}
use Rattle.elm_tree.specs.View.{exposed_view, exposing_view}
use Rattle.elm_tree.specs.declared.tree.Exposing.TheVariants as exposing
use Rattle.elm_grammar.specs.declared.action.Action.TheVariants.{ExposeThese}
use Rattle.elm_grammar.specs.declared.action.Item.TheVariants as item
use Rattle.elm_grammar.specs.Values.{Many, One, act, gives, takes}
use Rattle.elm_values.specs.Stack.{columns, pop, push, top}
use Rattle.elm_values.proofs.Acting.{acted, done, took}
use Rattle.elm_values.proofs.modules.expose_these.Goals as goal

pub returns : goal.returns
unfolding takes gives act push pop top
returns c =
    on_ok_weaker c.put_exposing.result
    (λ e tokens.
    acted ExposeThese {s = columns tokens c.args.stacks.now}
    (took {s = columns tokens c.args.stacks.now} (One item.Exposed) refl refl
    (took (Many item.Exposed) refl refl
    (done tokens _)))
    (ap (λ z. These (map (exposed_view tokens) z)) c.turned-list.ensures ∙
    ap These (c.take_exposed_list.ensures.value tokens ∙
    ap (top tokens (Many item.Exposed)) (c.in_ok-more_exposed.ensures tokens))) (e tokens ∙
    ap (push (One item.Exposing) (exposing_view tokens (exposing.These c.turned-list.result)))
    (c.take_exposed_list.ensures.rest tokens ∙
    ap (pop (Many item.Exposed)) (c.in_ok-more_exposed.ensures tokens))))
    c.put_exposing.ensures

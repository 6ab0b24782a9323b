-- What is taken off the stacks in turn (`took`) gives way to what is made of it (`acted`).
use Rattle.std.proofs.Common.{refl, ap, ◌∙◌}
use Rattle.std.proofs.lemmas.Result.{on_ok_weaker}
use Rattle.elm_grammar.specs.declared.action.Action.TheVariants.{More, NegativeArgument}
use Rattle.elm_grammar.specs.declared.action.Item.TheVariants as item
use Rattle.elm_grammar.specs.Values.{Many, One, act, gives, takes}
use Rattle.elm_values.specs.Stack.{apply, columns, pop, push, top}
use Rattle.elm_values.proofs.Acting.{acted, done, took}
use Rattle.elm_values.proofs.exprs.negative_argument.Goals as goal

pub returns : goal.returns
unfolding takes gives act push pop top
returns c =
    on_ok_weaker c.more_exprs.result
    (λ e tokens.
    acted NegativeArgument
    (took {s = columns tokens c.args.stacks.now} (One item.Word) (c.take_word-minus.ensures.value tokens) (c.take_word-minus.ensures.rest tokens)
    (took (One item.Expr) refl refl (took (Many item.Expr) refl refl (done tokens _))))
    refl (e tokens ∙ ap (apply tokens (More item.Expr)) (c.in_ok-negate_last.ensures tokens)))
    c.more_exprs.ensures

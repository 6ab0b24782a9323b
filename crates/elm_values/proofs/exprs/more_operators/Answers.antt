-- What is taken off the stacks in turn (`took`) gives way to what is made of it (`acted`).
use Rattle.std.proofs.Common.{refl, ap, ◌∙◌, ◌∷◌}
use Rattle.std.proofs.lemmas.Result.{on_ok_weaker}
use Rattle.elm_tree.specs.View.{part_view, word_view}
use Rattle.elm_grammar.specs.declared.action.Action.TheVariants.{MoreOperators}
use Rattle.elm_grammar.specs.declared.action.Item.TheVariants as item
use Rattle.elm_grammar.specs.Values.{Many, One, act, gives, takes}
use Rattle.elm_values.specs.Stack.{columns, held, pop, push, top}
use Rattle.elm_values.proofs.Acting.{acted, done, took}
use Rattle.elm_values.proofs.exprs.more_operators.Goals as goal

pub returns : goal.returns
unfolding takes gives act push pop top
returns c =
    on_ok_weaker c.put_part.result
    (λ e tokens.
    acted MoreOperators
    (took {s = columns tokens c.args.stacks.now} (One item.Word) (c.take_word-operator.ensures.value tokens) (c.take_word-operator.ensures.rest tokens)
    (took (One item.Chain) (c.take_chain-first.ensures.value tokens) (c.take_chain-first.ensures.rest tokens)
    (done tokens _)))
    refl
    (e tokens ∙
    ap (λ z. push (Many item.Part)
    ((word_view tokens c.take_word-operator.result, top tokens (One item.Expr) z) ∷ top tokens (Many item.Part) z)
    (pop (Many item.Part) (pop (One item.Expr) z)))
    (c.in_ok-put_parts.ensures tokens ∙
    ap (push (Many item.Part) (held (part_view tokens) c.take_chain-first.result.parts.items))
    (c.in_ok-put_expr.ensures tokens))))
    c.put_part.ensures

-- What is taken off the stacks in turn (`took`) gives way to what is made of it (`acted`).
use Rattle.std.proofs.lemmas.Result.{on_ok_weaker}
use Rattle.elm_grammar.specs.declared.action.Action.TheVariants.{WordExpr}
use Rattle.elm_grammar.specs.declared.action.Item.TheVariants as item
use Rattle.elm_grammar.specs.Values.{One, takes, gives, act}
use Rattle.elm_tree.proofs.Views.{word_expr}
use Rattle.elm_values.proofs.Acting.{acted, done, took}
use Rattle.elm_values.proofs.exprs.word.Goals as goal

pub returns : goal.returns
unfolding takes gives act
returns c =
    on_ok_weaker c.put_expr.result
    (λ e tokens.
    acted WordExpr
    (took (One item.Word) (c.take_word-word.ensures.value tokens) (c.take_word-word.ensures.rest tokens)
    (done tokens _))
    (word_expr tokens c.take_word-word.result) (e tokens)) c.put_expr.ensures

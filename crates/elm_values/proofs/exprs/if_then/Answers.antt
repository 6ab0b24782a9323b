-- What is taken off the stacks in turn (`took`) gives way to what is made of it (`acted`).
use Rattle.std.proofs.Common.{refl}
use Rattle.std.proofs.lemmas.Result.{on_ok_weaker}
use Rattle.elm_tree.proofs.Views.{if_expr}
use Rattle.elm_grammar.specs.declared.action.Action.TheVariants.{IfOf}
use Rattle.elm_grammar.specs.declared.action.Item.TheVariants as item
use Rattle.elm_grammar.specs.Values.{One, act, gives, takes}
use Rattle.elm_values.proofs.Acting.{acted, done, took}
use Rattle.elm_values.proofs.exprs.if_then.Goals as goal

pub returns : goal.returns
unfolding takes gives act
returns c =
    on_ok_weaker c.put_expr.result
    (λ e tokens.
    acted IfOf
    (took (One item.Word) refl (c.skip_word.ensures tokens)
    (took (One item.Expr) (c.in_ok-condition.ensures.value tokens) (c.in_ok-condition.ensures.rest tokens)
    (took (One item.Word) refl (c.skip_word-2.ensures tokens)
    (took (One item.Expr) (c.in_ok-yes.ensures.value tokens) (c.in_ok-yes.ensures.rest tokens)
    (took (One item.Word) refl (c.skip_word-3.ensures tokens)
    (took (One item.Expr) (c.in_ok-no.ensures.value tokens) (c.in_ok-no.ensures.rest tokens)
    (done tokens _)))))))
    (if_expr tokens c.in_ok-condition.condition c.in_ok-yes.yes c.in_ok-no.no) (e tokens))
    c.put_expr.ensures

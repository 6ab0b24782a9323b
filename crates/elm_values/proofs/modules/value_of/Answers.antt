-- What is taken off the stacks in turn (`took`) gives way to what is made of it (`acted`).
use Rattle.std.proofs.Common.{ap}
use Rattle.std.proofs.lemmas.Result.{on_ok_weaker}
use Rattle.elm_tree.specs.Tree.{Value}
use Rattle.elm_grammar.specs.declared.action.Action.TheVariants.{ValueOf}
use Rattle.elm_grammar.specs.declared.action.Item.TheVariants as item
use Rattle.elm_grammar.specs.Values.{One, takes, gives, act}
use Rattle.elm_values.proofs.Acting.{acted, done, took}
use Rattle.elm_values.proofs.modules.value_of.Goals as goal

pub returns : goal.returns
unfolding takes gives act
returns c =
    on_ok_weaker c.put_declaration.result
    (λ e tokens.
    acted ValueOf
    (took (One item.Word) (c.take_word-name.ensures.value tokens) (c.take_word-name.ensures.rest tokens)
    (took (One item.Rest) (c.take_rest-rest.ensures.value tokens) (c.take_rest-rest.ensures.rest tokens)
    (done tokens _)))
    (ap Value (c.definition.ensures tokens)) (e tokens)) c.put_declaration.ensures

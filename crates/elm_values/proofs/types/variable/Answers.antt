-- What is taken off the stacks in turn (`took`) gives way to what is made of it (`acted`).
use Rattle.std.proofs.lemmas.Result.{on_ok_weaker}
use Rattle.elm_grammar.specs.declared.action.Action.TheVariants.{VariableType}
use Rattle.elm_grammar.specs.declared.action.Item.TheVariants as item
use Rattle.elm_grammar.specs.Values.{One, takes, gives, act}
use Rattle.elm_tree.proofs.Views.{variable_type}
use Rattle.elm_values.proofs.Acting.{acted, done, took}
use Rattle.elm_values.proofs.types.variable.Goals as goal

pub returns : goal.returns
unfolding takes gives act
returns c =
    on_ok_weaker c.put_type.result
    (λ e tokens.
    acted VariableType
    (took (One item.Word) (c.take_word-name.ensures.value tokens) (c.take_word-name.ensures.rest tokens)
    (done tokens _))
    (variable_type tokens c.take_word-name.result) (e tokens)) c.put_type.ensures

-- What is taken off the stacks in turn (`took`) gives way to what is made of it (`acted`).
use Rattle.std.proofs.lemmas.Result.{on_ok_weaker}
use Rattle.elm_grammar.specs.declared.action.Action.TheVariants.{EmptyModule}
use Rattle.elm_grammar.specs.Values.{takes, gives, act}
use Rattle.elm_values.proofs.Acting.{acted, done}
use Rattle.elm_values.proofs.modules.empty_module.Goals as goal

pub returns : goal.returns
unfolding takes gives act
returns c =
    on_ok_weaker c.put_module.result
    (λ e tokens.
    acted EmptyModule
    (done tokens _)
    (c.no_module.ensures tokens) (e tokens)) c.put_module.ensures

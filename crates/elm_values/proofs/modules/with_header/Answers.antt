-- What is taken off the stacks in turn (`took`) gives way to what is made of it (`acted`).
use Rattle.std.proofs.Common.{refl}
use Rattle.std.proofs.lemmas.Result.{on_ok_weaker}
use Rattle.elm_grammar.specs.declared.action.Action.TheVariants.{WithHeader}
use Rattle.elm_grammar.specs.declared.action.Item.TheVariants as item
use Rattle.elm_grammar.specs.Values.{One, takes, gives, act}
use Rattle.elm_values.proofs.Acting.{acted, done, took}
use Rattle.elm_values.proofs.modules.with_header.Goals as goal

pub returns : goal.returns
unfolding takes gives act
returns c =
    on_ok_weaker c.put_module.result
    (λ e tokens.
    acted WithHeader
    (took (One item.Header) (c.take_header-header.ensures.value tokens) (c.take_header-header.ensures.rest tokens)
    (took (One item.Module) (c.take_module-built.ensures.value tokens) (c.take_module-built.ensures.rest tokens)
    (done tokens _)))
    refl (e tokens)) c.put_module.ensures

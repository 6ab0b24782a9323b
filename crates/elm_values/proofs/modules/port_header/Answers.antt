-- What is taken off the stacks in turn (`took`) gives way to what is made of it (`acted`).
use Rattle.std.proofs.Common.{refl}
use Rattle.std.proofs.lemmas.Result.{on_ok_weaker}
use Rattle.elm_grammar.specs.declared.action.Action.TheVariants.{PortHeader}
use Rattle.elm_grammar.specs.declared.action.Item.TheVariants as item
use Rattle.elm_grammar.specs.Values.{One, act, gives, takes}
use Rattle.elm_values.proofs.Acting.{acted, done, took}
use Rattle.elm_values.proofs.modules.port_header.Goals as goal

pub returns : goal.returns
unfolding takes gives act
returns c =
    on_ok_weaker c.add_ports.result
    (λ e tokens.
    acted PortHeader
    (took (One item.Word) refl (c.skip_word.ensures tokens)
    (took (One item.Word) refl (c.skip_word-2.ensures tokens)
    (took (One item.Header) refl refl
    (done tokens _))))
    refl (e tokens))
    c.add_ports.ensures

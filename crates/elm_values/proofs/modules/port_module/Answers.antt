-- What is taken off the stacks in turn (`took`) gives way to what is made of it (`acted`).
use Rattle.std.proofs.Common.{refl, ap, ◌∙◌}
use Rattle.std.proofs.lemmas.Result.{on_ok_weaker}
use Rattle.elm_grammar.specs.declared.action.Action.TheVariants.{PortModule, WithHeader}
use Rattle.elm_grammar.specs.declared.action.Item.TheVariants as item
use Rattle.elm_grammar.specs.Values.{One, act, gives, takes}
use Rattle.elm_values.specs.Stack.{apply, columns, pop, push, top}
use Rattle.elm_values.proofs.Acting.{acted, done, took}
use Rattle.elm_values.proofs.modules.port_module.Goals as goal

pub returns : goal.returns
unfolding takes gives act push pop top
returns c =
    on_ok_weaker c.with_header.result
    (λ e tokens.
    acted PortModule
    (took {s = columns tokens c.args.stacks.now} (One item.Word) refl (c.skip_word.ensures tokens)
    (took (One item.Header) refl refl
    (took (One item.Module) refl refl
    (done tokens _))))
    refl (e tokens ∙ ap (apply tokens WithHeader) (c.in_ok-add_ports.ensures tokens)))
    c.with_header.ensures

-- What is taken off the stacks in turn (`took`) gives way to what is made of it (`acted`).
use Rattle.std.proofs.Common.{refl, ap, ◌∙◌}
use Rattle.std.proofs.lemmas.Result.{on_ok_weaker}
use Rattle.elm_grammar.specs.declared.action.Action.TheVariants.{FirstPort, WithDeclaration}
use Rattle.elm_grammar.specs.declared.action.Item.TheVariants as item
use Rattle.elm_grammar.specs.Values.{One, act, gives, takes}
use Rattle.elm_values.specs.Stack.{apply, columns, pop, push, top}
use Rattle.elm_values.proofs.Acting.{acted, done, took}
use Rattle.elm_values.proofs.modules.first_port.Goals as goal

pub returns : goal.returns
unfolding takes gives act push pop top
returns c =
    on_ok_weaker c.with_declaration.result
    (λ e tokens.
    acted FirstPort
    (took {s = columns tokens c.args.stacks.now} (One item.Word) (c.take_word-name.ensures.value tokens) (c.take_word-name.ensures.rest tokens)
    (took (One item.Word) refl (c.skip_word.ensures tokens)
    (took (One item.TypeTree) (c.take_type-written.ensures.value tokens) (c.take_type-written.ensures.rest tokens)
    (took (One item.Module) refl refl
    (done tokens _)))))
    refl (e tokens ∙ ap (apply tokens WithDeclaration) (c.in_ok-put_declaration.ensures tokens)))
    c.with_declaration.ensures

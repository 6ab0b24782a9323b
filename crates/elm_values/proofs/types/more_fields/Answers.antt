-- What is taken off the stacks in turn (`took`) gives way to what is made of it (`acted`).
use Rattle.std.proofs.Common.{refl}
use Rattle.std.proofs.lemmas.Result.{on_ok_weaker}
use Rattle.elm_grammar.specs.declared.action.Action.TheVariants.{MoreFieldTypes}
use Rattle.elm_grammar.specs.declared.action.Item.TheVariants as item
use Rattle.elm_grammar.specs.Values.{Many, One, act, gives, takes}
use Rattle.elm_values.specs.Stack.{columns, pop, push, top}
use Rattle.elm_values.proofs.Acting.{acted, done, took}
use Rattle.elm_values.proofs.types.more_fields.Goals as goal

pub returns : goal.returns
unfolding takes gives act push pop top
returns c =
    on_ok_weaker c.put_field_type.result
    (λ e tokens.
    acted MoreFieldTypes
    (took {s = columns tokens c.args.stacks.now} (One item.Word) refl (c.skip_word.ensures tokens)
    (took (One item.Word) (c.take_word-name.ensures.value tokens) (c.take_word-name.ensures.rest tokens)
    (took (One item.Word) refl (c.skip_word-2.ensures tokens)
    (took (One item.TypeTree) refl refl
    (took (Many item.FieldType) refl refl
    (done tokens _))))))
    refl (e tokens))
    c.put_field_type.ensures

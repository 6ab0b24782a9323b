-- What is taken off the stacks in turn (`took`) gives way to what is made of it (`acted`).
use Rattle.std.proofs.Common.{refl, ap, None}
use Rattle.std.proofs.lemmas.Result.{on_ok_weaker}
use Rattle.elm_tree.specs.View.{part_view}
use Rattle.elm_grammar.specs.declared.action.Action.TheVariants.{EmptyRecord}
use Rattle.elm_grammar.specs.declared.action.Item.TheVariants as item
use Rattle.elm_grammar.specs.Values.{One, takes, gives, act}
use Rattle.elm_values.specs.Stack.{held}
use Rattle.elm_values.proofs.Acting.{acted, done, took}
use Rattle.elm_values.proofs.exprs.empty_record.Goals as goal

pub returns : goal.returns
unfolding takes gives act
returns c =
    on_ok_weaker c.put_fields.result
    (λ e tokens.
    acted EmptyRecord
    (took (One item.Word) refl (c.skip_word.ensures tokens)
    (done tokens _))
    (ap (λ z. (None, held (part_view tokens) z)) c.new.ensures.items) (e tokens)) c.put_fields.ensures

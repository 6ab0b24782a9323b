-- What is taken off the stacks in turn (`took`) gives way to what is made of it (`acted`).
use Rattle.std.proofs.Common.{refl, ap, ◌∙◌}
use Rattle.std.proofs.lemmas.Result.{on_ok_weaker}
use Rattle.elm_tree.specs.View.{place_view, token_view}
use Rattle.elm_grammar.specs.declared.action.Action.TheVariants.{RecordAccess}
use Rattle.elm_grammar.specs.declared.action.Item.TheVariants as item
use Rattle.elm_grammar.specs.Values.{Many, One, accessed, act, gives, takes}
use Rattle.elm_values.specs.Stack.{columns, held, pop, push, top}
use Rattle.elm_values.proofs.Acting.{acted, done, took}
use Rattle.elm_values.proofs.exprs.record_access.Goals as goal

pub returns : goal.returns
unfolding takes gives act push pop top
returns c =
    on_ok_weaker c.access_last.result
    (λ e tokens.
    acted RecordAccess
    (took {s = columns tokens c.args.stacks.now} (One item.Word) (c.take_word-place.ensures.value tokens) (c.take_word-place.ensures.rest tokens)
    (took (One item.Record) (c.take_fields-built.ensures.value tokens) (c.take_fields-built.ensures.rest tokens)
    (took (Many item.Word) (c.take_words-fields.ensures.value tokens) (c.take_words-fields.ensures.rest tokens)
    (done tokens _))))
    refl (e tokens ∙
    ap (λ z. push (One item.Expr)
    (accessed (place_view tokens c.take_word-place.result) (top tokens (One item.Expr) z)
    (held (token_view tokens) c.take_words-fields.result.items))
    (pop (One item.Expr) z))
    (c.in_ok-put_expr.ensures tokens ∙ ap (λ z. push (One item.Expr) z (columns tokens c.take_words-fields.new.stacks)) (c.record_expr.ensures tokens))))
    c.access_last.ensures

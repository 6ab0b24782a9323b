-- What is taken off the stacks in turn (`took`) gives way to what is made of it (`acted`).
use Rattle.std.proofs.Common.{sym, ap, ◌∙◌, ◌∷◌}
use Rattle.std.proofs.lemmas.Result.{on_ok_weaker}
use Rattle.elm_tree.specs.Tree.{Negate}
use Rattle.elm_tree.specs.View.{expr_view, part_view, place_view, token_view}
use Rattle.elm_grammar.specs.declared.action.Action.TheVariants.{MinusParen}
use Rattle.elm_grammar.specs.declared.action.Item.TheVariants as item
use Rattle.elm_grammar.specs.Values.{Many, One, act, after_minus, applied, chained, gives, takes}
use Rattle.elm_values.specs.Stack.{after_view, columns, held, pop, push, top}
use Rattle.elm_values.proofs.Acting.{acted, done, took}
use Rattle.elm_values.proofs.exprs.minus_brackets.Goals as goal

pub returns-in-Closed : goal.returns-in-Closed
unfolding takes gives act
returns-in-Closed c =
    on_ok_weaker c.put_word_list.result
    (λ e tokens.
    acted MinusParen
    (took (One item.Word) (c.take_word-minus.ensures.value tokens) (c.take_word-minus.ensures.rest tokens)
    (took (One item.AfterMinus) (c.take_after_minus.ensures.value tokens) (c.take_after_minus.ensures.rest tokens)
    (done tokens _)))
    (ap (λ z. after_minus (token_view tokens c.take_word-minus.result) (after_view tokens z)) (sym c.in-Closed.is))
    (e tokens))
    c.put_word_list.ensures

pub returns-in_ok-put_expr-in-Operand : goal.returns-in_ok-put_expr-in-Operand
unfolding takes gives act push pop top
returns-in_ok-put_expr-in-Operand c =
    on_ok_weaker c.put_negated.result
    (λ e tokens.
    let es = held (expr_view tokens) c.in-Operand.arguments.items in
    let ps = held (part_view tokens) c.in-Operand.others.items in
    let rest = held (expr_view tokens) c.in-Operand.rest.items in
    acted MinusParen
    (took {s = columns tokens c.args.stacks.now} (One item.Word) (c.take_word-minus.ensures.value tokens) (c.take_word-minus.ensures.rest tokens)
    (took (One item.AfterMinus) (c.take_after_minus.ensures.value tokens) (c.take_after_minus.ensures.rest tokens)
    (done tokens _)))
    (ap (λ z. after_minus (token_view tokens c.take_word-minus.result) (after_view tokens z)) (sym c.in-Operand.is))
    (e tokens ∙
    ap (λ z. push (Many item.Expr)
    (chained (applied (Negate (place_view tokens c.take_word-minus.result) (top tokens (One item.Expr) z)) es) ps ∷ rest)
    (pop (One item.Expr) z)) (c.in_ok-put_expr-in-Operand.ensures tokens)))
    c.put_negated.ensures

-- What is taken off the stacks in turn (`took`) gives way to what is made of it (`acted`).
use Rattle.std.proofs.Common.{map, ap, ◌∙◌}
use Rattle.std.proofs.lemmas.Result.{on_ok_weaker}
use Rattle.elm_tree.specs.Tree.{exprs_of}
use Rattle.elm_tree.specs.View.{expr_view, place_view}
use Rattle.elm_tree.specs.Tree as tree
use Rattle.elm_grammar.specs.declared.action.Action.TheVariants.{ListOf}
use Rattle.elm_grammar.specs.declared.action.Item.TheVariants as item
use Rattle.elm_grammar.specs.Values.{One, Many, takes, gives, act}
use Rattle.elm_tree.proofs.Views.{list_expr}
use Rattle.elm_values.proofs.Acting.{acted, done, took}
use Rattle.elm_values.proofs.exprs.list.Goals as goal

pub returns : goal.returns
unfolding takes gives act
returns c =
    on_ok_weaker c.put_expr.result
    (λ e tokens.
    acted ListOf
    (took (One item.Word) (c.take_word-place.ensures.value tokens) (c.take_word-place.ensures.rest tokens)
    (took (Many item.Expr) (c.take_exprs.ensures.value tokens) (c.take_exprs.ensures.rest tokens)
    (done tokens _)))
    (list_expr tokens c.take_word-place.result c.turned-exprs.result ∙
    ap (λ z. tree.ListOf (place_view tokens c.take_word-place.result) (exprs_of (map (expr_view tokens) z)))
    c.turned-exprs.ensures) (e tokens)) c.put_expr.ensures

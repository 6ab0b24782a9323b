-- One level of the view.
use Rattle.std.proofs.Common.{map, [], ◌∷◌, ap, ◌∙◌}
use Rattle.std.proofs.lemmas.Result.{on_ok_weaker}
use Rattle.elm_tree.specs.View.{expr_view}
use Rattle.elm_grammar.specs.declared.action.Item.TheVariants as item
use Rattle.elm_grammar.specs.Values.{Many}
use Rattle.elm_values.specs.Stack.{columns, push}
use Rattle.elm_tree.proofs.Views.{word_expr}
use Rattle.elm_values.proofs.exprs.put_word_list.Goals as goal

pub returns : goal.returns
returns c =
    on_ok_weaker c.put_exprs.result
    (λ h tokens.
    h tokens ∙
    ap (λ z. push (Many item.Expr) z (columns tokens c.args.stacks.now))
    (ap (map (expr_view tokens)) c.in_ok-one_item.ensures ∙ ap (λ z. z ∷ []) (word_expr tokens c.args.word)))
    c.put_exprs.ensures

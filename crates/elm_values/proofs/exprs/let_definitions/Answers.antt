-- What is taken off the stacks in turn (`took`) gives way to what is made of it (`acted`).
use Rattle.std.proofs.Common.{map, refl, ap, ◌∙◌}
use Rattle.std.proofs.lemmas.Result.{on_ok_weaker}
use Rattle.elm_tree.specs.Tree.{Let, definitions_of}
use Rattle.elm_tree.specs.View.{definition_view, expr_view}
use Rattle.elm_tree.proofs.Views.{let_expr}
use Rattle.elm_grammar.specs.declared.action.Action.TheVariants.{LetOf}
use Rattle.elm_grammar.specs.declared.action.Item.TheVariants as item
use Rattle.elm_grammar.specs.Values.{Many, One, act, gives, takes}
use Rattle.elm_values.proofs.Acting.{acted, done, took}
use Rattle.elm_values.proofs.exprs.let_definitions.Goals as goal

pub returns : goal.returns
unfolding takes gives act
returns c =
    on_ok_weaker c.put_expr.result
    (λ e tokens.
    acted LetOf
    (took (One item.Word) refl (c.skip_word.ensures tokens)
    (took (Many item.Definition) (c.take_definitions.ensures.value tokens) (c.take_definitions.ensures.rest tokens)
    (took (One item.Word) refl (c.skip_word-2.ensures tokens)
    (took (One item.Expr) (c.in_ok-body.ensures.value tokens) (c.in_ok-body.ensures.rest tokens)
    (done tokens _)))))
    (let_expr tokens c.turned-definitions.result c.in_ok-body.body ∙
    ap (λ z. Let (definitions_of (map (definition_view tokens) z)) (expr_view tokens c.in_ok-body.body.value))
    c.turned-definitions.ensures) (e tokens))
    c.put_expr.ensures

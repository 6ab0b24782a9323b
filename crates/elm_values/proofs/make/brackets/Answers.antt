-- One in parentheses is that expression.
use Rattle.std.proofs.Common.{map, sym, ap, ◌∙◌}
use Rattle.elm_tree.specs.Tree.{TupleOf, exprs_of}
use Rattle.elm_tree.specs.View.{expr_view, place_view}
use Rattle.elm_grammar.specs.Values.{bracketed}
use Rattle.elm_values.specs.Stack.{held}
use Rattle.elm_tree.proofs.Views.{tuple_expr}
use Rattle.elm_values.proofs.Making.{held_several, exprs_several}
use Rattle.elm_values.proofs.make.brackets.Goals as goal

pub returns-in-Ok : goal.returns-in-Ok
returns-in-Ok c = λ tokens.
    sym (ap (λ z. bracketed (place_view tokens c.args.place) (map (expr_view tokens) z)) c.in-Ok.ensures.one)

pub returns-in-Err : goal.returns-in-Err
returns-in-Err c = λ tokens.
    tuple_expr tokens c.args.place c.turned.result ∙
    (ap (λ z. TupleOf (place_view tokens c.args.place) (exprs_of (map (expr_view tokens) z))) c.turned.ensures ∙
    (exprs_several (place_view tokens c.args.place) (held (expr_view tokens) c.in-Err.others.items)
    (held_several (expr_view tokens) c.in-Err.others.items c.in-Err.ensures.several) ∙
    ap (λ z. bracketed (place_view tokens c.args.place) (held (expr_view tokens) z)) c.in-Err.ensures.same))

-- One in parentheses is that type.
use Rattle.std.proofs.Common.{map, sym, ap, ◌∙◌}
use Rattle.elm_tree.specs.Tree.{TupleType, types_of}
use Rattle.elm_tree.specs.View.{type_view}
use Rattle.elm_grammar.specs.Values.{bracket_type}
use Rattle.elm_values.specs.Stack.{held}
use Rattle.elm_tree.proofs.Views.{tuple_type}
use Rattle.elm_values.proofs.Making.{held_several, types_several}
use Rattle.elm_values.proofs.make.bracketed_type.Goals as goal

pub returns-in-Ok : goal.returns-in-Ok
returns-in-Ok c = λ tokens. sym (ap (λ z. bracket_type (map (type_view tokens) z)) c.in-Ok.ensures.one)

pub returns-in-Err : goal.returns-in-Err
returns-in-Err c = λ tokens.
    tuple_type tokens c.turned.result ∙
    (ap (λ z. TupleType (types_of (map (type_view tokens) z))) c.turned.ensures ∙
    (types_several (held (type_view tokens) c.in-Err.others.items)
    (held_several (type_view tokens) c.in-Err.others.items c.in-Err.ensures.several) ∙
    ap (λ z. bracket_type (held (type_view tokens) z)) c.in-Err.ensures.same))

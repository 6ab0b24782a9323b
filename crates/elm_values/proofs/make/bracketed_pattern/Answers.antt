-- One in parentheses is that pattern.
use Rattle.std.proofs.Common.{map, sym, ap, ◌∙◌}
use Rattle.elm_tree.specs.Tree.{TuplePattern}
use Rattle.elm_tree.specs.View.{place_view}
use Rattle.elm_grammar.specs.Values.{bracket_pattern}
use Rattle.elm_values.specs.Stack.{held, begun_view}
use Rattle.elm_tree.proofs.Views.{tuple_pattern}
use Rattle.elm_values.proofs.Making.{held_several, patterns_several}
use Rattle.elm_values.proofs.make.bracketed_pattern.Goals as goal

pub returns-in-Ok : goal.returns-in-Ok
returns-in-Ok c = λ tokens.
    sym (ap (λ z. bracket_pattern (place_view tokens c.args.place) (map (begun_view tokens) z)) c.in-Ok.ensures.one)

pub returns-in_ok-others-in-Err : goal.returns-in_ok-others-in-Err
returns-in_ok-others-in-Err c = λ tokens.
    tuple_pattern tokens c.args.place c.in_ok-others-in-Err.others ∙
    (ap (TuplePattern (place_view tokens c.args.place)) (c.in_ok-others-in-Err.ensures tokens) ∙
    (patterns_several (place_view tokens c.args.place) (held (begun_view tokens) c.in-Err.others.items)
    (held_several (begun_view tokens) c.in-Err.others.items c.in-Err.ensures.several) ∙
    ap (λ z. bracket_pattern (place_view tokens c.args.place) (held (begun_view tokens) z)) c.in-Err.ensures.same))

-- Without others it is what comes in alone (`held_none`), and otherwise one level of the view (`held_some`).
use Rattle.std.proofs.Common.{map, sym, ap, ◌∙◌}
use Rattle.elm_tree.specs.Tree.{ConsPattern}
use Rattle.elm_tree.specs.View.{place_view}
use Rattle.elm_grammar.specs.Values.{conses_of, begun, patterns_in}
use Rattle.elm_values.specs.Stack.{held, begun_view}
use Rattle.elm_tree.proofs.Views.{cons_pattern}
use Rattle.elm_values.proofs.Making.{held_none, held_some, conses_some}
use Rattle.elm_values.proofs.make.conses.Goals as goal

pub returns-then-is_empty : goal.returns-then-is_empty
returns-then-is_empty c = λ tokens.
    ap (conses_of (begun_view tokens c.args.begun)) (sym (held_none (begun_view tokens) c.args.others.items c.args.others.ok.0 c.if-is_empty.ensures))

pub returns : goal.returns
returns c = λ tokens.
    ap (begun (place_view tokens c.args.begun.place))
    (cons_pattern tokens c.args.begun.place c.in_ok-others.others ∙
    ap (ConsPattern (place_view tokens c.args.begun.place))
    (c.in_ok-others.ensures tokens ∙ ap (λ z. patterns_in (map (begun_view tokens) z)) c.in_ok-put.ensures)) ∙
    conses_some (begun_view tokens c.args.begun) (held (begun_view tokens) c.args.others.items)
    (held_some (begun_view tokens) c.args.others.items c.args.others.ok.0 c.if-is_empty.ensures)

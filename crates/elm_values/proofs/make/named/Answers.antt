-- One level of the view.
use Rattle.std.proofs.Common.{reverse, ap, ◌∙◌}
use Rattle.elm_tree.specs.Tree.{As}
use Rattle.elm_tree.specs.View.{pattern_view, word_view, place_view}
use Rattle.elm_grammar.specs.Values.{begun}
use Rattle.elm_values.specs.Stack.{begun_view}
use Rattle.elm_tree.proofs.Views.{as_pattern}
use Rattle.elm_values.proofs.Making.{with_name_some}
use Rattle.elm_values.proofs.make.named.Goals as goal

pub returns-in_ok-inner-in-Some : goal.returns-in_ok-inner-in-Some
returns-in_ok-inner-in-Some c = λ tokens.
    ap (begun (place_view tokens c.args.begun.place))
    (as_pattern tokens c.args.begun.place c.in_ok-inner-in-Some.inner c.in-Some.name ∙
    ap (λ z. As (place_view tokens c.args.begun.place) (pattern_view tokens z) (word_view tokens c.in-Some.name))
    c.in_ok-inner-in-Some.ensures) ∙
    with_name_some tokens (begun_view tokens c.args.begun) c.in-Some.name (reverse c.args.name.items)
    c.in-Some.ensures

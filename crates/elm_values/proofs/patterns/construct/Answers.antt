-- What is taken off the stacks in turn (`took`) gives way to what is made of it (`acted`).
use Rattle.std.proofs.Common.{ap, ◌∙◌}
use Rattle.std.proofs.lemmas.Result.{on_ok_weaker}
use Rattle.elm_tree.specs.Tree.{Construct}
use Rattle.elm_tree.specs.View.{place_view, long_view}
use Rattle.elm_grammar.specs.declared.action.Action.TheVariants.{ConstructOf}
use Rattle.elm_grammar.specs.declared.action.Item.TheVariants as item
use Rattle.elm_grammar.specs.Values.{begun, One, Many, takes, gives, act}
use Rattle.elm_tree.proofs.Views.{construct_pattern}
use Rattle.elm_values.proofs.Acting.{acted, done, took}
use Rattle.elm_values.proofs.patterns.construct.Goals as goal

pub returns : goal.returns
unfolding takes gives act
returns c =
    on_ok_weaker c.put_pattern.result
    (λ e tokens.
    acted ConstructOf
    (took (One item.Word) (c.take_word-place.ensures.value tokens) (c.take_word-place.ensures.rest tokens)
    (took (Many item.Pattern) (c.take_patterns.ensures.value tokens) (c.take_patterns.ensures.rest tokens)
    (done tokens _)))
    (ap (begun (place_view tokens c.take_word-place.result))
    (construct_pattern tokens c.take_word-place.result c.in_ok-arguments.arguments ∙
    ap (Construct (long_view tokens c.take_word-place.result)) (c.in_ok-arguments.ensures tokens))) (e tokens)) c.put_pattern.ensures

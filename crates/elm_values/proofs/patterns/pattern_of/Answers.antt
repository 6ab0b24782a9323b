-- What is taken off the stacks in turn (`took`) gives way to what is made of it (`acted`).
use Rattle.std.proofs.Common.{ap, ◌∙◌}
use Rattle.std.proofs.lemmas.Result.{on_ok_weaker}
use Rattle.elm_tree.specs.View.{token_view}
use Rattle.elm_grammar.specs.declared.action.Item.TheVariants as item
use Rattle.elm_grammar.specs.declared.action.Action.TheVariants.{PatternOf}
use Rattle.elm_grammar.specs.Values.{with_name, Many, One, act, gives, takes}
use Rattle.elm_values.specs.Stack.{held}
use Rattle.elm_values.proofs.Acting.{acted, done, took}
use Rattle.elm_values.proofs.patterns.pattern_of.Goals as goal

pub returns : goal.returns
unfolding takes gives act
returns c =
    on_ok_weaker c.put_pattern.result
    (λ e tokens.
    acted PatternOf
    (took (One item.Pattern) (c.take_pattern-begun.ensures.value tokens) (c.take_pattern-begun.ensures.rest tokens)
    (took (Many item.Pattern) (c.take_patterns-others.ensures.value tokens) (c.take_patterns-others.ensures.rest tokens)
    (took (Many item.Word) (c.take_words-name.ensures.value tokens) (c.take_words-name.ensures.rest tokens)
    (done tokens _))))
    (c.in_ok-made.ensures tokens ∙
    ap (λ z. with_name z (held (token_view tokens) c.take_words-name.result.items)) (c.in_ok-whole.ensures tokens)) (e tokens)) c.put_pattern.ensures

-- A word is taken off, and then it is `empty`.
use Rattle.std.proofs.Common.{ap, ◌∙◌}
use Rattle.std.proofs.lemmas.Result.{on_ok_weaker}
use Rattle.elm_grammar.specs.declared.action.Action.TheVariants.{Empty}
use Rattle.elm_grammar.specs.Values.{act, gives, takes}
use Rattle.elm_values.specs.Stack.{apply}
use Rattle.elm_values.proofs.items.ended.Goals as goal

pub returns : goal.returns
unfolding takes gives act
returns c =
    on_ok_weaker c.empty.result
    (λ h tokens. h tokens ∙ ap (apply tokens (Empty c.args.item)) (c.skip_word.ensures tokens))
    c.empty.ensures

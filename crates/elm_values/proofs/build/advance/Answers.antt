-- Each production of the grammar has an action that is used (`used_at`).
use Rattle.std.proofs.Common.{ap, ◌∙◌}
use Rattle.elm_grammar.specs.Meaning.{action_in}
use Rattle.elm_values.specs.Used.{is_used}
use Rattle.elm_values.proofs.Runs.{used_at}
use Rattle.elm_values.proofs.build.advance.Goals as goal

pub act-requires : goal.act-requires
act-requires c =
    ap is_used (c.action_of.ensures ∙ ap (λ z. action_in z c.in-Take.rule) c.requires) ∙ used_at c.in-Take.rule

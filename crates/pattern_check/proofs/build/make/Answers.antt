use Rattle.std.proofs.Common.{map, sym, ap, ◌∙◌}
use Rattle.elm_canon.specs.Tree as plain
use Rattle.elm_canon.specs.View.{pattern_view}
use Rattle.elm_canon.proofs.Views.{anything_pattern, exact_pattern}
use Rattle.pattern_check.specs.Starts.{start_view}
use Rattle.pattern_check.specs.Built.{head_pattern}
use Rattle.pattern_check.proofs.build.make.Goals as goal

pub returns-in_ok-copy-in-Literal : goal.returns-in_ok-copy-in-Literal
returns-in_ok-copy-in-Literal c =
    exact_pattern c.in_ok-copy-in-Literal.copy ∙ ap plain.Exactly c.in_ok-copy-in-Literal.ensures
    ∙ sym (ap (λ s. head_pattern (start_view s) (map pattern_view c.args.parts.items)) c.in-Literal.is)

pub returns-in-Other : goal.returns-in-Other
returns-in-Other c =
    anything_pattern ∙ sym (ap (λ s. head_pattern (start_view s) (map pattern_view c.args.parts.items)) c.in-Other.is)

use Rattle.std.proofs.Common.{map, ◌∙◌}
use Rattle.pattern_check.specs.Starts.{parts_view}
use Rattle.pattern_check.proofs.Checked.{found_some, missing_patterns}
use Rattle.pattern_check.proofs.check.leave_out.Goals as goal

pub returns : goal.returns
returns c =
    c.is_some.ensures ∙ found_some (λ parts. parts_view parts.items) c.in_ok-missing_parts.field-0 _ c.in_ok-missing_parts.ensures
    ∙ missing_patterns (map (λ p. p.now) c.args.patterns.now)

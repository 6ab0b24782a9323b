use Rattle.std.proofs.Common.{sym, ap, ◌∙◌, arith}
use Rattle.elm_canon.specs.View.{pattern_view}
use Rattle.pattern_check.specs.Faults.{place_of}
use Rattle.pattern_check.proofs.Placing.{at_place, past_place}
use Rattle.pattern_check.proofs.sites.place_at.Goals as goal

pub returns-then-number-patterns : goal.returns-then-number-patterns
returns-then-number-patterns c =
    c.place_of.ensures ∙ ap (λ r. place_of c.args.here (pattern_view r.now)) c.index-patterns-number.is
    ∙ sym (at_place (λ p. p.now) c.args.here c.args.patterns.now c.args.number c.index-patterns-number.result (omega arith))

pub returns-else-number-patterns : goal.returns-else-number-patterns
returns-else-number-patterns c = sym (past_place (λ p. p.now) c.args.here c.args.patterns.now c.args.number (omega arith))

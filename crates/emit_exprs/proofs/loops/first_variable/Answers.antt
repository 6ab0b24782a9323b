use Rattle.std.proofs.Common.{length, ap, sym, ◌∙◌}
use Rattle.js_emit.specs.Names.{made_names}
use Rattle.js_emit.specs.Loops.{variables}
use Rattle.emit_exprs.specs.Turns.{loop_view}
use Rattle.emit_exprs.proofs.Steps.{count_made}
use Rattle.emit_exprs.proofs.loops.first_variable.Goals as goal

pub returns-in-Outside : goal.returns-in-Outside
returns-in-Outside c = λ n h.
    ap (λ p. variables (loop_view p)) c.in-Outside.is
    ∙ ap (made_names 0) (sym (h ∙ ap (λ p. length (variables (loop_view p))) c.in-Outside.is))

pub returns-in-Inside : goal.returns-in-Inside
returns-in-Inside c = λ n h.
    ap (λ p. variables (loop_view p)) c.in-Inside.is
    ∙ ap (made_names c.in-Inside.first) (sym (h ∙ ap (λ p. length (variables (loop_view p))) c.in-Inside.is
    ∙ count_made c.in-Inside.field-2 c.in-Inside.first))

use Rattle.std.proofs.Common.{nat_eq, length, ap, sym, ◌∙◌}
use Rattle.elm_canon.specs.View.{expr_view}
use Rattle.elm_canon.specs.Proper.{count_exprs}
use Rattle.js_emit.specs.Names.{made_names}
use Rattle.js_emit.specs.Loops.{goes_round}
use Rattle.emit_exprs.specs.Turns.{loop_view}
use Rattle.emit_exprs.proofs.Steps.{both_then, count_made}
use Rattle.emit_exprs.proofs.loops.goes_round.Goals as goal

pub returns-then-is_name : goal.returns-then-is_name
returns-then-is_name c = λ es h.
    let rs = made_names c.in-Inside.field-1 c.in-Inside.count in
    ap (nat_eq c.args.arguments) (sym (count_made c.in-Inside.count c.in-Inside.field-1))
    ∙ ap (λ k. nat_eq k (length rs)) (sym h)
    ∙ both_then (nat_eq (count_exprs es) (length rs)) c.is_name.ensures c.if-is_name.true
    ∙ sym (ap (λ p. goes_round (loop_view p) (expr_view c.args.callee.now) es) c.in-Inside.is)

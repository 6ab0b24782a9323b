use Rattle.std.proofs.Common.{arith}
use Rattle.std.proofs.lemmas.List.{nil_from_length}
use Rattle.infer_steps.specs.View.{here}
use Rattle.infer_steps.proofs.Beginning.{fills_none, fills_some}
use Rattle.infer_steps.proofs.Plans.{filled_count}
use Rattle.infer_steps.proofs.parts.filled.Goals as goal

pub returns-then-len-eq0-clause-fills : goal.returns-then-len-eq0-clause-fills
returns-then-len-eq0-clause-fills c =
    fills_none (here c.args.state.now) _ c.args.variables.items c.in_ok-one.one.items c.in_ok-number.number
    (nil_from_length c.args.variables.items (omega (arith, c.if-len-eq0.true))) c.in_ok-one.ensures
    c.in_ok-number.ensures

pub returns-clause-fills : goal.returns-clause-fills
returns-clause-fills c =
    fills_some (here c.args.state.now) c.args.variables.items (λ e. omega (arith, e, c.if-len-eq0.false)) c.requires

pub returns-clause-number : goal.returns-clause-number
returns-clause-number c = filled_count c.args.variables.items (λ e. omega (arith, e, c.if-len-eq0.false))

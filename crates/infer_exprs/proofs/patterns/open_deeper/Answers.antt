use Rattle.std.proofs.Common.{subst}
use Rattle.type_items.specs.Items.{child}
use Rattle.infer_steps.specs.Codes as plain
use Rattle.infer_steps.specs.View.{here}
use Rattle.infer_steps.specs.Made.{IsOpened}
use Rattle.infer_groups.specs.Defined.{moved}
use Rattle.infer_exprs.proofs.Around.{opened_at}
use Rattle.infer_exprs.proofs.patterns.open_deeper.Goals as goal

pub returns-clause-opened : goal.returns-clause-opened
returns-clause-opened c =
    let p = child (here c.args.state.now).place c.args.number in
    subst (λ (s : plain.State). IsOpened s (moved (here c.open.new.state) p) c.in_ok-variable.variable)
    c.in_ok-go_deeper.ensures.inside
    (opened_at (here c.go_deeper.new.state) (here c.open.new.state) p c.in_ok-variable.variable
    c.in_ok-variable.ensures)

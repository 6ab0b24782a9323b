-- Lists and filters, one item after the other: `take_next`, `filters_next`.
use Rattle.std.proofs.Common.{take, arith, sym, subst}
use Rattle.canon_env.specs.Imports.{These}
use Rattle.canon_env.specs.Filter.{Filters}
use Rattle.canon_env.proofs.Filtering.{take_next, filters_next}
use Rattle.canon_env.proofs.filter.Filter.add_all.Goals as goal

pub loop-entry-preserved : goal.loop-entry-preserved
loop-entry-preserved c = λ h.
    subst (λ es. Filters c.add.new.self (These es))
    (sym (take_next c.args.entries.now c.loop-entry.entry-index c.entry-item.result (omega arith) c.entry-item.is))
    (filters_next c.loop-entry.self c.add.new.self (take c.loop-entry.entry-index c.args.entries.now)
    c.entry-item.result (c.loop-entry.invariant h) c.in_ok-add.ensures)

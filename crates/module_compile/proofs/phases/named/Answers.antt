use Rattle.module_compile.specs.ModulePhasesView.{around_view}
use Rattle.module_compile.proofs.phases.named.Goals as goal

pub returns-in-Err : goal.returns-in-Err
returns-in-Err c = c.unread.ensures (around_view c.args.imports.now) c.args.text.now c.in-Err.ensures.fault

use Rattle.std.proofs.Common.{sym, subst}
use Rattle.infer_steps.specs.Ready.{AreWritten}
use Rattle.module_compile.specs.ModulePhasesView.{around_view}
use Rattle.module_compile.proofs.typing.types_of.Goals as goal

pub infer-requires-clause-env : goal.infer-requires-clause-env
infer-requires-clause-env c =
    subst AreWritten (sym c.in_ok-env.ensures)
    (c.ready_law.ensures.written (around_view c.args.imports.now).interfaces
    (c.sound_law.ensures c.args.imports.now).interfaces)

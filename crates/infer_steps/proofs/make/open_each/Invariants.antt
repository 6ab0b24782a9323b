use Rattle.std.proofs.Common.{◌≡◌, length}
use Rattle.infer_steps.specs.View.{here}
use Rattle.infer_steps.specs.Made.{AreOpened}
use Rattle.infer_steps.proofs.make.open_each.Given as goal

abbrev pub invariant-loop-i : goal.invariant-loop-i
invariant-loop-i l = record { made : AreOpened (here l.initial.state) (here l.state) l.variables.items; count : length l.variables.items ≡ l._i }

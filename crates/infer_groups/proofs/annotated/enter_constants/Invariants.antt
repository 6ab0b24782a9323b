use Rattle.std.proofs.Common.{◌≡◌, ◌-◌, take, length}
use Rattle.infer_steps.specs.View.{code_of}
use Rattle.infer_steps.specs.Leaving.{without_constant}
use Rattle.infer_groups.specs.Given.{with_slots}
use Rattle.infer_groups.proofs.annotated.enter_constants.Given as goal

abbrev pub invariant-loop-done : goal.invariant-loop-done
invariant-loop-done l = record {
  scope : with_slots (take (length l.names - l.done) l.names) (take (length l.names - l.done) l.slots) (code_of l.scope)
      ≡ with_slots l.names l.slots (code_of l.fn.scope);
  entered : without_constant l.entered.items (code_of l.scope) ≡ code_of l.fn.scope;
}

abbrev pub decreases-loop-done : goal.decreases-loop-done
decreases-loop-done l = length l.names - l.done

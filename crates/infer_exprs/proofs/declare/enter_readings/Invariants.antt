use Rattle.std.proofs.Common.{◌≡◌, map, length}
use Rattle.infer_steps.specs.View.{code_of}
use Rattle.infer_steps.specs.Leaving.{without}
use Rattle.infer_exprs.specs.Reading.{reading_view, with_readings}
use Rattle.infer_exprs.proofs.declare.enter_readings.Given as goal

abbrev pub invariant-loop-last : goal.invariant-loop-last
invariant-loop-last l = record {
  scope : with_readings (map reading_view l.rest.items) (code_of l.scope)
      ≡ with_readings (map reading_view l.fn.readings.items) (code_of l.fn.scope);
  entered : without l.entered.items (code_of l.scope) ≡ code_of l.fn.scope;
}

abbrev pub decreases-loop-last : goal.decreases-loop-last
decreases-loop-last l = length l.rest.items

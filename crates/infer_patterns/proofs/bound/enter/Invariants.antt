use Rattle.std.proofs.Common.{◌≡◌, map, length}
use Rattle.infer_steps.specs.Codes.{with_bound}
use Rattle.infer_steps.specs.Leaving.{without}
use Rattle.infer_steps.specs.View.{code_of}
use Rattle.infer_patterns.specs.View.{bound_view}
use Rattle.infer_patterns.proofs.bound.enter.Given as goal

abbrev pub invariant-loop-last : goal.invariant-loop-last
invariant-loop-last l = record {
  scope : with_bound (map bound_view l.rest.items) (code_of l.scope) ≡ with_bound (map bound_view l.fn.bound.items)
      (code_of l.initial.scope);
  entered : without l.entered.items (code_of l.scope) ≡ code_of l.initial.scope;
}

abbrev pub decreases-loop-last : goal.decreases-loop-last
decreases-loop-last l = length l.rest.items

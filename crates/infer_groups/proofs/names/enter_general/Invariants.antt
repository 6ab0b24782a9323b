use Rattle.std.proofs.Common.{◌≡◌, map, length}
use Rattle.infer_steps.specs.View.{code_of}
use Rattle.infer_steps.specs.Leaving.{without}
use Rattle.infer_groups.specs.General.{with_general}
use Rattle.infer_groups.specs.Names.{general_view}
use Rattle.infer_groups.proofs.names.enter_general.Given as goal

abbrev pub invariant-loop-last : goal.invariant-loop-last
invariant-loop-last l = record {
  scope : with_general (map general_view l.rest.items) (code_of l.scope)
      ≡ with_general (map general_view l.fn.general.items) (code_of l.fn.scope);
  entered : without l.entered.items (code_of l.scope) ≡ code_of l.fn.scope;
}

abbrev pub decreases-loop-last : goal.decreases-loop-last
decreases-loop-last l = length l.rest.items

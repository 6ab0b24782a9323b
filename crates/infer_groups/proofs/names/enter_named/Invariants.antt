use Rattle.std.proofs.Common.{◌≡◌, ◌-◌, take, length}
use Rattle.infer_steps.specs.View.{code_of}
use Rattle.infer_steps.specs.Leaving.{without}
use Rattle.infer_groups.specs.Members.{with_named}
use Rattle.infer_groups.specs.Names.{named_views}
use Rattle.infer_groups.proofs.names.enter_named.Given as goal

abbrev pub invariant-loop-done : goal.invariant-loop-done
invariant-loop-done l = record {
  scope : with_named (named_views (take (length l.names - l.done) l.names)) (code_of l.scope)
      ≡ with_named (named_views l.names) (code_of l.fn.scope);
  entered : without l.entered.items (code_of l.scope) ≡ code_of l.fn.scope;
}

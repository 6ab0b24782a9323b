use Rattle.std.proofs.Common.{◌≡◌, [], length}
use Rattle.js_scope.specs.Walk.{first_bound, is_settled}
use Rattle.js_scope.specs.Scopes.{bound_on, IsIndexed}
use Rattle.js_scope.proofs.scopes.leave.Given as goal

abbrev pub invariant-loop-bindings : goal.invariant-loop-bindings
invariant-loop-bindings l = record {
  indexed : IsIndexed l.bindings.items l.marks.items l.index;
  settled : is_settled l.bound (bound_on l.fn.bindings.items l.fn.marks.items []) ≡ is_settled l.bound (bound_on l.bindings.items l.marks.items []);
  first : first_bound l.bound (bound_on l.fn.bindings.items l.fn.marks.items []) ≡ first_bound l.bound (bound_on l.bindings.items l.marks.items []);
}

abbrev pub decreases-loop-bindings : goal.decreases-loop-bindings
decreases-loop-bindings l = length l.bindings.items

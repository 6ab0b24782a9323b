use Rattle.std.proofs.Common.{◌≡◌, length}
use Rattle.canon_expr.specs.Scope.{locals_of, without}
use Rattle.canon_expr.proofs.scope.Scope.leave.Given as goal

abbrev pub invariant-loop-last : goal.invariant-loop-last
invariant-loop-last l =
    without l.rest.items (locals_of l.self) ≡ without l.fn.entered.items (locals_of l.initial.self)

abbrev pub decreases-loop-last : goal.decreases-loop-last
decreases-loop-last l = length l.rest.items

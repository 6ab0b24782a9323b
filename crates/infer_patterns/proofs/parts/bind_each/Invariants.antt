use Rattle.std.proofs.Common.{◌≡◌, drop}
use Rattle.type_constructs.specs.Patterns.{bound_before}
use Rattle.infer_patterns.specs.View.{in_scope}
use Rattle.infer_patterns.proofs.parts.bind_each.Given as goal

-- the rest before those that were bound
abbrev pub invariant-loop-i : goal.invariant-loop-i
invariant-loop-i l =
    bound_before (drop l.i l.names) (drop l.i l.variables) (in_scope l.bound.items)
    ≡ bound_before l.names l.variables (in_scope l.initial.bound.items)

use Rattle.std.proofs.Common.{◌≡◌}
use Rattle.elm_canon.specs.Names.{Name}
use Rattle.canon_env.specs.Space.{named_at, added_all}
use Rattle.canon_env.proofs.space.Names.add_each.Given as goal

abbrev pub invariant-loop-one : goal.invariant-loop-one
invariant-loop-one g l = (x : Name) → named_at l.self x ≡ added_all (named_at l.initial.self x) x l.home l.yielded

use Rattle.std.proofs.Common.{◌≡◌, ◌++◌, take}
use Rattle.elm_canon.specs.View.{patterns_view}
use Rattle.elm_canon.specs.Proper.{all_bound_by}
use Rattle.infer_order.proofs.bound.+patterns.Given as goal

abbrev pub invariant-push_each-loop-pattern : goal.invariant-push_each-loop-pattern
invariant-push_each-loop-pattern l =
    l.names.items ≡ l.initial.names.items ++ all_bound_by (patterns_view (take l.pattern-index l.patterns))

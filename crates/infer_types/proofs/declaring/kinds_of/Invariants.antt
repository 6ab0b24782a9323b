use Rattle.std.proofs.Common.{◌≡◌, map}
use Rattle.elm_type.specs.View.{kind_view}
use Rattle.infer_types.proofs.declaring.kinds_of.Given as goal

abbrev pub invariant-loop-variable : goal.invariant-loop-variable
invariant-loop-variable l = map kind_view l.kinds.items ≡ map (λ o. kind_view o.kind) l.yielded

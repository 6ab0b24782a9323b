use Rattle.std.proofs.Common.{◌≡◌, ◌++◌, take}
use Rattle.elm_canon.specs.Proper.{locals}
use Rattle.infer_order.proofs.bound.push_locals.Given as goal

abbrev pub invariant-loop-name : goal.invariant-loop-name
invariant-loop-name l = l.names.items ≡ l.initial.names.items ++ locals (take l.name-index l.locals)

use Rattle.std.proofs.Common.{◌≡◌, take, map, reverse}
use Rattle.type_schemes.specs.Walk.{entered}
use Rattle.type_schemes.proofs.order.push_all.Given as goal

abbrev pub invariant-loop-variable : goal.invariant-loop-variable
invariant-loop-variable l = reverse l.todo.items ≡ entered (map (λ v. v) (take l.variable-index l.variables)) (reverse l.fn.todo.items)

use Rattle.std.proofs.Common.{◌≡◌, map, take}
use Rattle.infer_groups.proofs.groups.named.Given as goal

abbrev pub invariant-loop-at : goal.invariant-loop-at
invariant-loop-at l = record {
  variables : map (λ n. n.variable) l.names.items ≡ take l.at l.variables;
  names : map (λ n. n.name) l.names.items ≡ map (λ t. t.now.name) (take l.at l.titles);
}

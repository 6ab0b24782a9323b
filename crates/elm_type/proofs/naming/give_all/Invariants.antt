use Rattle.std.proofs.Common.{◌≡◌, ◌++◌, map, drop, reverse}
use Rattle.elm_type.specs.Naming.{given}
use Rattle.elm_type.specs.Used.{Kept}
use Rattle.elm_type.proofs.naming.give_all.Given as goal

-- the names so far and those to come are all names
abbrev pub invariant-loop-kind : goal.invariant-loop-kind
invariant-loop-kind l = record {
  kept : Kept l.used l.next (reverse l.names.items ++ l.constants);
  names : l.names.items ++ given (map (λ k. k.class) (drop l.kind-index l.kinds)) (reverse l.names.items ++ l.constants) ≡ given (map (λ k. k.class) l.kinds) l.constants;
}

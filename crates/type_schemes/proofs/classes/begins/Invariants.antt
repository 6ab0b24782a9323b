use Rattle.std.proofs.Common.{◌≡◌, drop, nat_eq}
use Rattle.std.specs.List.{starts_with}
use Rattle.type_schemes.proofs.classes.begins.Given as goal

abbrev pub invariant-loop-place : goal.invariant-loop-place
invariant-loop-place l =
    starts_with nat_eq (drop l.place l.units) (drop l.place l.front) ≡ starts_with nat_eq l.units l.front

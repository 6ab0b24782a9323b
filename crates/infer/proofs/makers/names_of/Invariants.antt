use Rattle.std.proofs.Common.{◌≡◌, map, take}
use Rattle.elm_canon.specs.declared.unions.Alternative.{Alternative}
use Rattle.infer.proofs.makers.names_of.Given as goal

abbrev pub invariant-loop-maker : goal.invariant-loop-maker
invariant-loop-maker l = l.names.items ≡ map (λ (c : Alternative). c.name) (take l.maker-index l.makers)

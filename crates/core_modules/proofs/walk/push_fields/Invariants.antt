use Rattle.std.proofs.Common.{◌≡◌, [], ◌∷◌, ◌++◌, flat_map, take}
use Rattle.elm_canon.specs.Names.{Name}
use Rattle.core_modules.specs.PortFaultsSigns.{other}
use Rattle.core_modules.proofs.walk.push_fields.Given as goal

abbrev pub invariant-loop : goal.invariant-loop
invariant-loop l = l.signs.items ≡ l.initial.signs.items ++ flat_map (λ (x : Name). other ∷ []) (take l.index l.fields)

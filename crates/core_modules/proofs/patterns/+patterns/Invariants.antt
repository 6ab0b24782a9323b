use Rattle.std.proofs.Common.{◌≡◌, ◌++◌, ◌∷◌, map, flat_map, take}
use Rattle.elm_canon.specs.View.{pattern_view, patterns_view}
use Rattle.core_modules.specs.PortFaultsSigns.{pattern_signs, patterns_signs, other}
use Rattle.core_modules.proofs.patterns.+patterns.Given as goal

abbrev pub invariant-push_patterns-loop-place : goal.invariant-push_patterns-loop-place
invariant-push_patterns-loop-place l =
    l.signs.items ≡ l.initial.signs.items ++ patterns_signs (patterns_view (take l.place l.patterns.items))

abbrev pub invariant-push_items-loop-place : goal.invariant-push_items-loop-place
invariant-push_items-loop-place l =
    l.signs.items
    ≡ l.initial.signs.items
    ++ flat_map (λ p. other ∷ pattern_signs p) (map pattern_view (take l.place l.patterns.items))

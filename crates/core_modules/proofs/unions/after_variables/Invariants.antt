use Rattle.std.proofs.Common.{◌≡◌, drop, map}
use Rattle.core_modules.specs.Signs.{IsVariable, left_in, rest_view}
use Rattle.core_modules.proofs.unions.after_variables.Given as goal

abbrev pub invariant-loop-name : goal.invariant-loop-name
invariant-loop-name l =
    left_in (map IsVariable (drop l.name-index l.names)) (rest_view l.rest)
    ≡ left_in (map IsVariable l.names) (rest_view l.initial.rest)

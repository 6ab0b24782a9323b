use Rattle.std.proofs.Common.{◌≡◌, drop, map}
use Rattle.core_modules.specs.Signs.{maker_sign, left_in, rest_view}
use Rattle.core_modules.proofs.unions.after_makers.Given as goal

abbrev pub invariant-loop-constructor : goal.invariant-loop-constructor
invariant-loop-constructor l =
    left_in (map maker_sign (drop l.constructor-index l.constructors)) (rest_view l.rest)
    ≡ left_in (map maker_sign l.constructors) (rest_view l.initial.rest)

-- The modules of a build declare types whose variables are their parameters.
use Rattle.std.specs.Prelude.{List, ◌∷◌, ◌++◌}
use Rattle.told_modules.specs.Closed.{HasClosedTypes}
use Rattle.build_safety.specs.Compiled.{Compiled, AreModules}

abbrev pub BuildsAreClosed : Type 0
BuildsAreClosed =
    (before : List Compiled) (c : Compiled) (after : List Compiled) → AreModules (before ++ c ∷ after)
    → HasClosedTypes c.resolved.setting c.resolved.written c.resolved.whole

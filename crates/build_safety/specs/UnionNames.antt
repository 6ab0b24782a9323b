-- The unions of a build by their names.
use Rattle.std.specs.Prelude.{◌≡◌, List, ◌∷◌, ◌++◌}
use Rattle.elm_canon.specs.Tree.{UnionDeclaration}
use Rattle.typed_values.specs.World.{Among}
use Rattle.build_safety.specs.Compiled.{Compiled, home_of, AreModules}
use Rattle.build_safety.specs.BuildWorlds.{constructors, unions_at}

abbrev pub UnionsAreFound : Type 0
UnionsAreFound =
    (before : List Compiled) (c : Compiled) (after : List Compiled) → AreModules (before ++ c ∷ after)
    → (u : UnionDeclaration) → Among u c.resolved.whole.unions
    → unions_at (before ++ c ∷ after) (home_of c) u.name ≡ constructors (home_of c) u

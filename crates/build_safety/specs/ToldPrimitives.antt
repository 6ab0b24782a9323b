-- The functions that no text can say, in the modules of a build. They have the types that the law of programs asks of
-- them; and in the module that defines one, its annotation says no more than what all modules are told of it.
use Rattle.std.specs.Prelude.{◌≡◌, List, ◌∷◌, ◌++◌, Some}
use Rattle.elm_canon.specs.declared.reference.Ref.{Ref}
use Rattle.elm_canon.specs.Tree.{Declaration, Module}
use Rattle.elm_meaning.specs.Functions.{Primitive}
use Rattle.link.specs.Cores.{core_of}
use Rattle.type_items.specs.Solutions.{Values}
use Rattle.typed_values.specs.World.{World, Among}
use Rattle.program_safety.specs.Parts.{IsPrimitiveName, IsEarlier}
use Rattle.build_safety.specs.Compiled.{Compiled, AreModules}
use Rattle.build_safety.specs.Told.{told, part_of}

-- a module defines such a function
pub record IsCore (m : Module) (x : Ref) (p : Primitive) : Type 0 where
  pub declaration : Declaration
  pub among : Among declaration m.declarations
  pub is : core_of declaration ≡ Some (x, p)

abbrev pub PrimitivesAreTold : Type 0
PrimitivesAreTold =
    (w : World) (before : List Compiled) (c : Compiled) (after : List Compiled) (values : Values)
    (ds : List Declaration) (x : Ref) (p : Primitive) → AreModules (before ++ c ∷ after) → IsCore c.resolved.whole x p
    → IsPrimitiveName w (told (before ++ c ∷ after)) (x, p)
    × IsEarlier (told (before ++ c ∷ after)) (part_of c values ds) x

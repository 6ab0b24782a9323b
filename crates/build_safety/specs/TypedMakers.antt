-- What a program of a build has without a body: constructors of unions and of records, and ports.
use Rattle.std.specs.Prelude.{◌≡◌, ℕ, List, ◌∷◌, ◌++◌, map, Option, Some, slice_get}
use Rattle.std.specs.List.{AllByRecursion}
use Rattle.elm_canon.specs.Names.{Name}
use Rattle.elm_canon.specs.Tree.{Declaration, Payload}
use Rattle.type_items.specs.Modules.{known_in}
use Rattle.typed_values.specs.World.{World}
use Rattle.type_safety.specs.Modules.{AreTyped}
use Rattle.emit_size_laws.specs.Small.{NamedProgram, PortsHaveFields}
use Rattle.program_safety.specs.Parts.{AreSome}
use Rattle.link.specs.Link.{Output, Links, link}
use Rattle.link.specs.Programs.{part_of}
use Rattle.project_proper.specs.Resolved.{source_of}
use Rattle.build_safety.specs.Compiled.{Compiled, resolved_of, AreModules}
use Rattle.build_safety.specs.Told.{told}
use Rattle.build_safety.specs.BuildWorlds.{world}
use Rattle.program_safety.specs.Ports.{KeepsPorts}
use Rattle.build_safety.specs.Placed.{Piece}
use Rattle.build_safety.specs.LinkedPieces.{linked_program, linked_pieces}
use Rattle.build_safety.specs.PortWorlds.{Carries, program_world}

-- Some of a module's declarations. Their ports carry what the world says, in records that have words for fields, each
-- once; and no constructor is one that ports build.
pub record IsHeld (w : World) (c : Compiled) (ds : List Declaration) : Type 0 where
  pub some : AreSome ds c.resolved.whole.declarations
  pub carried : AllByRecursion (Carries w.outs w.ins) ds
  pub payloads : PortsHaveFields ds
  pub keeps : AllByRecursion KeepsPorts ds

abbrev pub GivenAreTyped : Type 0
GivenAreTyped =
    (before : List Compiled) (c : Compiled) (after : List Compiled) (outs ins : Name → Option Payload)
    (ds : List Declaration) → AreModules (before ++ c ∷ after) → IsHeld (world (before ++ c ∷ after) outs ins) c ds
    → AreTyped (world (before ++ c ∷ after) outs ins) (known_in c.resolved.whole (told (before ++ c ∷ after))) ds

-- ---- linked programs

abbrev pub PiecesAreTyped : World → List Compiled → List Piece → Type 0
PiecesAreTyped w cs ps = AllByRecursion (λ (q : Piece). AreTyped w (known_in q.0.resolved.whole (told cs)) q.1) ps

abbrev pub LinkedAreTyped : Type 0
LinkedAreTyped =
    (cs : List Compiled) (entry : Compiled) (number : ℕ) (o : Output) → AreModules cs
    → NamedProgram (linked_program cs entry) → slice_get cs number ≡ Some entry
    → link (map part_of (map source_of (resolved_of cs))) number ≡ Links o
    → AllByRecursion KeepsPorts (linked_program cs entry).declarations
    → PiecesAreTyped (program_world cs (linked_program cs entry)) cs (linked_pieces cs entry.resolved.whole.name)

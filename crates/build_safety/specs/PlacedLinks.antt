-- The program that a link makes of the modules of a build. Each module stands in the world of the program as the law of
-- placed programs asks, once two things are known of what the link takes of it: what has no body has its type, and the
-- constructors and patterns are those of the world.
use Rattle.std.specs.Prelude.{List, Option}
use Rattle.std.specs.List.{AllByRecursion}
use Rattle.elm_canon.specs.Names.{Name}
use Rattle.elm_canon.specs.Tree.{Payload}
use Rattle.type_items.specs.Modules.{known_in}
use Rattle.typed_values.specs.World.{World}
use Rattle.typed_values.specs.Simple.{SimpleGroups}
use Rattle.type_safety.specs.Modules.{groups_in, AreTyped}
use Rattle.program_safety.specs.Parts.{primitive_names}
use Rattle.emit_size_laws.specs.Small.{NamedProgram}
use Rattle.build_safety.specs.Compiled.{Compiled, AreModules}
use Rattle.build_safety.specs.Told.{told}
use Rattle.build_safety.specs.Placed.{Piece, ArePlaced}
use Rattle.build_safety.specs.BuildWorlds.{world}
use Rattle.build_safety.specs.LinkedPieces.{linked_pieces, linked_program}

-- constructors and ports have the types that their modules know
abbrev pub AreGiven : World → List Compiled → List Piece → Type 0
AreGiven w cs ps =
    AllByRecursion (λ (q : Piece). AreTyped w (known_in q.0.resolved.whole (told cs)) q.1) ps

-- expressions build and take apart what is of the world
abbrev pub AreSimple : World → List Piece → Type 0
AreSimple w ps = AllByRecursion (λ (q : Piece). SimpleGroups w (groups_in q.1)) ps

-- with any ports
abbrev pub LinksArePlaced : Type 0
LinksArePlaced =
    (cs : List Compiled) (entry : Compiled) (outs ins : Name → Option Payload) → AreModules cs
    → NamedProgram (linked_program cs entry)
    → AreGiven (world cs outs ins) cs (linked_pieces cs entry.resolved.whole.name)
    → AreSimple (world cs outs ins) (linked_pieces cs entry.resolved.whole.name)
    → ArePlaced (world cs outs ins) cs (primitive_names (linked_program cs entry).primitives)
    (linked_pieces cs entry.resolved.whole.name)

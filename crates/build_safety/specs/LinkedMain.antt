-- The program that a link makes of the modules of a build. Its `main` is bound by what the link takes of them. All
-- modules are told that it is a program, of flags that are read as the program reads them. (Elm guide: JavaScript
-- interop, flags; elm/core 1.0.5: Platform.)
use Rattle.std.specs.Prelude.{◌≡◌, ℕ, List, Some, map, slice_get}
use Rattle.link.specs.Link.{Output, Links, link}
use Rattle.link.specs.Programs.{part_of}
use Rattle.emit_size_laws.specs.Small.{NamedProgram}
use Rattle.program_safety.specs.Parts.{primitive_names}
use Rattle.program_safety.specs.Programs.{IsMain}
use Rattle.project_proper.specs.Resolved.{source_of}
use Rattle.build_safety.specs.Compiled.{Compiled, resolved_of, AreModules}
use Rattle.build_safety.specs.Told.{told}
use Rattle.build_safety.specs.Placed.{bound_by}
use Rattle.build_safety.specs.LinkedPieces.{linked_pieces, linked_program}

abbrev pub LinksHaveMain : Type 0
LinksHaveMain =
    (cs : List Compiled) (place : ℕ) (entry : Compiled) (o : Output) → AreModules cs
    → slice_get cs place ≡ Some entry → NamedProgram (linked_program cs entry)
    → link (map part_of (map source_of (resolved_of cs))) place ≡ Links o
    → IsMain (told cs)
    (bound_by (linked_pieces cs entry.resolved.whole.name) (primitive_names (linked_program cs entry).primitives))
    (linked_program cs entry).main (linked_program cs entry).flags

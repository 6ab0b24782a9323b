-- The expressions of a linked program of a build, by the modules that it takes them of.
use Rattle.std.specs.Prelude.{List, Option}
use Rattle.std.specs.List.{AllByRecursion}
use Rattle.elm_canon.specs.Names.{Name}
use Rattle.elm_canon.specs.Tree.{Payload}
use Rattle.emit_size_laws.specs.Small.{NamedProgram}
use Rattle.build_safety.specs.Compiled.{Compiled, AreModules}
use Rattle.build_safety.specs.BuildWorlds.{world}
use Rattle.program_safety.specs.Ports.{KeepsPorts}
use Rattle.build_safety.specs.LinkedPieces.{linked_pieces, linked_program}
use Rattle.build_safety.specs.PlacedLinks.{AreSimple}

-- they are as the law of typed programs asks
abbrev pub LinkedPiecesAreSimple : Type 0
LinkedPiecesAreSimple =
    (cs : List Compiled) (entry : Compiled) (outs ins : Name → Option Payload) → AreModules cs
    → NamedProgram (linked_program cs entry) → AllByRecursion KeepsPorts (linked_program cs entry).declarations
    → AreSimple (world cs outs ins) (linked_pieces cs entry.resolved.whole.name)

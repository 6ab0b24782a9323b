-- Modules whose definitions leave commands and subscriptions as ports made them, and use no constructor of the modules
-- Platform.Cmd and Platform.Sub as a name. So a link takes none of these constructors.
use Rattle.std.specs.Prelude.{List}
use Rattle.std.specs.List.{AllByRecursion}
use Rattle.program_safety.specs.Leaving.{Leaves}
use Rattle.program_safety.specs.Ports.{KeepsPorts}
use Rattle.build_safety.specs.Compiled.{Compiled, AreModules}
use Rattle.build_safety.specs.LinkedPieces.{linked_program}

abbrev pub ModuleLeaves : Compiled → Type 0
ModuleLeaves c = AllByRecursion Leaves c.resolved.whole.declarations

-- all modules that were compiled without faults are such
abbrev pub BuildsLeave : Type 0
BuildsLeave = (cs : List Compiled) → AreModules cs → AllByRecursion ModuleLeaves cs

abbrev pub LinksLeavePorts : Type 0
LinksLeavePorts =
    (cs : List Compiled) (entry : Compiled) → AllByRecursion ModuleLeaves cs
    → AllByRecursion KeepsPorts (linked_program cs entry).declarations

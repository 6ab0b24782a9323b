-- What the output of a build means, and that its program never gets stuck: a rule of the source's meaning applies at
-- each step of each run.
use Rattle.std.specs.Prelude.{◌≡◌, ℕ, ◌<◌, List, length, Some, map, slice_get}
use Rattle.std.specs.List.{AllByRecursion}
use Rattle.std.specs.Str.{IsUtf8}
use Rattle.wire_value.specs.Wire.{Wire}
use Rattle.runs.specs.Trace.{IsRuled}
use Rattle.elm_canon.specs.Names.{Name}
use Rattle.elm_files.specs.Tree.{Tree}
use Rattle.elm_meaning.specs.Run.{Program, SourceRun}
use Rattle.emit_size_laws.specs.Small.{NamedProgram}
use Rattle.link.specs.Link.{Output, Links, link}
use Rattle.link.specs.Programs.{part_of}
use Rattle.program_safety.specs.Programs.{IsInput}
use Rattle.project_parts.specs.Outcomes.{Clean, Text}
use Rattle.project_proper.specs.Resolved.{source_of}
use Rattle.build_safety.specs.Compiled.{Compiled, resolved_of, AreModules}
use Rattle.build_safety.specs.LinkedPieces.{linked_program}
use Rattle.build_safety.specs.SoundWorlds.{HasCore}
use Rattle.build_safety.specs.Meaning.{IsSourceProgram, Translates}

-- With all flags, all inputs at incoming ports of the program, and any fuel, no run ends where no rule applies.
abbrev pub IsNeverStuck : Program → Type 0
IsNeverStuck p =
    (flags : Wire) (inputs : List (Name × Wire)) → AllByRecursion (IsInput p) inputs
    → (n : ℕ) → IsRuled (SourceRun p flags inputs n)

-- ---- the laws

-- of modules that were compiled without faults, the core library among them
abbrev pub LinkedProgramsAreNeverStuck : Type 0
LinkedProgramsAreNeverStuck =
    (cs : List Compiled) (entry : Compiled) (number : ℕ) (o : Output) → AreModules cs → HasCore cs
    → NamedProgram (linked_program cs entry) → slice_get cs number ≡ Some entry
    → link (map part_of (map source_of (resolved_of cs))) number ≡ Links o
    → IsNeverStuck (linked_program cs entry)

-- The text that a build gives has a program, which is what the project's modules mean. The text has one tree, which
-- runs as that program does. That program never gets stuck.
abbrev pub BuildsAreNeverStuck : Type 0
BuildsAreNeverStuck =
    (tree : Tree) (entry output bytes : List ℕ) → IsUtf8 entry → Clean tree entry output (Text bytes)
    → length bytes < 4294967296
    → (p : Program) × IsSourceProgram tree entry p × Translates p bytes × IsNeverStuck p

-- The flags of a program, by the type of its `main`.
use Rattle.std.specs.Prelude.{Option}
use Rattle.elm_type.specs.Types.{Scheme}
use Rattle.emit_size_laws.specs.Small.{FlagsHaveFields}
use Rattle.link.specs.Programs.{flags_by}

-- the records of flags have words for fields, each once
abbrev pub WordsAreFields : Type 0
WordsAreFields = (main : Option Scheme) → FlagsHaveFields (flags_by main)

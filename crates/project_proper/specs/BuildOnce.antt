-- The outcome of a build is determined by the files, the entry and the output. The path of the entry is a text.
use Rattle.std.specs.Prelude.{◌≡◌, ℕ, List}
use Rattle.std.specs.Str.{IsUtf8}
use Rattle.elm_files.specs.Tree.{Tree}
use Rattle.project_parts.specs.Outcomes.{Outcome, Clean}

abbrev pub OneOutcome : Type 0
OneOutcome =
    (tree : Tree) (entry output : List ℕ) (a b : Outcome) → IsUtf8 entry → Clean tree entry output a
    → Clean tree entry output b → a ≡ b

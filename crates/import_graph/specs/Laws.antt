-- What the laws of graphs rest on.
use Rattle.std.specs.Prelude.{◌≡◌, ℕ, List}
use Rattle.import_graph.specs.Modules.{Word}

-- a text imports one list of names
abbrev pub IsDetermined : (List ℕ → List Word → Type 0) → Type 0
IsDetermined has_imports = (text : List ℕ) (words others : List Word) → has_imports text words → has_imports text others → words ≡ others

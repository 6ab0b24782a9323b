-- The files of a module, directory by directory.
use Rattle.std.proofs.Common.{◌≡◌, ℕ, List, [], ◌∷◌, ◌++◌, map, drop, String, Global, string_bytes, Option, Some, None}
use Rattle.std.specs.Prelude.{IfSome}
use Rattle.elm_files.specs.Tree.{Tree}
use Rattle.import_graph.specs.Places.{text_at, text_view, existing, paths_of}
use Rattle.import_graph.specs.declared.places.Source.{Source}

-- the paths below the directories from place i on
abbrev pub paths_left : List (String Global) → List ℕ → ℕ → List (List ℕ)
paths_left directories name i = paths_of (map string_bytes (drop i directories)) name

abbrev pub found_path : Option Source → List (List ℕ)
found_path None = []
found_path (Some s) = string_bytes s.path ∷ []

-- the file that was found, and those at the paths that are left, are all
pub record IsSoFar (tree : Tree) (directories : List (String Global)) (name : List ℕ) (i : ℕ) (found : Option Source) : Type 0 where
  pub paths : found_path found ++ existing tree (paths_left directories name i) ≡ existing tree (paths_left directories name 0)
  pub text : IfSome found (λ s. text_view s ≡ text_at tree (string_bytes s.path))

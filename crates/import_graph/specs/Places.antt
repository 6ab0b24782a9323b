-- Where the module of a name stands. (Elm guide, elm.json.)
use Rattle.std.specs.Prelude.{◌≡◌, ℕ, ◌<◌, ◌≤◌, List, [], ◌∷◌, Option, Some, None, option_map, option_and_then, is_some}
use Rattle.std.specs.Prelude.{if◌then◌else◌, nat_le, length, map, filter, string_bytes, IfSome, ⊤}
use Rattle.elm_files.specs.Tree.{Tree}
use Rattle.project_file.specs.Paths.{inside, path_of}
use Rattle.import_graph.specs.declared.places.Source.{Source}
use Rattle.import_graph.specs.declared.places.Place as program
use Rattle.import_graph.specs.declared.places.Place.TheVariants as program_place
use Rattle.import_graph.specs.declared.places.ReadError.{ReadError}
use Rattle.import_graph.specs.declared.places.ReadError.TheVariants.{File, NoMemory}

-- no source directory has the file of the module, or one has it at this path, or more than one has it. The text of a
-- file is missing if it is over the limit
pub data Place : Type 0 where
  Nowhere : Place
  At : List ℕ → Option (List ℕ) → Place
  Several : Place

-- the text of a file, unless it is over the limit
abbrev pub text_within : List ℕ → Option (List ℕ)
text_within text = if nat_le (length text) 4194304 then Some text else None

-- it is not over the limit
abbrev pub Fits : Option (List ℕ) → Type 0
Fits text = IfSome text (λ bytes. length bytes ≤ 4194304)

abbrev pub text_at : Tree → List ℕ → Option (List ℕ)
text_at tree path = option_and_then text_within (tree path)

-- the text of the file is not over the limit
abbrev pub FileFits : Place → Type 0
FileFits Nowhere = ⊤
FileFits (At path text) = Fits text
FileFits Several = ⊤

-- the paths at which there is a file
abbrev pub existing : Tree → List (List ℕ) → List (List ℕ)
existing tree paths = filter (λ path. is_some (tree path)) paths

abbrev pub place_at : Tree → List (List ℕ) → Place
place_at tree [] = Nowhere
place_at tree (path ∷ []) = At path (text_at tree path)
place_at tree (path ∷ other ∷ more) = Several

-- the paths of the module of a name below the source directories
abbrev pub paths_of : List (List ℕ) → List ℕ → List (List ℕ)
paths_of directories name = map (λ directory. inside directory (path_of name)) directories

abbrev pub place_of : Tree → List (List ℕ) → List ℕ → Place
place_of tree directories name = place_at tree (existing tree (paths_of directories name))

-- ---- of the program

abbrev pub text_view : Source → Option (List ℕ)
text_view s = option_map (λ text. text.items) s.text

abbrev pub place_view : program.Place → Place
place_view program_place.Nowhere = Nowhere
place_view (program_place.At s) = At (string_bytes s.path) (text_view s)
place_view program_place.Several = Several

-- a call ends with a path only if its count of failures rose, and with out of memory only if no count did
abbrev pub HasCause : ReadError → (List ℕ → ℕ) → (List ℕ → ℕ) → Type 0
HasCause (File path) before after = before path < after path
HasCause NoMemory before after = after ≡ before

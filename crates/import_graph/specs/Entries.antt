-- The name of the module at an entry's path. (Elm guide, elm.json.)
use Rattle.std.specs.Prelude.{◌≡◌, ℕ, List, ◌∷◌, Some}
use Rattle.elm_base.specs.Path.{NamesModule}
use Rattle.project_file.specs.Paths.{below}

-- below the directory the path is that of the module of this name
abbrev pub NamesBelow : List ℕ → List ℕ → List ℕ → Type 0
NamesBelow directory path name = (rest : List ℕ) × (below directory path ≡ Some rest) × NamesModule rest name

-- the name of the module below the first source directory below which the path is a module's
pub data NamesEntry (path : List ℕ) : List (List ℕ) → List ℕ → Type 0 where
  here : {directory name : List ℕ} {directories : List (List ℕ)} → NamesBelow directory path name → NamesEntry path (directory ∷ directories) name
  later : {directory name : List ℕ} {directories : List (List ℕ)} → ((other : List ℕ) → NamesBelow directory path other → ⊥) → NamesEntry path directories name
      → NamesEntry path (directory ∷ directories) name

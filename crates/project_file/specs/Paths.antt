-- Paths below a folder. The parts of a path stand between slashes (47).
use Rattle.std.specs.Prelude.{ℕ, List, [], ◌∷◌, ◌++◌, Bool, false, ◌&&◌, not, ◌==◌, if◌then◌else◌, Option, Some, None}
use Rattle.std.specs.Prelude.{codes}
use Rattle.std.specs.List.{filter, slice_split, join_with_byte}
use Rattle.std.specs.Str.{bytes_eq}

-- a part that stays: it is not empty, and not `.`
abbrev pub is_kept : List ℕ → Bool
is_kept part = not (bytes_eq part []) && not (bytes_eq part (codes "."))

-- the path without its empty parts and its parts `.`
abbrev pub normal_path : List ℕ → List ℕ
normal_path path = join_with_byte 47 (filter is_kept (slice_split (λ b. b == 47) path))

-- the path begins at the root
abbrev pub is_absolute : List ℕ → Bool
is_absolute [] = false
is_absolute (c ∷ cs) = c == 47

-- the path of what stands at `path` below a folder; the empty path is that of the folder that all paths stand below
abbrev pub inside : List ℕ → List ℕ → List ℕ
inside [] path = path
inside (c ∷ cs) path = (c ∷ cs) ++ (47 ∷ path)

-- what stands after a front, if the text begins with it
abbrev pub after : List ℕ → List ℕ → Option (List ℕ)
after [] text = Some text
after (c ∷ cs) [] = None
after (c ∷ cs) (d ∷ ds) = if c == d then after cs ds else None

-- where a path stands below a folder, if it does
abbrev pub below : List ℕ → List ℕ → Option (List ℕ)
below [] path = Some path
below (c ∷ cs) path = after ((c ∷ cs) ++ 47 ∷ []) path

-- where the module of a name stands below its source directory: `A.B` at `A/B.elm`. A dot is 46.
abbrev pub path_of : List ℕ → List ℕ
path_of name = join_with_byte 47 (slice_split (λ b. b == 46) name) ++ codes ".elm"

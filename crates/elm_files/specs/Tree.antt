-- Trees of files, and the change of one file.
use Rattle.std.specs.Prelude.{◌≡◌, ◌≢◌, ◌≤◌, ◌<◌, ℕ, List, length, Option, None, Some, option_map, is_some, IsSomeAnd}
use Rattle.std.specs.Prelude.{if◌then◌else◌}
use Rattle.std.specs.Str.{bytes_eq}
use Rattle.elm_files.specs.declared.outside.Got.{Got}
use Rattle.elm_files.specs.declared.outside.Got.TheVariants.{Absent, Bytes, TooLong}

-- what a folder holds: at each path, given by its bytes, the bytes of the file there, or none if the path is absent
abbrev pub Tree : Type 0
Tree = List ℕ → Option (List ℕ)

-- the tree with this file at the path, or with none
abbrev pub put : Tree → List ℕ → Option (List ℕ) → Tree
put tree path file q = if bytes_eq path q then file else tree q

-- the file at the path in the tree, and none if no tree is told
abbrev pub file_at : Option Tree → List ℕ → Option (List ℕ)
file_at None path = None
file_at (Some tree) path = tree path

-- the tree with these bytes as the file at the path; none if no tree is told
abbrev pub with_file : Option Tree → List ℕ → List ℕ → Option Tree
with_file told path bytes = option_map (λ tree. put tree path (Some bytes)) told

-- a tree is told after exactly when one was told before, and the two agree at each path except this one
pub record SameElsewhere (path : List ℕ) (old new : Option Tree) : Type 0 where
  pub told : is_some new ≡ is_some old
  pub others : (q : List ℕ) → q ≢ path → file_at new q ≡ file_at old q

-- the result of a read of at most `limit` bytes, by what the path holds: absent if there is no file, its bytes if they
-- are within the limit, and otherwise too long
abbrev pub IsReadOf : Option (List ℕ) → ℕ → Got → Type 0
IsReadOf file limit Absent = file ≡ None
IsReadOf file limit (Bytes bytes) = (file ≡ Some bytes.items) × (length bytes.items ≤ limit)
IsReadOf file limit TooLong = IsSomeAnd file (λ bytes. limit < length bytes)

-- bytes that were read are within the limit, whether a tree is told or not
abbrev pub IsWithin : ℕ → Got → Type 0
IsWithin limit Absent = Unit {0}
IsWithin limit (Bytes bytes) = length bytes.items ≤ limit
IsWithin limit TooLong = Unit {0}

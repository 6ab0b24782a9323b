-- The names of a program, which is a tree of its own kind.
use Rattle.std.specs.Prelude.{Bool, false}
use Rattle.js_tree.specs.Postorder.{Tree, ProgramOf}
use Rattle.js_tree.specs.Subset.{is_program_bound}

-- the tree is a program, each name is bound where it is used, and no name that is assigned occurs in a function nested
-- in its scope
abbrev pub names_bound : Tree → Bool
names_bound (ProgramOf p) = is_program_bound p
names_bound _ = false

-- The local names in scope, each with the place where it is bound.
use Rattle.std.specs.Prelude.{List, [], ◌∷◌, Bool, if◌then◌else◌, Option, Some, None}
use Rattle.elm_tree.specs.Tree.{Pos, Word}
use Rattle.elm_canon.specs.Names.{Name, same_name}
use Rattle.canon_env.specs.Imports.{name_of}

abbrev pub Locals : Type 0
Locals = Name → Option Pos

abbrev pub no_locals : Locals
no_locals x = None

-- with these names; of one name twice the first counts
abbrev pub with_names : List Word → Locals → Locals
with_names [] locals x = locals x
with_names (w ∷ ws) locals x = if same_name (name_of w) x then Some w.place else with_names ws locals x

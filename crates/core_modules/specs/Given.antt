-- The types that core modules have without a text, and the imports by which they are in scope in all of them.
-- (elm/core 1.0.5: Basics, Char, List, String.)
use Rattle.std.specs.Prelude.{List, [], ◌∷◌, codes, map, if◌then◌else◌}
use Rattle.elm_canon.specs.Names.{Name, same_name}
use Rattle.elm_canon.specs.Unions.{Declared}
use Rattle.elm_canon.specs.Tree.{UnionDeclaration}
use Rattle.canon_env.specs.Imports.{Import, Everything, import_view}
use Rattle.canon_env.specs.Shown.{Shown, shown_view}
use Rattle.core_modules.specs.declared.given.GivenImport.{GivenImport}

-- a type of a module of which nothing but its parameters is known
abbrev pub opaque_type : Name → Name → List Name → UnionDeclaration
opaque_type home x parameters =
    record { name = x; union = Declared home x []; parameters = parameters; fields = [] }

abbrev pub given_types : Name → List UnionDeclaration
given_types home =
    if same_name home (codes "Basics") then opaque_type home (codes "Int") [] ∷ []
    else (if same_name home (codes "Char") then opaque_type home (codes "Char") [] ∷ []
    else (if same_name home (codes "List") then opaque_type home (codes "List") (codes "a" ∷ []) ∷ []
    else (if same_name home (codes "String") then opaque_type home (codes "String") [] ∷ []
    else [])))

-- the import of all that a module has without a text
abbrev pub given_import : Name → Import × Shown
given_import home = (
  record { home = home; qualifier = home; exposes = Everything },
  record { values = []; unions = given_types home; aliases = [] },
)

-- those that each core module has without writing them
abbrev pub given_imports : List (Import × Shown)
given_imports = map given_import (codes "Basics" ∷ codes "Char" ∷ codes "List" ∷ codes "String" ∷ [])

abbrev pub given_view : GivenImport → Import × Shown
given_view i = (import_view i.import, shown_view i.shown)

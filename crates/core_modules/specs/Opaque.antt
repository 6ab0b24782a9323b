-- Types of which nothing but their parameters is known, and imports of types, part by part.
use Rattle.std.specs.Prelude.{List, []}
use Rattle.elm_canon.specs.Names.{Name}
use Rattle.elm_canon.specs.Unions.{Union}
use Rattle.elm_canon.specs.Tree.{UnionDeclaration}
use Rattle.canon_env.specs.Imports.{Import, Everything}
use Rattle.canon_env.specs.Shown.{Shown}

abbrev pub opaque : Name → Union → List Name → UnionDeclaration
opaque x u parameters = record { name = x; union = u; parameters = parameters; fields = [] }

-- of all that a module has
abbrev pub import_with : Name → Name → List UnionDeclaration → Import × Shown
import_with home qualifier unions = (
  record { home = home; qualifier = qualifier; exposes = Everything },
  record { values = []; unions = unions; aliases = [] },
)

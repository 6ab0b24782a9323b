-- Imports: of which module, with which qualifier, and what is exposed without one. (Elm guide: modules; elm/core
-- 1.0.5: the default imports.) Operators are always in scope.
use Rattle.std.specs.Prelude.{ℕ, List, [], ◌∷◌, Bool, true, false, map, unwrap_or, codes}
use Rattle.std.specs.List.{list_any}
use Rattle.std.specs.Str.Lossy.{utf8_lossy}
use Rattle.elm_base.specs.Units.{text_units}
use Rattle.elm_tree.specs.Tree as tree
use Rattle.elm_canon.specs.Names.{Name, same_name}
use Rattle.canon_env.specs.declared.import.Exposed.{Exposed}
use Rattle.canon_env.specs.declared.import.Exposed.TheVariants as exposed
use Rattle.canon_env.specs.declared.import.Exposing as exposing_part
use Rattle.canon_env.specs.declared.import.Import as program

-- what is exposed
pub data Exposing : Type 0 where
  Everything : Exposing
  These : List Exposed → Exposing

pub record Import : Type 0 where
  pub home : Name
  pub qualifier : Name
  pub exposes : Exposing

abbrev pub exposing_view : exposing_part.Exposing → Exposing
exposing_view exposing_part.Exposing.Everything = Everything
exposing_view (exposing_part.Exposing.These es) = These es.items

abbrev pub import_view : program.Import → Import
import_view i = record { home = i.home; qualifier = i.qualifier; exposes = exposing_view i.exposes }

-- ---- an import as it is written

-- the name that a word spells, whose text is UTF-8
unfoldable pub name_of : tree.Word → Name
name_of w = text_units (utf8_lossy w.text)

abbrev pub exposed_of : tree.Exposed → Exposed
exposed_of (tree.OneValue w) = exposed.Value (name_of w)
exposed_of (tree.OneType w) = exposed.Type (name_of w)
exposed_of (tree.OpenType w) = exposed.OpenType (name_of w)
exposed_of (tree.OneOperator w) = exposed.Operator (name_of w)

abbrev pub exposing_of : tree.Exposing → Exposing
exposing_of tree.Everything = Everything
exposing_of (tree.These es) = These (map exposed_of es)

abbrev pub import_of : tree.Import → Import
import_of i = record {
  home = name_of i.name;
  qualifier = name_of (unwrap_or i.alias i.name);
  exposes = exposing_of i.exposes;
}

-- ---- what is exposed by it

abbrev pub names_value : Name → Exposed → Bool
names_value x (exposed.Value y) = same_name x y
names_value x _ = false

abbrev pub names_type : Name → Exposed → Bool
names_type x (exposed.Type y) = same_name x y
names_type x (exposed.OpenType y) = same_name x y
names_type x _ = false

abbrev pub opens_type : Name → Exposed → Bool
opens_type x (exposed.OpenType y) = same_name x y
opens_type x _ = false

abbrev pub exposes_by : (Exposed → Bool) → Exposing → Bool
exposes_by test Everything = true
exposes_by test (These es) = list_any test es

abbrev pub exposes_value : Exposing → Name → Bool
exposes_value e x = exposes_by (names_value x) e

abbrev pub exposes_type : Exposing → Name → Bool
exposes_type e x = exposes_by (names_type x) e

abbrev pub exposes_makers : Exposing → Name → Bool
exposes_makers e x = exposes_by (opens_type x) e

-- ---- the imports that each module has without writing them

-- of a module, with a qualifier; both names are in UTF-8
abbrev pub import_named : List ℕ → List ℕ → Exposing → Import
import_named home qualifier e = record { home = text_units home; qualifier = text_units qualifier; exposes = e }

abbrev pub only : Exposed → Exposing
only e = These (e ∷ [])

abbrev pub qualified : List ℕ → Import
qualified home = import_named home home (These [])

-- with a type, but not its constructors
abbrev pub with_type : List ℕ → List ℕ → List ℕ → Import
with_type home qualifier x = import_named home qualifier (only (exposed.Type (text_units x)))

-- with the type of the module's name and its constructors
abbrev pub with_makers : List ℕ → Import
with_makers home = import_named home home (only (exposed.OpenType (text_units home)))

unfoldable pub more_imports : List Import
more_imports =
    with_type (codes "Char") (codes "Char") (codes "Char")
    ∷ qualified (codes "Tuple")
    ∷ qualified (codes "Debug")
    ∷ with_type (codes "Platform") (codes "Platform") (codes "Program")
    ∷ with_type (codes "Platform.Cmd") (codes "Cmd") (codes "Cmd")
    ∷ with_type (codes "Platform.Sub") (codes "Sub") (codes "Sub")
    ∷ []

unfoldable pub default_imports : List Import
default_imports =
    import_named (codes "Basics") (codes "Basics") Everything
    ∷ with_type (codes "List") (codes "List") (codes "List")
    ∷ with_makers (codes "Maybe")
    ∷ with_makers (codes "Result")
    ∷ with_type (codes "String") (codes "String") (codes "String")
    ∷ more_imports

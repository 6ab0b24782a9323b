-- What a module can name, and what its uses of names mean. (Elm guide: modules.)
use Rattle.std.specs.Prelude.{ℕ, List, [], ◌∷◌}
use Rattle.std.specs.Str.Lossy.{utf8_lossy}
use Rattle.elm_base.specs.Units.{text_units}
use Rattle.elm_tree.specs.Tree.{Word, Long}
use Rattle.elm_canon.specs.Names.{Name}
use Rattle.canon_env.specs.Found as found
use Rattle.canon_env.specs.Found.{Found}
use Rattle.canon_env.specs.Shown.{TypeMeaning, MakerMeaning}
use Rattle.canon_env.specs.Env.{Rows, IsEnvOf}
use Rattle.canon_env.specs.declared.env.World as program

-- a module's name, its own things and those of its imports
pub record World : Type 0 where
  pub name : Name
  pub own : Rows
  pub imported : Rows

-- what the program keeps of it
pub record IsWorld (world : program.World) (w : World) : Type 0 where
  pub own : IsEnvOf world.own w.own
  pub imported : IsEnvOf world.imported w.imported

-- the name that a text in UTF-8 spells
unfoldable pub spelled : List ℕ → Name
spelled text = text_units (utf8_lossy text)

abbrev pub qualifier_of : Long → Name
qualifier_of x = spelled x.qualifier

abbrev pub own_name : Long → Name
own_name x = spelled x.text

abbrev pub value_found : World → Long → Found (Unit {0})
value_found w x = found.look w.own.values w.imported.values (qualifier_of x) (own_name x)

abbrev pub type_found : World → Long → Found TypeMeaning
type_found w x = found.look w.own.types w.imported.types (qualifier_of x) (own_name x)

abbrev pub maker_found : World → Long → Found MakerMeaning
maker_found w x = found.look w.own.makers w.imported.makers (qualifier_of x) (own_name x)

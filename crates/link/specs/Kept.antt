-- What the program keeps of names and ports; for private clauses.
use Rattle.std.specs.Prelude.{◌≡◌, ℕ, List}
use Rattle.indexmap.specs.IndexMap.{get}
use Rattle.elm_canon.specs.Names.{Name, same_name}
use Rattle.link.specs.Names.{TopName, same_top}
use Rattle.link.specs.Reached.{place_of}
use Rattle.link.specs.Link.{first_home}
use Rattle.link.specs.declared.places.Places.{Places}
use Rattle.link.specs.declared.clashes.Homes.{Homes}

-- the map has the places of those that declare names
abbrev pub Numbered : Places → List (List TopName) → Type 0
Numbered places each = (x : TopName) → get same_top places.by_name x ≡ place_of each x

-- the map has the module of the first port of each name
abbrev pub IsHomes : Homes → List (Name × Name) → Type 0
IsHomes homes before = (x : Name) → get same_name homes.by_port x ≡ first_home before x

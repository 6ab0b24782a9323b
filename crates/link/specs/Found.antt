-- Where ports are declared, as the program keeps it; for private clauses.
use Rattle.std.specs.Prelude.{◌≡◌, List, unwrap_or}
use Rattle.elm_canon.specs.Names.{Name, same_name}
use Rattle.elm_canon.specs.Tree.{PortDeclaration}
use Rattle.indexmap.specs.IndexMap.{get}
use Rattle.link.specs.Made.{start, port_place}
use Rattle.link.specs.declared.fragments_places.Places.{Places}

abbrev pub IsPlaces : Places → List PortDeclaration → Type 0
IsPlaces places ports = (x : Name) → unwrap_or (get same_name places.by_name x) start ≡ port_place ports x

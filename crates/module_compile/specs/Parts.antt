-- What is kept of the imports of a module, as plain data.
use Rattle.std.specs.Prelude.{◌≡◌, ℕ, List, Bool, Option, option_map, map, flat_map, unwrap_or, if◌then◌else◌}
use Rattle.std.specs.Str.{bytes_eq}
use Rattle.std.specs.declared.alloc.Global.{Global}
use Rattle.std.specs.declared.sync.Arc.{Arc}
use Rattle.indexmap.specs.IndexMap.{IndexMap, get}
use Rattle.elm_canon.specs.Names.{Name, same_name}
use Rattle.interface.specs.View.{interface_view}
use Rattle.import_graph.specs.declared.found.Found.{Found}
use Rattle.import_graph.specs.declared.found.Found.TheVariants.{Nowhere}
use Rattle.module_offers.specs.Offers.{Interfaces}
use Rattle.module_made.specs.Around.{Around, in_project, in_core}
use Rattle.module_compile.specs.declared.offered.Offered.{Offered}

-- which modules have a name: none, unless it is told
unfoldable pub found_view : {S : Type 0} → IndexMap (List ℕ) Found S → List ℕ → Found
found_view found name = unwrap_or (get bytes_eq found name) Nowhere

unfoldable pub interfaces_view : {S : Type 0} → IndexMap Name (Arc Offered Global) S → Interfaces
interfaces_view interfaces x = option_map (λ o. interface_view o.value.interface) (get same_name interfaces x)

-- a module of the core library, or one of a project
abbrev pub around_of : Bool → List ℕ → (List ℕ → Found) → Interfaces → Around
around_of is_core = if is_core then in_core else in_project

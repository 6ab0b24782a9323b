-- What the sets of the program let through.
use Rattle.std.specs.Prelude.{◌≡◌, Bool, ◌||◌}
use Rattle.indexmap.specs.IndexSet.{contains}
use Rattle.elm_canon.specs.Names.{Name, same_name}
use Rattle.canon_env.specs.Imports.{Exposing, exposes_value, exposes_type, exposes_makers, names_value, names_type}
use Rattle.canon_env.specs.Imports.{opens_type}
use Rattle.canon_env.specs.declared.import.Exposed.{Exposed}
use Rattle.canon_env.specs.declared.filter.Filter.{Filter}

abbrev pub filter_value : Filter → Name → Bool
filter_value f x = f.is_open || contains same_name f.values x

abbrev pub filter_type : Filter → Name → Bool
filter_type f x = f.is_open || contains same_name f.types x

abbrev pub filter_makers : Filter → Name → Bool
filter_makers f x = f.is_open || contains same_name f.makers x

-- it lets through what is exposed
pub record Filters (f : Filter) (e : Exposing) : Type 0 where
  pub values : (x : Name) → filter_value f x ≡ exposes_value e x
  pub types : (x : Name) → filter_type f x ≡ exposes_type e x
  pub makers : (x : Name) → filter_makers f x ≡ exposes_makers e x

-- with one entry more
pub record FiltersMore (old new : Filter) (e : Exposed) : Type 0 where
  pub values : (x : Name) → filter_value new x ≡ (filter_value old x || names_value x e)
  pub types : (x : Name) → filter_type new x ≡ (filter_type old x || names_type x e)
  pub makers : (x : Name) → filter_makers new x ≡ (filter_makers old x || opens_type x e)

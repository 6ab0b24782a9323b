-- What stands for the parameters of an alias, as the program keeps it.
use Rattle.std.specs.Prelude.{◌≡◌, List, [], ◌∷◌, Option, Some, None, if◌then◌else◌, option_map}
use Rattle.indexmap.specs.IndexMap.{get}
use Rattle.elm_canon.specs.Names.{Name, same_name}
use Rattle.elm_canon.specs.Tree as plain
use Rattle.elm_canon.specs.View.{annotation_view, NamedType}
use Rattle.canon_env.specs.Expanding as sites
use Rattle.canon_env.specs.Expanding.{fill, bad_fields}
use Rattle.canon_type.specs.declared.filling.Filling.{Filling}

-- what stands for a, if anything does
abbrev pub looked_up : sites.Filling → Name → Option plain.Annotation
looked_up [] a = None
looked_up (f ∷ fs) a = if same_name f.0 a then Some f.1 else looked_up fs a

-- the program's filling is this one
abbrev pub Fills : Filling → sites.Filling → Type 0
Fills filling s =
    (a : Name) → option_map (λ t. annotation_view t.value) (get same_name filling.by_name a) ≡ looked_up s a

-- the type stands for the first of these names, if there is one
abbrev pub entry : List Name → plain.Annotation → sites.Filling
entry [] t = []
entry (a ∷ names) t = (a, t) ∷ []

abbrev pub filled_field : sites.Filling → NamedType → NamedType
filled_field s f = (f.0, fill s f.1)

-- a record over what stands for its base
abbrev pub filled_over : sites.Filling → Option Name → plain.FieldTypes → plain.Annotation
filled_over s None fs = plain.RecordType fs
filled_over s (Some a) fs = sites.extended (sites.filled_in s a) fs

-- the fields that extend what they may not
abbrev pub bad_field : sites.Filling → NamedType → List Name
bad_field s f = bad_fields s f.1

-- Which declarations of a module its declarations use, by the names of values. (Elm guide: modules.)
use Rattle.std.specs.Prelude.{ℕ, suc, List, [], ◌∷◌, Bool, Option, Some, None, option_map, option_and_then, map, filter_map}
use Rattle.std.specs.Prelude.{if◌then◌else◌}
use Rattle.std.specs.List.{list_any}
use Rattle.elm_canon.specs.Names.{Name, same_name}
use Rattle.elm_canon.specs.declared.reference.Ref.{Ref}
use Rattle.elm_canon.specs.declared.reference.Ref.TheVariants.{Local, Top}
use Rattle.elm_tree.specs.Tree.{Declaration}
use Rattle.canon_env.specs.Imports.{name_of}
use Rattle.canon_module.specs.Names.{names_of}

-- the names of values that a declaration declares
abbrev pub value_names : Declaration → List Name
value_names d = map name_of (names_of d).values

abbrev pub value_names_each : List Declaration → List (List Name)
value_names_each ds = map value_names ds

abbrev pub is_named : Name → List Name → Bool
is_named x ys = list_any (λ y. same_name y x) ys

-- the first declaration that declares the name
abbrev pub number_of : List (List Name) → Name → Option ℕ
number_of [] x = None
number_of (ys ∷ rest) x = if is_named x ys then Some 0 else option_map suc (number_of rest x)

-- a name of this module
abbrev pub own_name : Name → Ref → Option Name
own_name home (Local x) = None
own_name home (Top m x) = if same_name m home then Some x else None

abbrev pub used_number : Name → List (List Name) → Ref → Option ℕ
used_number home each r = option_and_then (number_of each) (own_name home r)

-- the declarations that these names are of, in turn
abbrev pub used_numbers : Name → List (List Name) → List Ref → List ℕ
used_numbers home each refs = filter_map (used_number home each) refs

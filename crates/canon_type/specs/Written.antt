-- The types that a module declares, as they are written, and the variables and names in a written type. (Elm guide:
-- custom types, type aliases, records.)
use Rattle.std.specs.Prelude.{List, [], ◌∷◌, ◌++◌, Option, Some, None, map, filter_map}
use Rattle.elm_tree.specs.Tree as tree
use Rattle.elm_tree.specs.Tree.{Word, Long, TypeTree, TypeVariable, TypeName, TypeTrees, NoType, MoreType, Declaration}
use Rattle.elm_canon.specs.Names.{Name}
use Rattle.canon_env.specs.Imports.{name_of}

-- type alias T a b = t
pub record AliasTree : Type 0 where
  pub name : Word
  pub parameters : List Word
  pub body : TypeTree

abbrev pub alias_in : Declaration → Option AliasTree
alias_in (tree.Alias x ps t) = Some (record { name = x; parameters = ps; body = t })
alias_in _ = None

abbrev pub union_name_in : Declaration → Option Name
union_name_in (tree.Union x ps cs) = Some (name_of x)
union_name_in _ = None

abbrev pub aliases_in : List Declaration → List AliasTree
aliases_in ds = filter_map alias_in ds

abbrev pub union_names_in : List Declaration → List Name
union_names_in ds = filter_map union_name_in ds

abbrev pub alias_names : List AliasTree → List Name
alias_names aliases = map (λ a. name_of a.name) aliases

-- ---- the variables in a type, a record's base among them

abbrev mutual
  pub variables_in : TypeTree → List Word
  variables_in (TypeVariable a) = a ∷ []
  variables_in (TypeName x ts) = variables_in_all ts
  variables_in (tree.FunctionType ts) = variables_in_all ts
  variables_in (tree.TupleType ts) = variables_in_all ts
  variables_in (tree.RecordType fs) = variables_in_fields fs
  variables_in (tree.ExtendedType a fs) = a ∷ variables_in_fields fs

  pub variables_in_all : TypeTrees → List Word
  variables_in_all NoType = []
  variables_in_all (MoreType t ts) = variables_in t ++ variables_in_all ts

  pub variables_in_fields : tree.FieldTypes → List Word
  variables_in_fields tree.NoFieldType = []
  variables_in_fields (tree.MoreFieldType x t fs) = variables_in t ++ variables_in_fields fs

-- ---- the names of types in a type

abbrev mutual
  pub names_in : TypeTree → List Long
  names_in (TypeVariable a) = []
  names_in (TypeName x ts) = x ∷ names_in_all ts
  names_in (tree.FunctionType ts) = names_in_all ts
  names_in (tree.TupleType ts) = names_in_all ts
  names_in (tree.RecordType fs) = names_in_fields fs
  names_in (tree.ExtendedType a fs) = names_in_fields fs

  pub names_in_all : TypeTrees → List Long
  names_in_all NoType = []
  names_in_all (MoreType t ts) = names_in t ++ names_in_all ts

  pub names_in_fields : tree.FieldTypes → List Long
  names_in_fields tree.NoFieldType = []
  names_in_fields (tree.MoreFieldType x t fs) = names_in t ++ names_in_fields fs

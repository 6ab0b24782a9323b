-- What written types mean, with their aliases expanded, and their sites. (Elm guide: types, type aliases, records.)
use Rattle.std.specs.Prelude.{List, [], ◌∷◌, ◌++◌}
use Rattle.elm_canon.specs.Tree.{Annotation, Variable, FunctionType, TupleType, RecordType, ExtendedType}
use Rattle.elm_canon.specs.Tree.{Annotations, NoAnnotation, MoreAnnotation, FieldTypes, NoFieldType, MoreFieldType}
use Rattle.elm_tree.specs.Tree as tree
use Rattle.elm_tree.specs.Tree.{Word, TypeTree, TypeVariable, TypeName, TypeTrees, NoType, MoreType}
use Rattle.canon_env.specs.Imports.{name_of}
use Rattle.canon_env.specs.Naming.{World, own_name, type_found}
use Rattle.canon_env.specs.Expanding.{blank, applied}
use Rattle.canon_env.specs.Sites.{Site, TypeUse, FieldsTogether}

-- ---- the type

-- t -> u -> v, of which the last is the result
abbrev pub function_of : Annotations → Annotation
function_of NoAnnotation = blank
function_of (MoreAnnotation t NoAnnotation) = t
function_of (MoreAnnotation t (MoreAnnotation u ts)) = FunctionType t (function_of (MoreAnnotation u ts))

abbrev mutual
  pub type_of : World → TypeTree → Annotation
  type_of w (TypeVariable a) = Variable (name_of a)
  type_of w (TypeName x ts) = applied (own_name x) (type_found w x) (types_of w ts)
  type_of w (tree.FunctionType ts) = function_of (types_of w ts)
  type_of w (tree.TupleType ts) = TupleType (types_of w ts)
  type_of w (tree.RecordType fs) = RecordType (field_types_of w fs)
  type_of w (tree.ExtendedType a fs) = ExtendedType (name_of a) (field_types_of w fs)

  pub types_of : World → TypeTrees → Annotations
  types_of w NoType = NoAnnotation
  types_of w (MoreType t ts) = MoreAnnotation (type_of w t) (types_of w ts)

  pub field_types_of : World → tree.FieldTypes → FieldTypes
  field_types_of w tree.NoFieldType = NoFieldType
  field_types_of w (tree.MoreFieldType x t fs) = MoreFieldType (name_of x) (type_of w t) (field_types_of w fs)

-- ---- its sites

abbrev pub field_words : tree.FieldTypes → List Word
field_words tree.NoFieldType = []
field_words (tree.MoreFieldType x t fs) = x ∷ field_words fs

abbrev mutual
  pub type_sites : World → TypeTree → List Site
  type_sites w (TypeVariable a) = []
  type_sites w (TypeName x ts) = type_sites_in w ts ++ TypeUse x (types_of w ts) ∷ []
  type_sites w (tree.FunctionType ts) = type_sites_in w ts
  type_sites w (tree.TupleType ts) = type_sites_in w ts
  type_sites w (tree.RecordType fs) = field_type_sites w fs ++ FieldsTogether (field_words fs) ∷ []
  type_sites w (tree.ExtendedType a fs) = field_type_sites w fs ++ FieldsTogether (field_words fs) ∷ []

  pub type_sites_in : World → TypeTrees → List Site
  type_sites_in w NoType = []
  type_sites_in w (MoreType t ts) = type_sites w t ++ type_sites_in w ts

  pub field_type_sites : World → tree.FieldTypes → List Site
  field_type_sites w tree.NoFieldType = []
  field_type_sites w (tree.MoreFieldType x t fs) = type_sites w t ++ field_type_sites w fs

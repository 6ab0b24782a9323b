-- The kinds of the variables of an annotation.
use Rattle.std.specs.Prelude.{List, [], ◌∷◌, ◌++◌, map, Option, Some, None, if◌then◌else◌}
use Rattle.std.specs.List.{flat_map}
use Rattle.std.specs.Str.{bytes_eq}
use Rattle.std.specs.HashSet as bag
use Rattle.std.specs.HashSet.{HashSet}
use Rattle.std.specs.Prelude.{◌≡◌}
use Rattle.elm_canon.specs.Tree.{Annotation, Variable, NamedType, FunctionType, TupleType, RecordType, ExtendedType}
use Rattle.elm_canon.specs.Tree.{Annotations, NoAnnotation, MoreAnnotation, FieldTypes, NoFieldType, MoreFieldType}
use Rattle.elm_canon.specs.Tree as plain
use Rattle.elm_canon.specs.View as view
use Rattle.elm_type.specs.Types.{Name, Kind}
use Rattle.elm_type.specs.Ground.{contains}
use Rattle.type_items.specs.Annotations.{name_class, once}
use Rattle.type_schemes.specs.declared.beside.Beside.{Beside}

-- a variable, and a field that is written beside it
abbrev pub Pair : Type 0
Pair = Name × Name

abbrev pub pair_view : Beside → Pair
pair_view b = (b.variable, b.field)

-- in order of appearance
abbrev mutual
  pub besides : Annotation → List Pair
  besides (Variable b) = []
  besides (NamedType m x ts) = besides_all ts
  besides (FunctionType t u) = besides t ++ besides u
  besides (TupleType ts) = besides_all ts
  besides (RecordType fs) = besides_fields fs
  besides (ExtendedType b fs) = map (λ k. (b, k)) (plain.field_names fs) ++ besides_fields fs

  pub besides_all : Annotations → List Pair
  besides_all NoAnnotation = []
  besides_all (MoreAnnotation t ts) = besides t ++ besides_all ts

  pub besides_fields : FieldTypes → List Pair
  besides_fields NoFieldType = []
  besides_fields (MoreFieldType k t fs) = besides t ++ besides_fields fs

-- the fields beside one variable
abbrev pub field_of : Name → Pair → List Name
field_of a p = if bytes_eq a p.0 then p.1 ∷ [] else []

abbrev pub fields_beside : Name → List Pair → List Name
fields_beside a ps = flat_map (field_of a) ps

-- a name more, unless it is there
abbrev pub noted : Name → List Name → List Name
noted x names = if contains x names then names else names ++ x ∷ []

-- the field of a pair more, if it is beside the variable
abbrev pub noted_beside : Name → Pair → List Name → List Name
noted_beside a p names = if bytes_eq a p.0 then noted p.1 names else names

-- the pairs of a record's fields
abbrev pub base_pairs : Option Name → List view.NamedType → List Pair
base_pairs None fs = []
base_pairs (Some b) fs = map (λ f. (b, f.0)) fs

abbrev pub field_pairs : view.NamedType → List Pair
field_pairs f = besides f.1

-- the set has the names of the list
abbrev pub HasNames : {S : Type 0} → HashSet Name S → List Name → Type 0
HasNames seen names = (x : Name) → bag.contains bytes_eq seen x ≡ contains x names

-- the kind of a variable, by the pairs
abbrev pub kind_in : List Pair → Name → Kind
kind_in ps a = record { class = name_class a; lacks = once (fields_beside a ps) [] }

-- Annotations: their types, and what they ask of their variables. (Elm guide: type annotations, constrained type
-- variables.)
use Rattle.std.specs.Prelude.{ℕ, List, [], ◌∷◌, ◌++◌, Bool, Option, Some, None, is_none, map, filter, flat_map, nat_eq}
use Rattle.std.specs.Prelude.{if◌then◌else◌, codes}
use Rattle.std.specs.List.{starts_with, position_or_len}
use Rattle.std.specs.Map.{lookup}
use Rattle.std.specs.Str.{bytes_eq}
use Rattle.elm_base.specs.declared.position.Pos.{Pos}
use Rattle.elm_canon.specs.Tree.{Annotation, Variable, NamedType, FunctionType, TupleType, RecordType, ExtendedType}
use Rattle.elm_canon.specs.Tree.{Annotations, NoAnnotation, MoreAnnotation, FieldTypes, NoFieldType, MoreFieldType}
use Rattle.elm_canon.specs.Tree.{field_names}
use Rattle.elm_type.specs.Types.{Name, ElmType, ElmTypes, Fields, Made, Record, NoType, MoreType, NoField, Closed}
use Rattle.elm_type.specs.Types.{variable, function, Rigid, Leaf, Free, Fixed, Kind, Scheme}
use Rattle.elm_type.specs.Rows.{insert_field, extend}
use Rattle.elm_type.specs.declared.class.Class.{Class}
use Rattle.elm_type.specs.declared.class.Class.TheVariants.{Any, Number, Comparable, Appendable, CompAppend}
use Rattle.elm_type.specs.declared.head.Head.TheVariants as head
use Rattle.elm_type.specs.Ground.{contains}
use Rattle.type_items.specs.Items.{Place, Wanted, at, Item, kind_items}
use Rattle.type_items.specs.Scopes.{Constants}

-- ---- variables

abbrev pub begins : Name → Name → Bool
begins x front = starts_with nat_eq x front

-- a variable whose name begins with that of a class has the class
abbrev pub name_class : Name → Class
name_class x =
    if begins x (codes "number") then Number
    else (if begins x (codes "comparable") then Comparable
    else (if begins x (codes "appendable") then Appendable
    else (if begins x (codes "compappend") then CompAppend else Any)))

-- the variables of an annotation, as they are written
abbrev mutual
  pub written : Annotation → List Name
  written (Variable a) = a ∷ []
  written (NamedType m x ts) = written_all ts
  written (FunctionType t u) = written t ++ written u
  written (TupleType ts) = written_all ts
  written (RecordType fs) = written_fields fs
  written (ExtendedType a fs) = a ∷ written_fields fs

  pub written_all : Annotations → List Name
  written_all NoAnnotation = []
  written_all (MoreAnnotation t ts) = written t ++ written_all ts

  pub written_fields : FieldTypes → List Name
  written_fields NoFieldType = []
  written_fields (MoreFieldType k t fs) = written t ++ written_fields fs

-- each name once, by its first place, and without those that were seen
abbrev pub once : List Name → List Name → List Name
once [] seen = []
once (a ∷ as_) seen = if contains a seen then once as_ seen else a ∷ once as_ (a ∷ seen)

-- in order of appearance
abbrev pub variables_of : Annotation → List Name
variables_of annotation = once (written annotation) []

-- the fields that an annotation writes beside a variable
abbrev mutual
  pub beside : Name → Annotation → List Name
  beside a (Variable b) = []
  beside a (NamedType m x ts) = beside_all a ts
  beside a (FunctionType t u) = beside a t ++ beside a u
  beside a (TupleType ts) = beside_all a ts
  beside a (RecordType fs) = beside_fields a fs
  beside a (ExtendedType b fs) = (if bytes_eq a b then field_names fs else []) ++ beside_fields a fs

  pub beside_all : Name → Annotations → List Name
  beside_all a NoAnnotation = []
  beside_all a (MoreAnnotation t ts) = beside a t ++ beside_all a ts

  pub beside_fields : Name → FieldTypes → List Name
  beside_fields a NoFieldType = []
  beside_fields a (MoreFieldType k t fs) = beside a t ++ beside_fields a fs

abbrev pub kind_of : Annotation → Name → Kind
kind_of annotation a = record { class = name_class a; lacks = once (beside a annotation) [] }

-- ---- types

-- the type of an annotation, with these types for its variables
abbrev mutual
  pub annotation_type : {X : Type 0} → (Name → ElmType X) → Annotation → ElmType X
  annotation_type of (Variable a) = of a
  annotation_type of (NamedType m x ts) = Made (head.Named m x) (annotation_types of ts)
  annotation_type of (FunctionType t u) = function (annotation_type of t) (annotation_type of u)
  annotation_type of (TupleType ts) = Made head.Tuple (annotation_types of ts)
  annotation_type of (RecordType fs) = Record (annotation_fields of fs) Closed
  annotation_type of (ExtendedType a fs) = extend (annotation_fields of fs) (of a)

  pub annotation_types : {X : Type 0} → (Name → ElmType X) → Annotations → ElmTypes X
  annotation_types of NoAnnotation = NoType
  annotation_types of (MoreAnnotation t ts) = MoreType (annotation_type of t) (annotation_types of ts)

  pub annotation_fields : {X : Type 0} → (Name → ElmType X) → FieldTypes → Fields X
  annotation_fields of NoFieldType = NoField
  annotation_fields of (MoreFieldType k t fs) = insert_field k (annotation_type of t) (annotation_fields of fs)

-- ---- an annotation inside others, whose variables stand for constants

-- its own variables, in order of appearance
abbrev pub own_variables : Constants → Annotation → List Name
own_variables around annotation = filter (λ a. is_none (lookup (bytes_eq a) around)) (variables_of annotation)

-- the constant that stands for a variable of the annotation of the definition at the place p
abbrev pub constant : Place → Annotation → Name → Rigid
constant p annotation a = record { place = p; name = a; class = name_class a; lacks = once (beside a annotation) [] }

abbrev pub own_constants : Constants → Place → Annotation → Constants
own_constants around p annotation = map (λ a. (a, constant p annotation a)) (own_variables around annotation)

abbrev pub constant_or : {X : Type 0} → Option Rigid → ElmType (Leaf X) → ElmType (Leaf X)
constant_or None t = t
constant_or (Some r) t = variable (Fixed r)

-- the type of an annotation all of whose variables stand for constants
abbrev pub fixed_variable : Constants → Place → Name → Wanted
fixed_variable constants p a = constant_or (lookup (bytes_eq a) constants) (at p)

abbrev pub fixed_type : Constants → Place → Annotation → Wanted
fixed_type constants p annotation = annotation_type (fixed_variable constants p) annotation

-- what an annotation asks of its variables
abbrev pub annotation_items : Pos → Annotation → (Name → Wanted) → List Item
annotation_items pos annotation of =
    flat_map (λ a. kind_items pos (of a) (kind_of annotation a)) (variables_of annotation)

-- ---- a name is used at its annotation: of its own variables it has each instance

abbrev pub number_of : Name → List Name → ℕ
number_of a order = position_or_len (bytes_eq a) order

abbrev pub scheme_variable : Constants → Annotation → Name → ElmType (Leaf ℕ)
scheme_variable around annotation a =
    constant_or (lookup (bytes_eq a) around) (variable (Free (number_of a (own_variables around annotation))))

abbrev pub scheme_inside : Constants → Annotation → Scheme
scheme_inside around annotation = record {
  type = annotation_type (scheme_variable around annotation) annotation;
  kinds = map (kind_of annotation) (own_variables around annotation);
}

-- of an annotation inside no others
abbrev pub annotation_scheme : Annotation → Scheme
annotation_scheme annotation = scheme_inside [] annotation

-- Types with their aliases expanded, and the extensions that this makes. (Elm guide: type aliases, records.)
use Rattle.std.specs.Prelude.{ℕ, suc, List, [], ◌∷◌, ◌++◌, Bool, true, false, if◌then◌else◌, Option, Some, None}
use Rattle.std.specs.Prelude.{filter, nat_eq, length}
use Rattle.std.specs.List.{list_any}
use Rattle.std.specs.Ordering.{nat_cmp, is_lt}
use Rattle.std.specs.Cmp.Lexicographic.{slice_cmp}
use Rattle.elm_canon.specs.Names.{Name, same_name}
use Rattle.elm_canon.specs.Tree.{Annotation, Variable, NamedType, FunctionType, TupleType, RecordType, ExtendedType}
use Rattle.elm_canon.specs.Tree.{Annotations, NoAnnotation, MoreAnnotation, FieldTypes, NoFieldType, MoreFieldType}
use Rattle.elm_canon.specs.Tree.{field_names}
use Rattle.canon_env.specs.Shown.{TypeMeaning}
use Rattle.canon_env.specs.Found.{Found, Nothing, One, Several}
use Rattle.canon_env.specs.Exposing.{is_among}
use Rattle.canon_env.specs.declared.found.Meant.{Meant}

-- the type of what has no meaning, of which nothing is said: a variable that no one can write
abbrev pub blank : Annotation
blank = Variable []

abbrev pub count_of : Annotations → ℕ
count_of NoAnnotation = 0
count_of (MoreAnnotation t ts) = suc (count_of ts)

-- what stands for parameters
abbrev pub Filling : Type 0
Filling = List (Name × Annotation)

abbrev pub filling : List Name → Annotations → Filling
filling [] ts = []
filling (a ∷ names) NoAnnotation = []
filling (a ∷ names) (MoreAnnotation t ts) = (a, t) ∷ filling names ts

abbrev pub filled_in : Filling → Name → Annotation
filled_in [] a = Variable a
filled_in (f ∷ fs) a = if same_name f.0 a then f.1 else filled_in fs a

abbrev pub join_fields : FieldTypes → FieldTypes → FieldTypes
join_fields NoFieldType gs = gs
join_fields (MoreFieldType x t fs) gs = MoreFieldType x t (join_fields fs gs)

-- a base with these fields; one that is no record or variable stays alone
abbrev pub extended : Annotation → FieldTypes → Annotation
extended (Variable a) fs = ExtendedType a fs
extended (RecordType gs) fs = RecordType (join_fields gs fs)
extended (ExtendedType a gs) fs = ExtendedType a (join_fields gs fs)
extended t fs = t

abbrev mutual
  pub fill : Filling → Annotation → Annotation
  fill s (Variable a) = filled_in s a
  fill s (NamedType m x ts) = NamedType m x (fill_all s ts)
  fill s (FunctionType t u) = FunctionType (fill s t) (fill s u)
  fill s (TupleType ts) = TupleType (fill_all s ts)
  fill s (RecordType fs) = RecordType (fill_fields s fs)
  fill s (ExtendedType a fs) = extended (filled_in s a) (fill_fields s fs)

  pub fill_all : Filling → Annotations → Annotations
  fill_all s NoAnnotation = NoAnnotation
  fill_all s (MoreAnnotation t ts) = MoreAnnotation (fill s t) (fill_all s ts)

  pub fill_fields : Filling → FieldTypes → FieldTypes
  fill_fields s NoFieldType = NoFieldType
  fill_fields s (MoreFieldType x t fs) = MoreFieldType x (fill s t) (fill_fields s fs)

-- ---- the fields that extend what they may not

abbrev pub bad_on : Annotation → FieldTypes → List Name
bad_on (Variable a) fs = []
bad_on (RecordType gs) fs = filter (λ x. is_among x (field_names gs)) (field_names fs)
bad_on (ExtendedType a gs) fs = filter (λ x. is_among x (field_names gs)) (field_names fs)
bad_on t fs = field_names fs

abbrev mutual
  pub bad_fields : Filling → Annotation → List Name
  bad_fields s (Variable a) = []
  bad_fields s (NamedType m x ts) = bad_in_all s ts
  bad_fields s (FunctionType t u) = bad_fields s t ++ bad_fields s u
  bad_fields s (TupleType ts) = bad_in_all s ts
  bad_fields s (RecordType fs) = bad_in_fields s fs
  bad_fields s (ExtendedType a fs) = bad_on (filled_in s a) fs ++ bad_in_fields s fs

  pub bad_in_all : Filling → Annotations → List Name
  bad_in_all s NoAnnotation = []
  bad_in_all s (MoreAnnotation t ts) = bad_fields s t ++ bad_in_all s ts

  pub bad_in_fields : Filling → FieldTypes → List Name
  bad_in_fields s NoFieldType = []
  bad_in_fields s (MoreFieldType x t fs) = bad_fields s t ++ bad_in_fields s fs

-- the least by units
abbrev pub least_of : Name → List Name → Name
least_of x [] = x
least_of x (y ∷ ys) = if is_lt (slice_cmp nat_cmp y x) then least_of y ys else least_of x ys

-- ---- a type's name with its arguments

abbrev pub has_arity : TypeMeaning → Annotations → Bool
has_arity m ts = nat_eq (count_of ts) (length m.parameters)

-- x is the name that the type has in its module
abbrev pub applied_to : Name → Name → TypeMeaning → Annotations → Option Annotation → Annotation
applied_to home x m ts None = NamedType home x ts
applied_to home x m ts (Some body) = fill (filling m.parameters ts) body

-- a use without meaning is blank
abbrev pub applied : Name → Found TypeMeaning → Annotations → Annotation
applied x (One r) ts = if has_arity r.meaning ts then applied_to r.home x r.meaning ts r.meaning.body else blank
applied x _ ts = blank

abbrev pub bad_of_alias : TypeMeaning → Annotations → Option Annotation → List Name
bad_of_alias m ts None = []
bad_of_alias m ts (Some body) = bad_fields (filling m.parameters ts) body

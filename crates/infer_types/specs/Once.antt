-- Annotations that the resolution of names accepts: each record has each of its fields once.
use Rattle.elm_canon.specs.Tree.{Annotation, Variable, NamedType, FunctionType, TupleType, RecordType, ExtendedType}
use Rattle.elm_canon.specs.Tree.{Annotations, NoAnnotation, MoreAnnotation, FieldTypes, NoFieldType, MoreFieldType}
use Rattle.elm_canon.specs.Tree.{field_names}
use Rattle.infer_steps.specs.Records.{AreDistinct}

abbrev mutual
  pub FieldsOnce : Annotation → Type 0
  FieldsOnce (Variable a) = Unit {0}
  FieldsOnce (NamedType m x ts) = AllOnce ts
  FieldsOnce (FunctionType t u) = FieldsOnce t × FieldsOnce u
  FieldsOnce (TupleType ts) = AllOnce ts
  FieldsOnce (RecordType fs) = AreDistinct (field_names fs) × FieldTypesOnce fs
  FieldsOnce (ExtendedType a fs) = AreDistinct (field_names fs) × FieldTypesOnce fs

  pub AllOnce : Annotations → Type 0
  AllOnce NoAnnotation = Unit {0}
  AllOnce (MoreAnnotation t ts) = FieldsOnce t × AllOnce ts

  pub FieldTypesOnce : FieldTypes → Type 0
  FieldTypesOnce NoFieldType = Unit {0}
  FieldTypesOnce (MoreFieldType k t fs) = FieldsOnce t × FieldTypesOnce fs

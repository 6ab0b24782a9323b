-- The variables of a type that an annotation writes are those of what stands for its variables.
use Rattle.std.proofs.Common.{[], ◌++◌, Bool, true, false, if◌then◌else◌}
use Rattle.std.specs.List.{AllByRecursion}
use Rattle.elm_canon.specs.Names.{Name}
use Rattle.elm_canon.specs.Tree.{Annotation, Variable, NamedType, FunctionType, TupleType, RecordType, ExtendedType}
use Rattle.elm_canon.specs.Tree.{Annotations, NoAnnotation, MoreAnnotation, FieldTypes, NoFieldType, MoreFieldType}
use Rattle.elm_type.specs.Types.{ElmType, Made, Record, Fields, NoField, MoreField, variables, variables_all}
use Rattle.elm_type.specs.Types.{variables_fields, end_variables}
use Rattle.elm_type.specs.Rows.{name_lt, insert_field, insert_all, extend}
use Rattle.type_items.specs.Annotations.{annotation_type, annotation_types, annotation_fields, written, written_all}
use Rattle.type_items.specs.Annotations.{written_fields}
use Rattle.told_modules.specs.Schemes.{types_in}
use Rattle.told_modules.proofs.Lists.{all_both, all_first, all_second}

module _ {X : Type 0} (Q : X → Type 0) where
  abbrev pub Has : ElmType X → Type 0
  Has t = AllByRecursion Q (variables t)

  abbrev pub FieldsHave : Fields X → Type 0
  FieldsHave fs = AllByRecursion Q (variables_fields fs)

  inserted : (k : Name) (t : ElmType X) (fs : Fields X) → Has t → FieldsHave fs → FieldsHave (insert_field k t fs)
  inserted k t NoField h f = all_both Q (variables t) [] h tt
  inserted k t (MoreField j u fs) h f =
      by (name_lt j k) (inserted k t fs h (all_second Q (variables u) (variables_fields fs) f))
    where
      by : (b : Bool) → FieldsHave (insert_field k t fs)
          → FieldsHave (if b then MoreField j u (insert_field k t fs) else MoreField k t (MoreField j u fs))
      by true rest =
          all_both Q (variables u) (variables_fields (insert_field k t fs))
          (all_first Q (variables u) (variables_fields fs) f) rest
      by false rest = all_both Q (variables t) (variables_fields (MoreField j u fs)) h f

  all_inserted : (fs gs : Fields X) → FieldsHave fs → FieldsHave gs → FieldsHave (insert_all fs gs)
  all_inserted NoField gs f g = g
  all_inserted (MoreField k t fs) gs f g =
      inserted k t (insert_all fs gs) (all_first Q (variables t) (variables_fields fs) f)
      (all_inserted fs gs (all_second Q (variables t) (variables_fields fs) f) g)

  extended : (fs : Fields X) (t : ElmType X) → FieldsHave fs → Has t → Has (extend fs t)
  extended fs (Made h ts) f g = g
  extended fs (Record gs end) f g =
      all_both Q (end_variables end) (variables_fields (insert_all fs gs))
      (all_first Q (end_variables end) (variables_fields gs) g)
      (all_inserted fs gs f (all_second Q (end_variables end) (variables_fields gs) g))

  module _ (P : Name → Type 0) (of : Name → ElmType X) (each : (a : Name) → P a → Has (of a)) where
    mutual
      pub type_has : (t : Annotation) → AllByRecursion P (written t) → Has (annotation_type of t)
      type_has (Variable a) h = each a h.0
      type_has (NamedType m x ts) h = types_have ts h
      type_has (FunctionType t u) h =
          all_both Q (variables (annotation_type of t)) (variables (annotation_type of u) ++ [])
          (type_has t (all_first P (written t) (written u) h))
          (all_both Q (variables (annotation_type of u)) [] (type_has u (all_second P (written t) (written u) h)) tt)
      type_has (TupleType ts) h = types_have ts h
      type_has (RecordType fs) h = fields_have fs h
      type_has (ExtendedType a fs) h =
          extended (annotation_fields of fs) (of a) (fields_have fs h.1) (each a h.0)

      types_have : (ts : Annotations) → AllByRecursion P (written_all ts)
          → AllByRecursion Q (variables_all (annotation_types of ts))
      types_have NoAnnotation h = tt
      types_have (MoreAnnotation t ts) h =
          all_both Q (variables (annotation_type of t)) (variables_all (annotation_types of ts))
          (type_has t (all_first P (written t) (written_all ts) h))
          (types_have ts (all_second P (written t) (written_all ts) h))

      fields_have : (fs : FieldTypes) → AllByRecursion P (written_fields fs) → FieldsHave (annotation_fields of fs)
      fields_have NoFieldType h = tt
      fields_have (MoreFieldType k t fs) h =
          inserted k (annotation_type of t) (annotation_fields of fs)
          (type_has t (all_first P (written t) (written_fields fs) h))
          (fields_have fs (all_second P (written t) (written_fields fs) h))

    pub list_has : (ts : Annotations) → AllByRecursion P (written_all ts)
        → AllByRecursion (λ t. AllByRecursion Q (variables t)) (types_in of ts)
    list_has NoAnnotation h = tt
    list_has (MoreAnnotation t ts) h = (
      type_has t (all_first P (written t) (written_all ts) h),
      list_has ts (all_second P (written t) (written_all ts) h),
    )

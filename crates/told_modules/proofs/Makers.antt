-- The types of constructors: `makers_have`, `records_have`.
use Rattle.std.proofs.Common.{◌≡◌, suc, List, [], ◌∷◌, map, length, refl, ap, ◌∙◌}
use Rattle.std.specs.List.{zip}
use Rattle.elm_canon.specs.Names.{Name}
use Rattle.elm_canon.specs.Tree.{Annotation, Variable, Annotations, NoAnnotation, MoreAnnotation, annotations_of, FieldTypes}
use Rattle.elm_canon.specs.Tree.{NoFieldType, MoreFieldType, RecordType, field_names}
use Rattle.elm_type.specs.Types.{ElmType, Made, MoreType, Record, Closed, function, functions, types_of}
use Rattle.elm_type.specs.Rows.{insert_field, sorted}
use Rattle.elm_type.specs.declared.head.Head.TheVariants as head
use Rattle.type_items.specs.Annotations.{annotation_type, annotation_types, annotation_fields, number_of, own_variables}
use Rattle.type_items.specs.Annotations.{scheme_variable}
use Rattle.type_items.specs.Modules.{function_to, union_type, field_types}
use Rattle.typed_values.specs.World.{variables_of}
use Rattle.told_modules.specs.Schemes.{types_in, maker_type, constructor_of, MakersHaveSchemes, record_types}
use Rattle.told_modules.specs.Schemes.{RecordsHaveSchemes}

-- a function of these
function_type : {X : Type 0} (of : Name → ElmType X) (ts : Annotations) (r : Annotation) →
    annotation_type of (function_to ts r) ≡ functions (types_in of ts) (annotation_type of r)
function_type of NoAnnotation r = refl
function_type of (MoreAnnotation t ts) r = ap (function (annotation_type of t)) (function_type of ts r)

arguments_type : (a : Annotation) (ps : List Name) →
    annotation_types (scheme_variable [] a) (annotations_of (map (λ b. Variable b) ps))
    ≡ types_of (variables_of (map (λ b. number_of b (own_variables [] a)) ps))
arguments_type a [] = refl
arguments_type a (p ∷ ps) = ap (MoreType (scheme_variable [] a p)) (arguments_type a ps)

pub makers_have : MakersHaveSchemes
makers_have m u c =
    let a = maker_type m u c.1 in
    function_type (scheme_variable [] a) c.1 (union_type m u)
    ∙ ap (λ ts. functions (constructor_of m u c).fields (Made (head.Named m u.name) ts)) (arguments_type a u.parameters)

-- ---- records

record_type : {X : Type 0} (of : Name → ElmType X) (fs : FieldTypes) →
    annotation_fields of fs ≡ sorted (zip (field_names fs) (types_in of (field_types fs)))
record_type of NoFieldType = refl
record_type of (MoreFieldType k t fs) = ap (insert_field k (annotation_type of t)) (record_type of fs)

record_count : {X : Type 0} (of : Name → ElmType X) (fs : FieldTypes) →
    length (types_in of (field_types fs)) ≡ length (field_names fs)
record_count of NoFieldType = refl
record_count of (MoreFieldType k t fs) = ap suc (record_count of fs)

pub records_have : RecordsHaveSchemes
records_have fs =
    let of = scheme_variable [] (function_to (field_types fs) (RecordType fs)) in record {
      type = function_type of (field_types fs) (RecordType fs)
          ∙ ap (λ gs. functions (record_types fs) (Record gs Closed)) (record_type of fs);
      counted = record_count of fs;
    }

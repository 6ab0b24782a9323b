-- Types that are made of copies of the parts of another.
use Rattle.std.proofs.Common.{◌≡◌, ◌-◌, ◌<◌, ◌≤◌, List, [], ◌∷◌, ◌++◌, length, take, drop, get_or, map, Option, None, Some, Vec, Global, refl, sym, ap, ◌∙◌, arith}
use Rattle.std.proofs.lemmas.List.{take_all, map-append}
use Rattle.std.specs.declared.sync.Arc.{Arc}
use Rattle.elm_canon.specs.Names.{Name}
use Rattle.elm_canon.specs.Tree as plain
use Rattle.elm_canon.specs.Tree.{annotations_of, FieldTypes, field_types_of, field_names}
use Rattle.elm_canon.specs.View.{NamedType}
use Rattle.canon_env.specs.Expanding.{join_fields, extended}
use Rattle.canon_type.specs.Extending.{names_of}
use Rattle.elm_canon.specs.View.{annotation_view, field_type_view, types_view, function_type, record_type}
use Rattle.elm_canon.specs.declared.tree.Annotation.{Annotation}
use Rattle.elm_canon.specs.declared.tree.Annotation.TheVariants as annotation
use Rattle.elm_canon.specs.declared.tree.FieldType.{FieldType}
use Rattle.elm_canon.proofs.Views.{named_type, type_of_function, tuple_type, type_of_record, shared_type, field_type}

pub named_again : (t : Annotation) (m m' x x' : Name) (ts ts' : Vec Annotation Global) (us : List Annotation) →
    t ≡ annotation.Named m x ts → m' ≡ m → x' ≡ x → map annotation_view ts'.items ≡ map annotation_view us →
    us ≡ ts.items → annotation_view (annotation.Named m' x' ts') ≡ annotation_view t
named_again t m m' x x' ts ts' us is em ex e d =
    named_type m' x' ts'
    ∙ ap (λ z. plain.NamedType z x' (types_view ts'.items)) em
    ∙ ap (λ z. plain.NamedType m z (types_view ts'.items)) ex
    ∙ ap (λ z. plain.NamedType m x (annotations_of z)) (e ∙ ap (map annotation_view) d)
    ∙ sym (ap annotation_view is ∙ named_type m x ts)

pub function_again : (t : Annotation) (ts ts' : Vec Annotation Global) (us : List Annotation) →
    t ≡ annotation.Function ts → map annotation_view ts'.items ≡ map annotation_view us → us ≡ ts.items →
    annotation_view (annotation.Function ts') ≡ annotation_view t
function_again t ts ts' us is e d =
    type_of_function ts' ∙ ap function_type (e ∙ ap (map annotation_view) d)
    ∙ sym (ap annotation_view is ∙ type_of_function ts)

pub tuple_again : (t : Annotation) (ts ts' : Vec Annotation Global) (us : List Annotation) →
    t ≡ annotation.Tuple ts → map annotation_view ts'.items ≡ map annotation_view us → us ≡ ts.items →
    annotation_view (annotation.Tuple ts') ≡ annotation_view t
tuple_again t ts ts' us is e d =
    tuple_type ts' ∙ ap (λ z. plain.TupleType (annotations_of z)) (e ∙ ap (map annotation_view) d)
    ∙ sym (ap annotation_view is ∙ tuple_type ts)

pub record_again : (t : Annotation) (b b' : Option Name) (fs fs' : Vec FieldType Global) (us : List FieldType) →
    t ≡ annotation.Record b fs → b' ≡ b → map field_type_view fs'.items ≡ map field_type_view us → us ≡ fs.items →
    annotation_view (annotation.Record b' fs') ≡ annotation_view t
record_again t b b' fs fs' us is eb e d =
    type_of_record b' fs' ∙ ap (λ z. record_type z (map field_type_view fs'.items)) eb
    ∙ ap (record_type b) (e ∙ ap (map field_type_view) d)
    ∙ sym (ap annotation_view is ∙ type_of_record b fs)

pub shared_again : (t : Annotation) (a a' : Arc Annotation Global) → t ≡ annotation.Shared a → a'.value ≡ a.value →
    annotation_view (annotation.Shared a') ≡ annotation_view t
shared_again t a a' is e =
    shared_type a' ∙ ap annotation_view e ∙ sym (ap annotation_view is ∙ shared_type a)

pub field_again : (f : FieldType) (x : Name) (t : Annotation) → x ≡ f.name →
    annotation_view t ≡ annotation_view f.field_type →
    (x, annotation_view t) ≡ field_type_view f
field_again f x t ex et =
    ap (λ z. (z, annotation_view t)) ex ∙ ap (λ z. (f.name, z)) et ∙ sym (field_type f)

-- ---- functions of so many types

pub no_types : (ts : List Annotation) → length ts < 1 →
    plain.TupleType (types_view ts) ≡ function_type (map annotation_view ts)
no_types [] h = refl
no_types (t ∷ ts) h = absurd (omega arith)

pub one_type : (ts : List Annotation) (u : Annotation) → 1 ≤ length ts → length ts < 2 → u ≡ get_or ts 0 u →
    function_type (map annotation_view ts) ≡ annotation_view u
one_type [] u a b e = absurd (omega arith)
one_type (t ∷ []) u a b e = ap annotation_view (sym e)
one_type (t ∷ v ∷ ts) u a b e = absurd (omega arith)

rest_is : (t : Annotation) (ts : List Annotation) → take (length (t ∷ ts) - 1) (drop 1 (t ∷ ts)) ≡ ts
rest_is t ts = take_all (length (t ∷ ts) - 1) ts (omega arith)

pub several_types : (ts : List Annotation) (u : Annotation) → 2 ≤ length ts → u ≡ get_or ts 0 u →
    plain.FunctionType (annotation_view u) (function_type (map annotation_view (take (length ts - 1) (drop 1 ts))))
    ≡ function_type (map annotation_view ts)
several_types [] u a e = absurd (omega arith)
several_types (t ∷ []) u a e = absurd (omega arith)
several_types (t ∷ v ∷ ts) u a e =
    ap (λ z. plain.FunctionType z (function_type (map annotation_view (take (length (t ∷ v ∷ ts) - 1) (drop 1 (t ∷ v ∷ ts))))))
    (ap annotation_view e)
    ∙ ap (λ z. plain.FunctionType (annotation_view t) (function_type (map annotation_view z))) (rest_is t (v ∷ ts))

-- ---- fields

pub field_names_of : (fs : List FieldType) → field_names (field_types_of (map field_type_view fs)) ≡ names_of fs
field_names_of [] = refl
field_names_of (f ∷ fs) =
    ap (λ z. z ∷ field_names (field_types_of (map field_type_view fs))) (ap (λ (p : NamedType). p.0) (field_type f))
    ∙ ap (λ z. f.name ∷ z) (field_names_of fs)

pub joined : (fs gs : List NamedType) → join_fields (field_types_of fs) (field_types_of gs) ≡ field_types_of (fs ++ gs)
joined [] gs = refl
joined (f ∷ fs) gs = ap (plain.MoreFieldType f.0 f.1) (joined fs gs)

fields_after : (copies before more all : List FieldType) → all ≡ copies ++ more →
    map field_type_view copies ≡ map field_type_view before →
    field_types_of (map field_type_view all)
    ≡ join_fields (field_types_of (map field_type_view before)) (field_types_of (map field_type_view more))
fields_after copies before more all e same =
    ap (λ z. field_types_of (map field_type_view z)) e
    ∙ ap field_types_of (map-append field_type_view copies more ∙ ap (λ z. z ++ map field_type_view more) same)
    ∙ sym (joined (map field_type_view before) (map field_type_view more))

pub on_record : (all : Vec FieldType Global) (copies before more : List FieldType) (t : plain.Annotation) →
    all.items ≡ copies ++ more → map field_type_view copies ≡ map field_type_view before →
    plain.RecordType (field_types_of (map field_type_view before)) ≡ t →
    annotation_view (annotation.Record None all) ≡ extended t (field_types_of (map field_type_view more))
on_record all copies before more t e same v =
    type_of_record None all ∙ ap plain.RecordType (fields_after copies before more all.items e same)
    ∙ ap (λ u. extended u (field_types_of (map field_type_view more))) v

pub on_extended : (all : Vec FieldType Global) (a a' : Name) (copies before more : List FieldType) (t : plain.Annotation) →
    a' ≡ a → all.items ≡ copies ++ more → map field_type_view copies ≡ map field_type_view before →
    plain.ExtendedType a (field_types_of (map field_type_view before)) ≡ t →
    annotation_view (annotation.Record (Some a') all) ≡ extended t (field_types_of (map field_type_view more))
on_extended all a a' copies before more t ea e same v =
    type_of_record (Some a') all ∙ ap (plain.ExtendedType a') (fields_after copies before more all.items e same)
    ∙ ap (λ x. plain.ExtendedType x (join_fields (field_types_of (map field_type_view before)) (field_types_of (map field_type_view more)))) ea
    ∙ ap (λ u. extended u (field_types_of (map field_type_view more))) v

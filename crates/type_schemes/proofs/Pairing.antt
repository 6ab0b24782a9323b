-- The fields beside variables of a type of the program, by its parts.
use Rattle.std.proofs.Common.{◌≡◌, List, [], ◌∷◌, ◌++◌, map, Bool, true, false, cond, Option, Some, None, Vec, Global}
use Rattle.std.proofs.Common.{refl, sym, ap, ◌∙◌, append-nil}
use Rattle.std.specs.List.{flat_map}
use Rattle.std.specs.Str.{bytes_eq}
use Rattle.std.specs.declared.sync.Arc.{Arc}
use Rattle.std.proofs.lemmas.Grind.{flat_map-append}
use Rattle.elm_canon.specs.Names.{Name}
use Rattle.elm_canon.specs.Tree as plain
use Rattle.elm_canon.specs.Tree.{annotations_of, field_types_of}
use Rattle.elm_canon.specs.View.{NamedType, annotation_view, field_type_view, function_to, function_type, record_type}
use Rattle.elm_canon.specs.declared.tree.Annotation.{Annotation}
use Rattle.elm_canon.specs.declared.tree.Annotation.TheVariants as annotation
use Rattle.elm_canon.specs.declared.tree.FieldType.{FieldType}
use Rattle.elm_canon.proofs.Views.{variable_type, named_type, type_of_function, tuple_type, type_of_record, shared_type}
use Rattle.elm_canon.proofs.Views.{field_type}
use Rattle.type_items.specs.Annotations.{beside, beside_all, beside_fields}
use Rattle.type_schemes.specs.Kinds.{Pair, besides, besides_all, besides_fields, field_of, fields_beside}
use Rattle.type_schemes.specs.Kinds.{base_pairs, field_pairs}

all_besides : (ts : List plain.Annotation) → besides_all (annotations_of ts) ≡ flat_map besides ts
all_besides [] = refl
all_besides (t ∷ ts) = ap (λ (ps : List Pair). besides t ++ ps) (all_besides ts)

fields_besides : (fs : List NamedType) → besides_fields (field_types_of fs) ≡ flat_map field_pairs fs
fields_besides [] = refl
fields_besides (f ∷ fs) = ap (λ (ps : List Pair). besides f.1 ++ ps) (fields_besides fs)

chain_besides : (t : plain.Annotation) (ts : List plain.Annotation)
    → besides (function_to t ts) ≡ flat_map besides (t ∷ ts)
chain_besides t [] = sym (append-nil (besides t))
chain_besides t (u ∷ us) = ap (λ (ps : List Pair). besides t ++ ps) (chain_besides u us)

function_besides : (ts : List plain.Annotation) → besides (function_type ts) ≡ flat_map besides ts
function_besides [] = refl
function_besides (t ∷ ts) = chain_besides t ts

own_pairs : (b : Name) (fs : List NamedType)
    → map {B = Pair} (λ k. (b, k)) (plain.field_names (field_types_of fs)) ≡ map {B = Pair}
    (λ (f : NamedType). (b, f.0)) fs
own_pairs b [] = refl
own_pairs b (f ∷ fs) = ap (λ (ps : List Pair). (b, f.0) ∷ ps) (own_pairs b fs)

record_besides : (base : Option Name) (fs : List NamedType)
    → besides (record_type base fs) ≡ base_pairs base fs ++ flat_map field_pairs fs
record_besides None fs = fields_besides fs
record_besides (Some b) fs =
    ap (λ (ps : List Pair). ps ++ besides_fields (field_types_of fs)) (own_pairs b fs)
    ∙ ap (λ (ps : List Pair). map {B = Pair} (λ (f : NamedType). (b, f.0)) fs ++ ps) (fields_besides fs)

pub variable_pairs : (x : Name) → besides (annotation_view (annotation.Variable x)) ≡ []
variable_pairs x = ap besides (variable_type x)

pub named_pairs : (m x : Name) (ts : Vec Annotation Global)
    → besides (annotation_view (annotation.Named m x ts)) ≡ flat_map besides (map annotation_view ts.items)
named_pairs m x ts = ap besides (named_type m x ts) ∙ all_besides (map annotation_view ts.items)

pub function_pairs : (ts : Vec Annotation Global)
    → besides (annotation_view (annotation.Function ts)) ≡ flat_map besides (map annotation_view ts.items)
function_pairs ts = ap besides (type_of_function ts) ∙ function_besides (map annotation_view ts.items)

pub tuple_pairs : (ts : Vec Annotation Global)
    → besides (annotation_view (annotation.Tuple ts)) ≡ flat_map besides (map annotation_view ts.items)
tuple_pairs ts = ap besides (tuple_type ts) ∙ all_besides (map annotation_view ts.items)

pub record_pairs : (base : Option Name) (fs : Vec FieldType Global)
    → besides (annotation_view (annotation.Record base fs))
    ≡ base_pairs base (map field_type_view fs.items) ++ flat_map field_pairs (map field_type_view fs.items)
record_pairs base fs = ap besides (type_of_record base fs) ∙ record_besides base (map field_type_view fs.items)

pub shared_pairs : (t : Arc Annotation Global)
    → besides (annotation_view (annotation.Shared t)) ≡ besides (annotation_view t.value)
shared_pairs t = ap besides (shared_type t)

pub one_pairs : (f : FieldType) → field_pairs (field_type_view f) ≡ besides (annotation_view f.field_type)
one_pairs f = ap field_pairs (field_type f)

pub one_name : (f : FieldType) → (field_type_view f).0 ≡ f.name
one_name f = ap (λ (n : NamedType). n.0) (field_type f)

-- ---- the fields beside one variable

module _ (a : Name) where
  own_fields : (b : Name) (c : Bool) (ks : List Name) → bytes_eq a b ≡ c
      → cond c ks [] ≡ fields_beside a (map {B = Pair} (λ k. (b, k)) ks)
  own_fields b true [] e = refl
  own_fields b true (k ∷ ks) e =
      ap (λ (ns : List Name). k ∷ ns) (own_fields b true ks e)
      ∙ ap (λ c. cond c (k ∷ []) [] ++ fields_beside a (map {B = Pair} (λ k. (b, k)) ks)) (sym e)
  own_fields b false [] e = refl
  own_fields b false (k ∷ ks) e =
      own_fields b false ks e ∙ ap (λ c. cond c (k ∷ []) [] ++ fields_beside a (map {B = Pair} (λ k. (b, k)) ks))
      (sym e)

  both : (xs ys : List Name) (ps qs : List Pair) → xs ≡ fields_beside a ps → ys ≡ fields_beside a qs
      → xs ++ ys ≡ fields_beside a (ps ++ qs)
  both xs ys ps qs e f =
      ap (λ (ns : List Name). ns ++ ys) e
      ∙ (ap (λ (ns : List Name). fields_beside a ps ++ ns) f ∙ sym (flat_map-append (field_of a) ps qs))

  mutual
    pub beside_is : (t : plain.Annotation) → beside a t ≡ fields_beside a (besides t)
    beside_is (plain.Variable b) = refl
    beside_is (plain.NamedType m x ts) = beside_all_is ts
    beside_is (plain.FunctionType t u) =
        both (beside a t) (beside a u) (besides t) (besides u) (beside_is t) (beside_is u)
    beside_is (plain.TupleType ts) = beside_all_is ts
    beside_is (plain.RecordType fs) = beside_fields_is fs
    beside_is (plain.ExtendedType b fs) =
        both (cond (bytes_eq a b) (plain.field_names fs) []) (beside_fields a fs)
        (map {B = Pair} (λ k. (b, k)) (plain.field_names fs)) (besides_fields fs)
        (own_fields b (bytes_eq a b) (plain.field_names fs) refl) (beside_fields_is fs)

    beside_all_is : (ts : plain.Annotations) → beside_all a ts ≡ fields_beside a (besides_all ts)
    beside_all_is plain.NoAnnotation = refl
    beside_all_is (plain.MoreAnnotation t ts) =
        both (beside a t) (beside_all a ts) (besides t) (besides_all ts) (beside_is t) (beside_all_is ts)

    beside_fields_is : (fs : plain.FieldTypes) → beside_fields a fs ≡ fields_beside a (besides_fields fs)
    beside_fields_is plain.NoFieldType = refl
    beside_fields_is (plain.MoreFieldType k t fs) =
        both (beside a t) (beside_fields a fs) (besides t) (besides_fields fs) (beside_is t) (beside_fields_is fs)

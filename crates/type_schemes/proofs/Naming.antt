-- The variables of a type of the program, by its parts.
use Rattle.std.proofs.Common.{◌≡◌, List, [], ◌∷◌, ◌++◌, map, Option, Some, None, Vec, Global, refl, sym, ap, ◌∙◌}
use Rattle.std.proofs.Common.{append-nil}
use Rattle.std.specs.List.{flat_map}
use Rattle.std.specs.declared.sync.Arc.{Arc}
use Rattle.elm_canon.specs.Names.{Name}
use Rattle.elm_canon.specs.Tree as plain
use Rattle.elm_canon.specs.Tree.{annotations_of, field_types_of}
use Rattle.elm_canon.specs.View.{NamedType, annotation_view, field_type_view, function_to, function_type, record_type}
use Rattle.elm_canon.specs.declared.tree.Annotation.{Annotation}
use Rattle.elm_canon.specs.declared.tree.Annotation.TheVariants as annotation
use Rattle.elm_canon.specs.declared.tree.FieldType.{FieldType}
use Rattle.elm_canon.proofs.Views.{variable_type, named_type, type_of_function, tuple_type, type_of_record, shared_type}
use Rattle.elm_canon.proofs.Views.{field_type}
use Rattle.type_items.specs.Annotations.{written, written_all, written_fields}
use Rattle.type_schemes.specs.Names.{base_names, field_names}

all_written : (ts : List plain.Annotation) → written_all (annotations_of ts) ≡ flat_map written ts
all_written [] = refl
all_written (t ∷ ts) = ap (λ (ns : List Name). written t ++ ns) (all_written ts)

fields_written : (fs : List NamedType) → written_fields (field_types_of fs) ≡ flat_map field_names fs
fields_written [] = refl
fields_written (f ∷ fs) = ap (λ (ns : List Name). written f.1 ++ ns) (fields_written fs)

chain_written : (t : plain.Annotation) (ts : List plain.Annotation)
    → written (function_to t ts) ≡ flat_map written (t ∷ ts)
chain_written t [] = sym (append-nil (written t))
chain_written t (u ∷ us) = ap (λ (ns : List Name). written t ++ ns) (chain_written u us)

function_written : (ts : List plain.Annotation) → written (function_type ts) ≡ flat_map written ts
function_written [] = refl
function_written (t ∷ ts) = chain_written t ts

record_written : (base : Option Name) (fs : List NamedType)
    → written (record_type base fs) ≡ base_names base ++ flat_map field_names fs
record_written None fs = fields_written fs
record_written (Some a) fs = ap (λ (ns : List Name). a ∷ ns) (fields_written fs)

pub variable_names : (x : Name) → written (annotation_view (annotation.Variable x)) ≡ x ∷ []
variable_names x = ap written (variable_type x)

pub named_names : (m x : Name) (ts : Vec Annotation Global)
    → written (annotation_view (annotation.Named m x ts)) ≡ flat_map written (map annotation_view ts.items)
named_names m x ts = ap written (named_type m x ts) ∙ all_written (map annotation_view ts.items)

pub function_names : (ts : Vec Annotation Global)
    → written (annotation_view (annotation.Function ts)) ≡ flat_map written (map annotation_view ts.items)
function_names ts = ap written (type_of_function ts) ∙ function_written (map annotation_view ts.items)

pub tuple_names : (ts : Vec Annotation Global)
    → written (annotation_view (annotation.Tuple ts)) ≡ flat_map written (map annotation_view ts.items)
tuple_names ts = ap written (tuple_type ts) ∙ all_written (map annotation_view ts.items)

pub record_names : (base : Option Name) (fs : Vec FieldType Global)
    → written (annotation_view (annotation.Record base fs)) ≡ base_names base ++ flat_map field_names
    (map field_type_view fs.items)
record_names base fs = ap written (type_of_record base fs) ∙ record_written base (map field_type_view fs.items)

pub shared_names : (t : Arc Annotation Global)
    → written (annotation_view (annotation.Shared t)) ≡ written (annotation_view t.value)
shared_names t = ap written (shared_type t)

pub one_field : (f : FieldType) → field_names (field_type_view f) ≡ written (annotation_view f.field_type)
one_field f = ap field_names (field_type f)

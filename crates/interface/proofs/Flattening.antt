-- The steps of a type of the program, by its parts.
use Rattle.std.proofs.Common.{◌≡◌, ℕ, zero, suc, ◌+◌, List, [], ◌∷◌, ◌++◌, map, length, get_or, take, Option, Some, None, Vec, Global, refl, sym, ap, ◌∙◌, append_assoc, append-nil, arith}
use Rattle.std.specs.List.{flat_map}
use Rattle.std.specs.declared.sync.Arc.{Arc}
use Rattle.elm_canon.specs.Names.{Name}
use Rattle.elm_canon.specs.Tree as plain
use Rattle.elm_canon.specs.Tree.{annotations_of, field_types_of}
use Rattle.elm_canon.specs.View.{NamedType, annotation_view, field_type_view, function_to, function_type}
use Rattle.elm_canon.specs.declared.tree.Annotation.{Annotation}
use Rattle.elm_canon.specs.declared.tree.Annotation.TheVariants as annotation
use Rattle.elm_canon.specs.declared.tree.FieldType.{FieldType}
use Rattle.elm_canon.proofs.Views.{variable_type, named_type, type_of_function, tuple_type, type_of_record, shared_type, field_type}
use Rattle.interface.specs.declared.step.Step.{Step}
use Rattle.interface.specs.declared.step.Step.TheVariants as step
use Rattle.interface.specs.Steps.{steps_of, steps_of_parts, steps_of_fields, steps_of_all, part_steps, parameter_steps, field_steps, record_step}

parts_are : (ts : List plain.Annotation) (last : Step) → steps_of_parts (annotations_of ts) last ≡ flat_map part_steps ts ++ last ∷ []
unfolding steps_of
parts_are [] last = refl
parts_are (t ∷ ts) last =
    ap (λ (ss : List Step). step.Part ∷ (steps_of t ++ ss)) (parts_are ts last) ∙ ap (λ (ss : List Step). step.Part ∷ ss) (sym (append_assoc (steps_of t) (flat_map part_steps ts) (last ∷ [])))

fields_are : (fs : List NamedType) (last : Step) → steps_of_fields (field_types_of fs) last ≡ flat_map field_steps fs ++ last ∷ []
unfolding steps_of
fields_are [] last = refl
fields_are (f ∷ fs) last =
    ap (λ (ss : List Step). step.Field f.0 ∷ (steps_of f.1 ++ ss)) (fields_are fs last) ∙ ap (λ (ss : List Step). step.Field f.0 ∷ ss) (sym (append_assoc (steps_of f.1) (flat_map field_steps fs) (last ∷ [])))

pub variable_steps : (x : Name) → steps_of (annotation_view (annotation.Variable x)) ≡ step.Variable x ∷ []
unfolding steps_of
variable_steps x = ap steps_of (variable_type x)

pub named_steps : (m x : Name) (ts : Vec Annotation Global) → steps_of (annotation_view (annotation.Named m x ts)) ≡ flat_map part_steps (map annotation_view ts.items) ++ step.Named m x ∷ []
unfolding steps_of
named_steps m x ts = ap steps_of (named_type m x ts) ∙ parts_are (map annotation_view ts.items) (step.Named m x)

pub tuple_steps : (ts : Vec Annotation Global) → steps_of (annotation_view (annotation.Tuple ts)) ≡ flat_map part_steps (map annotation_view ts.items) ++ step.Tuple ∷ []
unfolding steps_of
tuple_steps ts = ap steps_of (tuple_type ts) ∙ parts_are (map annotation_view ts.items) step.Tuple

record_steps : (fs : Vec FieldType Global) → steps_of (annotation_view (annotation.Record None fs)) ≡ flat_map field_steps (map field_type_view fs.items) ++ step.Record ∷ []
unfolding steps_of
record_steps fs = ap steps_of (type_of_record None fs) ∙ fields_are (map field_type_view fs.items) step.Record

extended_steps : (a : Name) (fs : Vec FieldType Global) → steps_of (annotation_view (annotation.Record (Some a) fs)) ≡ flat_map field_steps (map field_type_view fs.items) ++ step.Extended a ∷ []
unfolding steps_of
extended_steps a fs = ap steps_of (type_of_record (Some a) fs) ∙ fields_are (map field_type_view fs.items) (step.Extended a)

pub any_record_steps : (base : Option Name) (fs : Vec FieldType Global) → steps_of (annotation_view (annotation.Record base fs)) ≡ flat_map field_steps (map field_type_view fs.items) ++ record_step base ∷ []
any_record_steps None fs = record_steps fs
any_record_steps (Some a) fs = extended_steps a fs

pub function_steps : (ts : Vec Annotation Global) → steps_of (annotation_view (annotation.Function ts)) ≡ steps_of (function_type (map annotation_view ts.items))
function_steps ts = ap steps_of (type_of_function ts)

pub shared_steps : (t : Arc Annotation Global) → steps_of (annotation_view (annotation.Shared t)) ≡ steps_of (annotation_view t.value)
shared_steps t = ap steps_of (shared_type t)

pub one_field : (f : FieldType) → field_steps (field_type_view f) ≡ step.Field f.name ∷ steps_of (annotation_view f.field_type)
one_field f = ap field_steps (field_type f)

-- ---- functions

pub no_function : steps_of (function_type []) ≡ step.Tuple ∷ []
unfolding steps_of
no_function = refl

chain : (u : plain.Annotation) (ts : List plain.Annotation) (t : plain.Annotation) → steps_of (function_to u (ts ++ t ∷ [])) ≡ flat_map parameter_steps (u ∷ ts) ++ steps_of t
unfolding steps_of
chain u [] t = ap (λ (ss : List Step). ss ++ steps_of t) (sym (append-nil (step.Function ∷ steps_of u)))
chain u (v ∷ ts) t = ap (λ (ss : List Step). step.Function ∷ (steps_of u ++ ss)) (chain v ts t) ∙ ap (λ (ss : List Step). step.Function ∷ ss) (sym (append_assoc (steps_of u) (flat_map parameter_steps (v ∷ ts)) (steps_of t)))

of_function : (ts : List plain.Annotation) (t : plain.Annotation) → steps_of (function_type (ts ++ t ∷ [])) ≡ flat_map parameter_steps ts ++ steps_of t
of_function [] t = refl
of_function (u ∷ ts) t = chain u ts t

last_apart : (ts : List Annotation) (i : ℕ) (d : Annotation) → i + 1 ≡ length ts → map annotation_view ts ≡ map annotation_view (take i ts) ++ annotation_view (get_or ts i d) ∷ []
last_apart [] i d e = absurd (omega arith)
last_apart (t ∷ []) zero d e = refl
last_apart (t ∷ u ∷ ts) zero d e = absurd (omega arith)
last_apart (t ∷ ts) (suc i) d e = ap (λ (us : List plain.Annotation). annotation_view t ∷ us) (last_apart ts i d (omega arith))

-- the parameters, and then the result
pub whole_function : (ts : List Annotation) (i : ℕ) (t d : Annotation) → i + 1 ≡ length ts → t ≡ get_or ts i d
    → steps_of (function_type (map annotation_view ts)) ≡ flat_map parameter_steps (map annotation_view (take i ts)) ++ steps_of (annotation_view t)
whole_function ts i t d e is =
    ap (λ (us : List plain.Annotation). steps_of (function_type us)) (last_apart ts i d e) ∙ of_function (map annotation_view (take i ts)) (annotation_view (get_or ts i d))
    ∙ ap (λ (u : Annotation). flat_map parameter_steps (map annotation_view (take i ts)) ++ steps_of (annotation_view u)) (sym is)

-- ---- types one after the other

pub all_in_turn : (ts : List plain.Annotation) → steps_of_all (annotations_of ts) ≡ flat_map steps_of ts
unfolding steps_of_all
all_in_turn [] = refl
all_in_turn (t ∷ ts) = ap (λ (ss : List Step). steps_of t ++ ss) (all_in_turn ts)

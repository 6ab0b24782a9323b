-- Ports whose types have another number of parts.
use Rattle.std.proofs.Common.{◌≡◌, ◌<◌, ◌≤◌, List, [], ◌∷◌, length, map, refl, arith}
use Rattle.elm_canon.specs.Names.{Name}
use Rattle.elm_canon.specs.Tree as plain
use Rattle.elm_canon.specs.View.{annotation_view, types_view, function_type}
use Rattle.elm_canon.specs.declared.tree.Annotation.{Annotation}
use Rattle.canon_type.specs.Ports.{NoPort, incoming_to, named_to, port_to}

pub to_no_argument : (t : plain.Annotation) (m x : Name) (ts : List Annotation) → length ts < 1 →
    NoPort ≡ named_to t m x (types_view ts)
to_no_argument t m x [] h = refl
to_no_argument t m x (u ∷ us) h = absurd (omega arith)

pub to_more_arguments : (t : plain.Annotation) (m x : Name) (ts : List Annotation) → 2 ≤ length ts →
    NoPort ≡ named_to t m x (types_view ts)
to_more_arguments t m x [] h = absurd (omega arith)
to_more_arguments t m x (u ∷ []) h = absurd (omega arith)
to_more_arguments t m x (u ∷ v ∷ us) h = refl

pub to_function : (t : plain.Annotation) (us : List Annotation) → 2 ≤ length us →
    NoPort ≡ port_to t (function_type (map annotation_view us))
to_function t [] h = absurd (omega arith)
to_function t (u ∷ []) h = absurd (omega arith)
to_function t (u ∷ v ∷ us) h = refl

never_a_variable : (t u v other : plain.Annotation) → NoPort ≡ incoming_to t (plain.FunctionType u v) other
never_a_variable t u v (plain.Variable a) = refl
never_a_variable t u v (plain.NamedType m x ts) = refl
never_a_variable t u v (plain.FunctionType a b) = refl
never_a_variable t u v (plain.TupleType ts) = refl
never_a_variable t u v (plain.RecordType fs) = refl
never_a_variable t u v (plain.ExtendedType a fs) = refl

pub incoming_from_more : (t other : plain.Annotation) (us : List Annotation) → 2 ≤ length us →
    NoPort ≡ incoming_to t (function_type (map annotation_view us)) other
incoming_from_more t other [] h = absurd (omega arith)
incoming_from_more t other (u ∷ []) h = absurd (omega arith)
incoming_from_more t other (u ∷ v ∷ us) h =
    never_a_variable t (annotation_view u) (function_type (map annotation_view (v ∷ us))) other

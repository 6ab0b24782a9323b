-- The types of constructors and ports, as the law of typed programs speaks of them.
use Rattle.std.specs.Prelude.{◌≡◌, ℕ, List, [], ◌∷◌, map, length, Some}
use Rattle.std.specs.List.{AllByRecursion, zip}
use Rattle.elm_canon.specs.Names.{Name}
use Rattle.elm_canon.specs.declared.unions.Alternative.{Alternative}
use Rattle.elm_canon.specs.Tree.{Annotation, Annotations, NoAnnotation, MoreAnnotation, FieldTypes, RecordType, field_names}
use Rattle.elm_canon.specs.Tree.{UnionDeclaration, Payload}
use Rattle.elm_type.specs.Types.{ElmType, Leaf, function, functions}
use Rattle.elm_type.specs.Rows.{closed}
use Rattle.canon_type.specs.Ports.{port_form, Outgoing, Incoming}
use Rattle.port_payload.specs.Payloads.{payload_of}
use Rattle.emit_size_laws.specs.Small.{HasFields}
use Rattle.type_items.specs.Annotations.{written, annotation_type, number_of, own_variables, scheme_variable}
use Rattle.type_items.specs.Annotations.{annotation_scheme}
use Rattle.type_items.specs.Modules.{function_to, union_type, field_types}
use Rattle.typed_values.specs.Payloads.{payload_type, cmd_type, sub_type, HasEachOnce}
use Rattle.typed_values.specs.World.{Constructor, made_type}

-- ---- constructors of unions

abbrev pub types_in : {X : Type 0} → (Name → ElmType X) → Annotations → List (ElmType X)
types_in of NoAnnotation = []
types_in of (MoreAnnotation t ts) = annotation_type of t ∷ types_in of ts

-- the type of a constructor with these fields, as an annotation would say it
abbrev pub maker_type : Name → UnionDeclaration → Annotations → Annotation
maker_type m u ts = function_to ts (union_type m u)

-- a constructor of the union, by the numbers that the variables have in its type
abbrev pub constructor_of : Name → UnionDeclaration → Alternative × Annotations → Constructor
constructor_of m u c = record {
  alternative = c.0;
  fields = types_in (scheme_variable [] (maker_type m u c.1)) c.1;
  arguments = map (λ a. number_of a (own_variables [] (maker_type m u c.1))) u.parameters;
}

abbrev pub MakersHaveSchemes : Type 0
MakersHaveSchemes =
    (m : Name) (u : UnionDeclaration) (c : Alternative × Annotations) → (annotation_scheme (maker_type m u c.1)).type
    ≡ functions (constructor_of m u c).fields (made_type m u.name (constructor_of m u c))

-- ---- constructors of records

abbrev pub record_types : FieldTypes → List (ElmType (Leaf ℕ))
record_types fs =
    types_in (scheme_variable [] (function_to (field_types fs) (RecordType fs))) (field_types fs)

pub record HasRecordScheme (fs : FieldTypes) : Type 0 where
  pub type : (annotation_scheme (function_to (field_types fs) (RecordType fs))).type
      ≡ functions (record_types fs) (closed (zip (field_names fs) (record_types fs)))
  pub counted : length (record_types fs) ≡ length (field_names fs)

abbrev pub RecordsHaveSchemes : Type 0
RecordsHaveSchemes = (fs : FieldTypes) → HasRecordScheme fs

-- ---- ports

-- a variable without a name stands for a name without meaning, which is a fault
abbrev pub HasNoBlank : Annotation → Type 0
HasNoBlank t = AllByRecursion (λ (a : Name). a ≡ [] → ⊥) (written t)

pub record HasPortSchemes (a t : Annotation) (p : Payload) : Type 0 where
  pub out : port_form a ≡ Outgoing t
      → (message : ElmType (Leaf ℕ)) × ((annotation_scheme a).type ≡ function (payload_type p) (cmd_type message))
  pub in_ : port_form a ≡ Incoming t → (message : ElmType (Leaf ℕ))
      × ((annotation_scheme a).type ≡ function (function (payload_type p) message) (sub_type message))

abbrev pub PortsHaveSchemes : Type 0
PortsHaveSchemes =
    (a t : Annotation) (p : Payload) → HasNoBlank t → payload_of t ≡ Some p → HasPortSchemes a t p

abbrev pub PayloadsHaveOnce : Type 0
PayloadsHaveOnce = (p : Payload) → HasFields p → HasEachOnce p

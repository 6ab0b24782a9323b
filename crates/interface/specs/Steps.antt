-- A type of a declaration as a list of steps: each step stands before the types that it is made of. A step makes a type
-- of nothing, or of the two types after it. So the list is read from its end, and each type has a list of its own.
use Rattle.std.specs.Prelude.{List, [], ◌∷◌, ◌++◌, Option, Some, None}
use Rattle.elm_canon.specs.Names.{Name}
use Rattle.elm_canon.specs.Tree.{Annotation, Annotations, FieldTypes, Variable, NamedType, FunctionType, TupleType}
use Rattle.elm_canon.specs.Tree.{RecordType, ExtendedType, NoAnnotation, MoreAnnotation, NoFieldType, MoreFieldType}
use Rattle.elm_canon.specs.Tree.{annotations_of}
use Rattle.interface.specs.declared.step.Step.{Step}
use Rattle.interface.specs.declared.step.Step.TheVariants as step
use Rattle.interface.specs.Formats.{◌>>=◌}

-- ---- writing

unfoldable mutual
  pub steps_of : Annotation → List Step
  steps_of (Variable a) = step.Variable a ∷ []
  steps_of (NamedType m x ts) = steps_of_parts ts (step.Named m x)
  steps_of (FunctionType t u) = step.Function ∷ (steps_of t ++ steps_of u)
  steps_of (TupleType ts) = steps_of_parts ts step.Tuple
  steps_of (RecordType fs) = steps_of_fields fs step.Record
  steps_of (ExtendedType a fs) = steps_of_fields fs (step.Extended a)

  -- parts, each before a type that it is added to, and that type without parts
  pub steps_of_parts : Annotations → Step → List Step
  steps_of_parts NoAnnotation last = last ∷ []
  steps_of_parts (MoreAnnotation t ts) last = step.Part ∷ (steps_of t ++ steps_of_parts ts last)

  pub steps_of_fields : FieldTypes → Step → List Step
  steps_of_fields NoFieldType last = last ∷ []
  steps_of_fields (MoreFieldType k t fs) last = step.Field k ∷ (steps_of t ++ steps_of_fields fs last)

-- of types one after the other
unfoldable pub steps_of_all : Annotations → List Step
unfolding steps_of
steps_of_all NoAnnotation = []
steps_of_all (MoreAnnotation t ts) = steps_of t ++ steps_of_all ts

-- a part, a parameter and a field
abbrev pub part_steps : Annotation → List Step
part_steps t = step.Part ∷ steps_of t

abbrev pub parameter_steps : Annotation → List Step
parameter_steps t = step.Function ∷ steps_of t

abbrev pub field_steps : Name × Annotation → List Step
field_steps f = step.Field f.0 ∷ steps_of f.1

-- the step of a record, which may stand over a variable
abbrev pub record_step : Option Name → Step
record_step None = step.Record
record_step (Some a) = step.Extended a

-- ---- reading

-- the second type with the first as one more part, before the others
abbrev pub with_part : Annotation → Annotation → Option Annotation
with_part t (NamedType m x ts) = Some (NamedType m x (MoreAnnotation t ts))
with_part t (TupleType ts) = Some (TupleType (MoreAnnotation t ts))
with_part t (Variable a) = None
with_part t (FunctionType u v) = None
with_part t (RecordType fs) = None
with_part t (ExtendedType a fs) = None

-- and as one more field
abbrev pub with_field : Name → Annotation → Annotation → Option Annotation
with_field k t (RecordType fs) = Some (RecordType (MoreFieldType k t fs))
with_field k t (ExtendedType a fs) = Some (ExtendedType a (MoreFieldType k t fs))
with_field k t (Variable a) = None
with_field k t (NamedType m x ts) = None
with_field k t (FunctionType u v) = None
with_field k t (TupleType ts) = None

abbrev pub joined : (Annotation → Annotation → Option Annotation) → List Annotation → Option (List Annotation)
joined join [] = None
joined join (t ∷ []) = None
joined join (t ∷ u ∷ ts) = join t u >>= λ v. Some (v ∷ ts)

-- a step, in front of types that were read
abbrev pub stepped : Step → List Annotation → Option (List Annotation)
stepped (step.Variable a) ts = Some (Variable a ∷ ts)
stepped (step.Named m x) ts = Some (NamedType m x NoAnnotation ∷ ts)
stepped step.Tuple ts = Some (TupleType NoAnnotation ∷ ts)
stepped step.Record ts = Some (RecordType NoFieldType ∷ ts)
stepped (step.Extended a) ts = Some (ExtendedType a NoFieldType ∷ ts)
stepped step.Part ts = joined with_part ts
stepped step.Function ts = joined (λ t u. Some (FunctionType t u)) ts
stepped (step.Field k) ts = joined (with_field k) ts

-- the types that the steps are those of
unfoldable pub built : List Step → Option (List Annotation)
built [] = Some []
built (s ∷ ss) = built ss >>= stepped s

abbrev pub built_all : List Step → Option Annotations
built_all ss = built ss >>= λ ts. Some (annotations_of ts)

abbrev pub only_one : List Annotation → Option Annotation
only_one [] = None
only_one (t ∷ []) = Some t
only_one (t ∷ u ∷ ts) = None

abbrev pub built_one : List Step → Option Annotation
built_one ss = built ss >>= only_one

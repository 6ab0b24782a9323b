-- The types of declarations that steps make are those whose steps they are.
use Rattle.std.proofs.Common.{◌≡◌, List, [], ◌∷◌, ◌++◌, Option, Some, None, refl, sym, ap, ◌∙◌, append_assoc, append-nil}
use Rattle.elm_canon.specs.Names.{Name}
use Rattle.elm_canon.specs.Tree.{Annotation, Annotations, FieldTypes, Variable, NamedType, FunctionType, TupleType}
use Rattle.elm_canon.specs.Tree.{RecordType, ExtendedType, NoAnnotation, MoreAnnotation, NoFieldType, MoreFieldType}
use Rattle.elm_canon.specs.Tree.{annotations_of}
use Rattle.interface.specs.declared.step.Step.{Step}
use Rattle.interface.specs.declared.step.Step.TheVariants as step
use Rattle.interface.specs.Formats.{◌>>=◌}
use Rattle.interface.specs.Steps.{steps_of, steps_of_parts, steps_of_fields, steps_of_all, with_part, with_field, joined}
use Rattle.interface.specs.Steps.{stepped, built, built_all, only_one, built_one}
use Rattle.interface.proofs.Laws.{bind_some, some_is}

-- ---- what is written is read

-- one more type in front of those that were read
abbrev in_front : Annotation → List Annotation → Option (List Annotation)
in_front t ts = Some (t ∷ ts)

-- two steps on what was read
twice : (r : Option (List Annotation)) (f g : List Annotation → Option (List Annotation)) → (r >>= f) >>= g ≡ (r >>= λ ts. f ts >>= g)
twice None f g = refl
twice (Some ts) f g = refl

-- a type that takes parts
record TakesParts (last : Step) (make : Annotations → Annotation) : Type 0 where
  first : (ts : List Annotation) → stepped last ts ≡ Some (make NoAnnotation ∷ ts)
  more : (t : Annotation) (ts : Annotations) → with_part t (make ts) ≡ Some (make (MoreAnnotation t ts))

record TakesFields (last : Step) (make : FieldTypes → Annotation) : Type 0 where
  first : (ts : List Annotation) → stepped last ts ≡ Some (make NoFieldType ∷ ts)
  more : (k : Name) (t : Annotation) (fs : FieldTypes) → with_field k t (make fs) ≡ Some (make (MoreFieldType k t fs))

bind_same : (r : Option (List Annotation)) (f g : List Annotation → Option (List Annotation)) → ((ts : List Annotation) → f ts ≡ g ts) → (r >>= f) ≡ (r >>= g)
bind_same None f g h = refl
bind_same (Some ts) f g h = h ts

joins_part : (t u v : Annotation) (r : Option (List Annotation)) → with_part t u ≡ Some v → ((r >>= in_front u) >>= in_front t) >>= joined with_part ≡ (r >>= in_front v)
joins_part t u v None e = refl
joins_part t u v (Some ts) e = ap (λ (o : Option Annotation). o >>= λ w. Some (w ∷ ts)) e

joins_field : (k : Name) (t u v : Annotation) (r : Option (List Annotation)) → with_field k t u ≡ Some v → ((r >>= in_front u) >>= in_front t) >>= joined (with_field k) ≡ (r >>= in_front v)
joins_field k t u v None e = refl
joins_field k t u v (Some ts) e = ap (λ (o : Option Annotation). o >>= λ w. Some (w ∷ ts)) e

joins_function : (t u : Annotation) (r : Option (List Annotation)) → ((r >>= in_front u) >>= in_front t) >>= stepped step.Function ≡ (r >>= in_front (FunctionType t u))
joins_function t u None = refl
joins_function t u (Some ts) = refl

named_parts : (m x : Name) → TakesParts (step.Named m x) (NamedType m x)
named_parts m x = record { first = λ ts. refl; more = λ t ts. refl }

tuple_parts : TakesParts step.Tuple TupleType
tuple_parts = record { first = λ ts. refl; more = λ t ts. refl }

record_fields : TakesFields step.Record RecordType
record_fields = record { first = λ ts. refl; more = λ k t fs. refl }

extended_fields : (a : Name) → TakesFields (step.Extended a) (ExtendedType a)
extended_fields a = record { first = λ ts. refl; more = λ k t fs. refl }

mutual
  unfolding steps_of built

  built_steps : (t : Annotation) (ss : List Step) → built (steps_of t ++ ss) ≡ (built ss >>= in_front t)
  built_steps (Variable a) ss = refl
  built_steps (NamedType m x ts) ss = built_parts (step.Named m x) (NamedType m x) (named_parts m x) ts ss
  built_steps (FunctionType t u) ss =
      ap (λ (qs : List Step). built qs >>= stepped step.Function) (append_assoc (steps_of t) (steps_of u) ss)
      ∙ ap (λ (r : Option (List Annotation)). r >>= stepped step.Function) (built_steps t (steps_of u ++ ss) ∙ ap (λ (r : Option (List Annotation)). r >>= in_front t) (built_steps u ss))
      ∙ joins_function t u (built ss)
  built_steps (TupleType ts) ss = built_parts step.Tuple TupleType tuple_parts ts ss
  built_steps (RecordType fs) ss = built_fields step.Record RecordType record_fields fs ss
  built_steps (ExtendedType a fs) ss = built_fields (step.Extended a) (ExtendedType a) (extended_fields a) fs ss

  built_parts : (last : Step) (make : Annotations → Annotation) → TakesParts last make → (ts : Annotations) (ss : List Step) → built (steps_of_parts ts last ++ ss) ≡ (built ss >>= in_front (make ts))
  built_parts last make h NoAnnotation ss = bind_same (built ss) (stepped last) (in_front (make NoAnnotation)) h.first
  built_parts last make h (MoreAnnotation t ts) ss =
      ap (λ (qs : List Step). built qs >>= stepped step.Part) (append_assoc (steps_of t) (steps_of_parts ts last) ss)
      ∙ ap (λ (r : Option (List Annotation)). r >>= stepped step.Part) (built_steps t (steps_of_parts ts last ++ ss) ∙ ap (λ (r : Option (List Annotation)). r >>= in_front t) (built_parts last make h ts ss))
      ∙ joins_part t (make ts) (make (MoreAnnotation t ts)) (built ss) (h.more t ts)

  built_fields : (last : Step) (make : FieldTypes → Annotation) → TakesFields last make → (fs : FieldTypes) (ss : List Step) → built (steps_of_fields fs last ++ ss) ≡ (built ss >>= in_front (make fs))
  built_fields last make h NoFieldType ss = bind_same (built ss) (stepped last) (in_front (make NoFieldType)) h.first
  built_fields last make h (MoreFieldType k t fs) ss =
      ap (λ (qs : List Step). built qs >>= stepped (step.Field k)) (append_assoc (steps_of t) (steps_of_fields fs last) ss)
      ∙ ap (λ (r : Option (List Annotation)). r >>= stepped (step.Field k)) (built_steps t (steps_of_fields fs last ++ ss) ∙ ap (λ (r : Option (List Annotation)). r >>= in_front t) (built_fields last make h fs ss))
      ∙ joins_field k t (make fs) (make (MoreFieldType k t fs)) (built ss) (h.more k t fs)

pub one_forth : (t : Annotation) → built_one (steps_of t) ≡ Some t
unfolding built
one_forth t = ap built_one (sym (append-nil (steps_of t))) ∙ ap (λ (r : Option (List Annotation)). r >>= only_one) (built_steps t [])

abbrev listed : Annotations → List Annotation
listed NoAnnotation = []
listed (MoreAnnotation t ts) = t ∷ listed ts

listed_back : (ts : Annotations) → annotations_of (listed ts) ≡ ts
listed_back NoAnnotation = refl
listed_back (MoreAnnotation t ts) = ap (MoreAnnotation t) (listed_back ts)

built_listed : (ts : Annotations) → built (steps_of_all ts) ≡ Some (listed ts)
unfolding steps_of_all built
built_listed NoAnnotation = refl
built_listed (MoreAnnotation t ts) = built_steps t (steps_of_all ts) ∙ ap (λ (r : Option (List Annotation)). r >>= in_front t) (built_listed ts)

pub all_forth : (ts : Annotations) → built_all (steps_of_all ts) ≡ Some ts
all_forth ts = ap (λ (r : Option (List Annotation)). r >>= λ us. Some (annotations_of us)) (built_listed ts) ∙ ap (λ (us : Annotations). Some us) (listed_back ts)

-- ---- what is read was written

abbrev steps_all : List Annotation → List Step
steps_all [] = []
steps_all (t ∷ ts) = steps_of t ++ steps_all ts

-- a step has made the first type, of what comes next in the steps
part_back : (t u v : Annotation) → with_part t u ≡ Some v → steps_of v ≡ step.Part ∷ (steps_of t ++ steps_of u)
unfolding steps_of
part_back t (NamedType m x ts) v e = ap steps_of (sym (some_is (NamedType m x (MoreAnnotation t ts)) v e))
part_back t (TupleType ts) v e = ap steps_of (sym (some_is (TupleType (MoreAnnotation t ts)) v e))
part_back t (Variable a) v e = absurd (cc)
part_back t (FunctionType u w) v e = absurd (cc)
part_back t (RecordType fs) v e = absurd (cc)
part_back t (ExtendedType a fs) v e = absurd (cc)

field_back : (k : Name) (t u v : Annotation) → with_field k t u ≡ Some v → steps_of v ≡ step.Field k ∷ (steps_of t ++ steps_of u)
unfolding steps_of
field_back k t (RecordType fs) v e = ap steps_of (sym (some_is (RecordType (MoreFieldType k t fs)) v e))
field_back k t (ExtendedType a fs) v e = ap steps_of (sym (some_is (ExtendedType a (MoreFieldType k t fs)) v e))
field_back k t (Variable a) v e = absurd (cc)
field_back k t (NamedType m x ts) v e = absurd (cc)
field_back k t (FunctionType u w) v e = absurd (cc)
field_back k t (TupleType ts) v e = absurd (cc)

joined_back : (s : Step) (join : Annotation → Annotation → Option Annotation) (ts us : List Annotation)
    → ((t u v : Annotation) → join t u ≡ Some v → steps_of v ≡ s ∷ (steps_of t ++ steps_of u)) → joined join ts ≡ Some us → steps_all us ≡ s ∷ steps_all ts
joined_back s join [] us h e = absurd (cc)
joined_back s join (t ∷ []) us h e = absurd (cc)
joined_back s join (t ∷ u ∷ ts) us h e =
    let v = bind_some (join t u) (λ w. Some (w ∷ ts)) us e in
    ap steps_all (sym (some_is (v.0 ∷ ts) us v.2)) ∙ ap (λ (qs : List Step). qs ++ steps_all ts) (h t u v.0 v.1) ∙ ap (λ (qs : List Step). s ∷ qs) (append_assoc (steps_of t) (steps_of u) (steps_all ts))

made_back : (t : Annotation) (ts us : List Annotation) → in_front t ts ≡ Some us → steps_all us ≡ steps_of t ++ steps_all ts
made_back t ts us e = ap steps_all (sym (some_is (t ∷ ts) us e))

stepped_back : (s : Step) (ts us : List Annotation) → stepped s ts ≡ Some us → steps_all us ≡ s ∷ steps_all ts
unfolding steps_of
stepped_back (step.Variable a) ts us e = made_back (Variable a) ts us e
stepped_back (step.Named m x) ts us e = made_back (NamedType m x NoAnnotation) ts us e
stepped_back step.Tuple ts us e = made_back (TupleType NoAnnotation) ts us e
stepped_back step.Record ts us e = made_back (RecordType NoFieldType) ts us e
stepped_back (step.Extended a) ts us e = made_back (ExtendedType a NoFieldType) ts us e
stepped_back step.Part ts us e = joined_back step.Part with_part ts us part_back e
stepped_back step.Function ts us e =
    joined_back step.Function (λ t u. Some (FunctionType t u)) ts us (λ t u v is. ap steps_of (sym (some_is (FunctionType t u) v is))) e
stepped_back (step.Field k) ts us e = joined_back (step.Field k) (with_field k) ts us (field_back k) e

built_back : (ss : List Step) (ts : List Annotation) → built ss ≡ Some ts → steps_all ts ≡ ss
unfolding built
built_back [] ts e = ap steps_all (sym (some_is [] ts e))
built_back (s ∷ ss) ts e =
    let us = bind_some (built ss) (stepped s) ts e in
    stepped_back s us.0 ts us.2 ∙ ap (λ (qs : List Step). s ∷ qs) (built_back ss us.0 us.1)

only_back : (ts : List Annotation) (t : Annotation) → only_one ts ≡ Some t → steps_of t ≡ steps_all ts
only_back [] t e = absurd (cc)
only_back (u ∷ []) t e = ap steps_of (sym (some_is u t e)) ∙ sym (append-nil (steps_of u))
only_back (u ∷ v ∷ ts) t e = absurd (cc)

pub one_back : (ss : List Step) (t : Annotation) → built_one ss ≡ Some t → steps_of t ≡ ss
one_back ss t e = let ts = bind_some (built ss) only_one t e in only_back ts.0 t ts.2 ∙ built_back ss ts.0 ts.1

all_steps : (ts : List Annotation) → steps_of_all (annotations_of ts) ≡ steps_all ts
unfolding steps_of_all
all_steps [] = refl
all_steps (t ∷ ts) = ap (λ (qs : List Step). steps_of t ++ qs) (all_steps ts)

pub all_back : (ss : List Step) (ts : Annotations) → built_all ss ≡ Some ts → steps_of_all ts ≡ ss
all_back ss ts e =
    let us = bind_some (built ss) (λ us. Some (annotations_of us)) ts e in
    ap steps_of_all (sym (some_is (annotations_of us.0) ts us.2)) ∙ all_steps us.0 ∙ built_back ss us.0 us.1

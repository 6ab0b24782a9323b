-- Steps in front of types that were read.
use Rattle.std.proofs.Common.{◌≡◌, ℕ, zero, suc, ◌≤◌, length, slice_set, slice_index_or, List, [], ◌∷◌, ◌++◌, map, reverse, Option, Some, None, Bool, true, false, Vec, Global, Result, Ok, Err, IfOk, if◌then◌else◌, refl, sym, subst, ap, ◌∙◌, arith}
use Rattle.std.proofs.lemmas.List.{map-append, reverse-append}
use Rattle.elm_canon.specs.Tree as plain
use Rattle.elm_canon.specs.Tree.{annotations_of, field_types_of}
use Rattle.elm_canon.specs.Names.{Name}
use Rattle.elm_canon.specs.View.{annotation_view, field_type_view, function_to, function_type}
use Rattle.elm_canon.specs.declared.tree.Annotation.{Annotation}
use Rattle.elm_canon.specs.declared.tree.Annotation.TheVariants as annotation
use Rattle.elm_canon.specs.declared.tree.FieldType.{FieldType}
use Rattle.elm_canon.proofs.Views.{named_type, type_of_function, tuple_type, type_of_record}
use Rattle.interface.specs.declared.step.Step.{Step}
use Rattle.interface.specs.Formats.{◌>>=◌}
use Rattle.interface.specs.Steps.{stepped, built, joined, with_part, with_field}
use Rattle.interface.specs.Opened.{opened_view, stack_view}
use Rattle.interface.specs.declared.opened.Opened.{Opened}
use Rattle.interface.specs.declared.opened.Opened.TheVariants as opened

abbrev pub built_onto : List Step → Option (List plain.Annotation) → Option (List plain.Annotation)
built_onto [] found = found
built_onto (s ∷ ss) found = built_onto ss found >>= stepped s

pub onto_nothing : (ss : List Step) → built_onto ss (Some []) ≡ built ss
unfolding built
onto_nothing [] = refl
onto_nothing (s ∷ ss) = ap (λ (r : Option (List plain.Annotation)). r >>= stepped s) (onto_nothing ss)

pub onto_last : (ss : List Step) (s : Step) (found : Option (List plain.Annotation)) → built_onto (ss ++ s ∷ []) found ≡ built_onto ss (found >>= stepped s)
onto_last [] s found = refl
onto_last (t ∷ ss) s found = ap (λ (r : Option (List plain.Annotation)). r >>= stepped t) (onto_last ss s found)

pub onto_refused : (ss : List Step) → built_onto ss None ≡ None
onto_refused [] = refl
onto_refused (s ∷ ss) = ap (λ (r : Option (List plain.Annotation)). r >>= stepped s) (onto_refused ss)

-- ---- functions

length_push : (rs : List plain.Annotation) (t : plain.Annotation) → length (rs ++ t ∷ []) ≡ suc (length rs)
length_push [] t = refl
length_push (r ∷ rs) t = ap suc (length_push rs t)

-- two types or more are those of a function
some_function : (rs : List plain.Annotation) → 2 ≤ length rs → (p : plain.Annotation) × (q : plain.Annotation) × (function_type rs ≡ plain.FunctionType p q)
some_function [] h = absurd (omega (arith, h))
some_function (p ∷ []) h = absurd (omega (arith, h))
some_function (p ∷ q ∷ rs) h = (p, function_to q rs, refl)

counted : (ts : List Annotation) → length (reverse (map annotation_view ts)) ≡ length ts
counted [] = refl
counted (t ∷ ts) =
    ap length (reverse-append (annotation_view t ∷ []) (map annotation_view ts)) ∙ length_push (reverse (map annotation_view ts)) (annotation_view t) ∙ ap suc (counted ts)

in_reverse : (n : ℕ) (ts : List Annotation) → n ≤ length ts → n ≤ length (reverse (map annotation_view ts))
in_reverse n ts h = subst (λ (k : ℕ). n ≤ k) (sym (counted ts)) h

pub no_part : (t : plain.Annotation) (ts : List Annotation) → 2 ≤ length ts → with_part t (function_type (reverse (map annotation_view ts))) ≡ None
no_part t ts h = ap (with_part t) (some_function (reverse (map annotation_view ts)) (in_reverse 2 ts h)).2

pub no_field : (k : Name) (t : plain.Annotation) (ts : List Annotation) → 2 ≤ length ts → with_field k t (function_type (reverse (map annotation_view ts))) ≡ None
no_field k t ts h = ap (with_field k t) (some_function (reverse (map annotation_view ts)) (in_reverse 2 ts h)).2

in_front : (p : plain.Annotation) (rs : List plain.Annotation) → 1 ≤ length rs → function_type (p ∷ rs) ≡ plain.FunctionType p (function_type rs)
in_front p [] h = absurd (omega (arith, h))
in_front p (q ∷ rs) h = refl

-- one more parameter
pub one_more_parameter : (p : Annotation) (ts us : List Annotation) → 1 ≤ length ts → reverse (map annotation_view us) ≡ annotation_view p ∷ reverse (map annotation_view ts)
    → function_type (reverse (map annotation_view us)) ≡ plain.FunctionType (annotation_view p) (function_type (reverse (map annotation_view ts)))
one_more_parameter p ts us h e = ap function_type e ∙ in_front (annotation_view p) (reverse (map annotation_view ts)) (in_reverse 1 ts h)

-- ---- types to which nothing more is added

reversed_map : {X A : Type 0} (f : X → A) (xs : List X) → map f (reverse xs) ≡ reverse (map f xs)
reversed_map f [] = refl
reversed_map {X} {A} f (x ∷ xs) =
    ap (map f) (reverse-append (x ∷ []) xs) ∙ map-append f (reverse xs) (x ∷ []) ∙ ap (λ (as_ : List A). as_ ++ f x ∷ []) (reversed_map f xs)
    ∙ sym (reverse-append (f x ∷ []) (map f xs))

pub closed_named : (m x : Name) (ts us : Vec Annotation Global) → us.items ≡ reverse ts.items → annotation_view (annotation.Named m x us) ≡ opened_view (opened.Named m x ts)
closed_named m x ts us e =
    named_type m x us ∙ ap (λ (vs : List Annotation). plain.NamedType m x (annotations_of (map annotation_view vs))) e
    ∙ ap (λ (vs : List plain.Annotation). plain.NamedType m x (annotations_of vs)) (reversed_map annotation_view ts.items)

pub closed_tuple : (ts us : Vec Annotation Global) → us.items ≡ reverse ts.items → annotation_view (annotation.Tuple us) ≡ opened_view (opened.Tuple ts)
closed_tuple ts us e =
    tuple_type us ∙ ap (λ (vs : List Annotation). plain.TupleType (annotations_of (map annotation_view vs))) e
    ∙ ap (λ (vs : List plain.Annotation). plain.TupleType (annotations_of vs)) (reversed_map annotation_view ts.items)

pub closed_record : (base : Option Name) (fs gs : Vec FieldType Global) → gs.items ≡ reverse fs.items → annotation_view (annotation.Record base gs) ≡ opened_view (opened.Record base fs)
closed_record None fs gs e =
    type_of_record None gs ∙ ap (λ (hs : List FieldType). plain.RecordType (field_types_of (map field_type_view hs))) e
    ∙ ap (λ (hs : List (Name × plain.Annotation)). plain.RecordType (field_types_of hs)) (reversed_map field_type_view fs.items)
closed_record (Some a) fs gs e =
    type_of_record (Some a) gs ∙ ap (λ (hs : List FieldType). plain.ExtendedType a (field_types_of (map field_type_view hs))) e
    ∙ ap (λ (hs : List (Name × plain.Annotation)). plain.ExtendedType a (field_types_of hs)) (reversed_map field_type_view fs.items)

pub closed_function : (ts us : Vec Annotation Global) → us.items ≡ reverse ts.items → annotation_view (annotation.Function us) ≡ function_type (reverse (map annotation_view ts.items))
closed_function ts us e =
    type_of_function us ∙ ap (λ (vs : List Annotation). function_type (map annotation_view vs)) e ∙ ap function_type (reversed_map annotation_view ts.items)

-- ---- one more, in front

reversed_push : {X A : Type 0} (f : X → A) (xs : List X) (x : X) → reverse (map f (xs ++ x ∷ [])) ≡ f x ∷ reverse (map f xs)
reversed_push f xs x = ap reverse (map-append f xs (x ∷ [])) ∙ reverse-append (map f xs) (f x ∷ [])

pub pushed : (old : List Opened) (t : Opened) (new : List Opened) → new ≡ old ++ t ∷ [] → stack_view new ≡ opened_view t ∷ stack_view old
pushed old t new e = ap stack_view e ∙ reversed_push opened_view old t

pub more_part : (ts us : List Annotation) (t : Annotation) → us ≡ ts ++ t ∷ [] → reverse (map annotation_view us) ≡ annotation_view t ∷ reverse (map annotation_view ts)
more_part ts us t e = ap (λ (vs : List Annotation). reverse (map annotation_view vs)) e ∙ reversed_push annotation_view ts t

pub more_field : (fs gs : List FieldType) (f : FieldType) → gs ≡ fs ++ f ∷ [] → reverse (map field_type_view gs) ≡ field_type_view f ∷ reverse (map field_type_view fs)
more_field fs gs f e = ap (λ (hs : List FieldType). reverse (map field_type_view hs)) e ∙ reversed_push field_type_view fs f

-- ---- the last item of a stack

apart : (items : List Opened) (n : ℕ) (old : Opened) → suc n ≡ length items → old ≡ slice_index_or items n old
    → (front : List Opened) × (items ≡ front ++ old ∷ []) × ((t : Opened) → slice_set items n t ≡ front ++ t ∷ [])
apart [] n old e is = absurd (omega (arith, e))
apart (x ∷ []) zero old e is = ([], ap (λ (y : Opened). y ∷ []) (sym is), λ t. refl)
apart (x ∷ []) (suc n) old e is = absurd (omega (arith, e))
apart (x ∷ y ∷ ys) zero old e is = absurd (omega (arith, e))
apart (x ∷ y ∷ ys) (suc n) old e is =
    let r = apart (y ∷ ys) n old (omega (arith, e)) is in (x ∷ r.0, ap (λ (zs : List Opened). x ∷ zs) r.1, λ t. ap (λ (zs : List Opened). x ∷ zs) (r.2 t))

-- the first type is joined to the second in its place
pub joined_last : {E : Type 0} (join : plain.Annotation → plain.Annotation → Option plain.Annotation) (all items : List Opened) (n : ℕ) (p : plain.Annotation) (old t : Opened) (done : Result Bool E)
    → suc n ≡ length items → stack_view all ≡ p ∷ stack_view items → old ≡ slice_index_or items n old
    → IfOk done (λ taken. join p (opened_view old) ≡ (if taken then Some (opened_view t) else None))
    → IfOk done (λ taken. joined join (stack_view all) ≡ (if taken then Some (stack_view (slice_set items n t)) else None))
joined_last join all items n p old t (Err e) count first is made = tt
joined_last join all items n p old t (Ok taken) count first is made =
    let r = apart items n old count is in
    ap (joined join) (first ∙ ap (λ (zs : List Opened). p ∷ stack_view zs) r.1 ∙ ap (λ (zs : List plain.Annotation). p ∷ zs) (reversed_push opened_view r.0 old))
    ∙ ap (λ (o : Option plain.Annotation). o >>= λ w. Some (w ∷ stack_view r.0)) made ∙ at r.0 (r.2 t) taken
  where
    at : (front : List Opened) → slice_set items n t ≡ front ++ t ∷ [] → (taken : Bool)
        → ((if taken then Some (opened_view t) else None) >>= λ w. Some (w ∷ stack_view front)) ≡ (if taken then Some (stack_view (slice_set items n t)) else None)
    at front e true = ap (λ (zs : List plain.Annotation). Some zs) (sym (ap stack_view e ∙ reversed_push opened_view front t))
    at front e false = refl

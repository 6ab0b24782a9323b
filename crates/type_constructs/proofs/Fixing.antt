-- Inside its definition an annotation has constants for all its variables.
use Rattle.std.proofs.Common.{◌≡◌, List, [], ◌∷◌, ◌++◌, map, filter, Bool, true, false, cond, Option, Some, None, refl, sym, ap, ◌∙◌, subst}
use Rattle.std.specs.Prelude.{◌||◌, is_none}
use Rattle.std.specs.List.{AllByRecursion}
use Rattle.std.specs.Map.{lookup}
use Rattle.std.specs.Str.{bytes_eq}
use Rattle.elm_canon.specs.Tree.{Annotation, Variable, NamedType, FunctionType, TupleType, RecordType, ExtendedType}
use Rattle.elm_canon.specs.Tree.{Annotations, NoAnnotation, MoreAnnotation, FieldTypes, NoFieldType, MoreFieldType}
use Rattle.elm_type.specs.Types.{Name, Record, Closed, NoField, MoreField, variables, variables_all, variables_fields, Rigid}
use Rattle.elm_type.specs.Ground.{contains}
use Rattle.type_items.specs.Items.{Place, Wanted, at}
use Rattle.type_items.specs.Scopes.{Constants}
use Rattle.type_items.specs.Annotations.{written, written_all, written_fields, once, variables_of, annotation_type, annotation_types, annotation_fields, own_variables, own_constants, constant, constant_or, fixed_variable}
use Rattle.type_store.proofs.Names.{same_name, equal_itself}
use Rattle.type_walks.proofs.Cleaning.{all_both, all_first, all_second, extended}
use Rattle.type_constructs.specs.Annotated.{IsFixed, AllFixed}
use Rattle.type_constructs.specs.TypeAnnotationsLaws.{FixesTypes}

-- ---- the type of an annotation whose variables are constants

module _ (of : Name → Wanted) where
  abbrev P : Name → Type 0
  P a = AllFixed (of a)

  mutual
    of_type : (t : Annotation) → AllByRecursion P (written t) → AllByRecursion IsFixed (variables (annotation_type of t))
    of_type (Variable a) h = h.0
    of_type (NamedType m x ts) h = of_types ts h
    of_type (FunctionType t u) h =
        all_both IsFixed (variables (annotation_type of t)) (variables (annotation_type of u) ++ []) (of_type t (all_first P (written t) (written u) h))
        (all_both IsFixed (variables (annotation_type of u)) [] (of_type u (all_second P (written t) (written u) h)) tt)
    of_type (TupleType ts) h = of_types ts h
    of_type (RecordType fs) h = of_fields fs h
    of_type (ExtendedType a fs) h = extended IsFixed (annotation_fields of fs) (of a) (of_fields fs h.1) h.0

    of_types : (ts : Annotations) → AllByRecursion P (written_all ts) → AllByRecursion IsFixed (variables_all (annotation_types of ts))
    of_types NoAnnotation h = tt
    of_types (MoreAnnotation t ts) h =
        all_both IsFixed (variables (annotation_type of t)) (variables_all (annotation_types of ts)) (of_type t (all_first P (written t) (written_all ts) h))
        (of_types ts (all_second P (written t) (written_all ts) h))

    of_fields : (fs : FieldTypes) → AllByRecursion P (written_fields fs) → AllByRecursion IsFixed (variables_fields (annotation_fields of fs))
    of_fields NoFieldType h = tt
    of_fields (MoreFieldType k t fs) h =
        extended IsFixed (MoreField k (annotation_type of t) NoField) (Record (annotation_fields of fs) Closed)
        (all_both IsFixed (variables (annotation_type of t)) [] (of_type t (all_first P (written t) (written_fields fs) h)) tt)
        (of_fields fs (all_second P (written t) (written_fields fs) h))

-- ---- each variable is found

or_right : (a b : Bool) → b ≡ true → (a || b) ≡ true
or_right true b h = refl
or_right false b h = h

or_none : (a b : Bool) → a ≡ false → b ≡ false → (a || b) ≡ false
or_none true b h k = h
or_none false b h k = k

each_there : (Q : Name → Type 0) (xs : List Name) → ((x : Name) → contains x xs ≡ true → Q x) → AllByRecursion Q xs
each_there Q [] h = tt
each_there Q (x ∷ xs) h = (
  h x (ap (λ b. b || contains x xs) (equal_itself x)),
  each_there Q xs (λ y c. h y (or_right (bytes_eq y x) (contains y xs) c)),
)

-- of the first of a list and the rest
head_or_rest : (Q : Type 0) (x y : Name) (b : Bool) → (bytes_eq x y || b) ≡ true → (x ≡ y → Q) → (bytes_eq x y ≡ false → b ≡ true → Q) → Q
head_or_rest Q x y b h same other = go (bytes_eq x y) refl h
  where
    go : (c : Bool) → bytes_eq x y ≡ c → (c || b) ≡ true → Q
    go true e k = same (same_name x y e)
    go false e k = other e k

once_there : (x : Name) (xs seen : List Name) → contains x xs ≡ true → contains x seen ≡ false → contains x (once xs seen) ≡ true
once_there x [] seen h n = h
once_there x (y ∷ ys) seen h n =
    head_or_rest (contains x (once (y ∷ ys) seen) ≡ true) x y (contains x ys) h
    (λ e. subst (λ z. contains x (once (z ∷ ys) seen) ≡ true) e (here (contains x seen) n))
    (λ e k. there (contains y seen) (once_there x ys seen k n) (once_there x ys (y ∷ seen) k (or_none (bytes_eq x y) (contains x seen) e n)))
  where
    here : (b : Bool) → b ≡ false → contains x (cond b (once ys seen) (x ∷ once ys (x ∷ seen))) ≡ true
    here true e = absurd cc
    here false e = ap (λ c. c || contains x (once ys (x ∷ seen))) (equal_itself x)

    there : (b : Bool) → contains x (once ys seen) ≡ true → contains x (once ys (y ∷ seen)) ≡ true
        → contains x (cond b (once ys seen) (y ∷ once ys (y ∷ seen))) ≡ true
    there true u v = u
    there false u v = or_right (bytes_eq x y) (contains x (once ys (y ∷ seen))) v

filter_there : (f : Name → Bool) (x : Name) (xs : List Name) → contains x xs ≡ true → f x ≡ true → contains x (filter f xs) ≡ true
filter_there f x [] h k = h
filter_there f x (y ∷ ys) h k =
    head_or_rest (contains x (filter f (y ∷ ys)) ≡ true) x y (contains x ys) h
    (λ e. subst (λ z. contains x (filter f (z ∷ ys)) ≡ true) e (here (f x) k))
    (λ e m. there (f y) (filter_there f x ys m k))
  where
    here : (b : Bool) → b ≡ true → contains x (cond b (x ∷ filter f ys) (filter f ys)) ≡ true
    here true e = ap (λ c. c || contains x (filter f ys)) (equal_itself x)
    here false e = absurd cc

    there : (b : Bool) → contains x (filter f ys) ≡ true → contains x (cond b (y ∷ filter f ys) (filter f ys)) ≡ true
    there true u = or_right (bytes_eq x y) (contains x (filter f ys)) u
    there false u = u

record Found (x : Name) (es : Constants) : Type 0 where
  pub rigid : Rigid
  pub is : lookup (bytes_eq x) es ≡ Some rigid

own_found : (g : Name → Rigid) (x : Name) (xs : List Name) (around : Constants) → contains x xs ≡ true → Found x (map (λ a. (a, g a)) xs ++ around)
own_found g x [] around h = absurd cc
own_found g x (y ∷ ys) around h =
    head_or_rest (Found x (map (λ a. (a, g a)) (y ∷ ys) ++ around)) x y (contains x ys) h
    (λ e.
    record {
      rigid = g y;
      is = ap (λ b. cond b (Some (g y)) (lookup (bytes_eq x) (map (λ a. (a, g a)) ys ++ around))) (ap (bytes_eq x) (sym e) ∙ equal_itself x);
    })
    (λ e k. (
    let f = own_found g x ys around k in
    record { rigid = f.rigid; is = ap (λ b. cond b (Some (g y)) (lookup (bytes_eq x) (map (λ a. (a, g a)) ys ++ around))) e ∙ f.is }))

around_found : (g : Name → Rigid) (x : Name) (xs : List Name) (around : Constants) → Found x around → Found x (map (λ a. (a, g a)) xs ++ around)
around_found g x [] around f = f
around_found g x (y ∷ ys) around f = go (bytes_eq x y) refl (around_found g x ys around f)
  where
    go : (b : Bool) → bytes_eq x y ≡ b → Found x (map (λ a. (a, g a)) ys ++ around) → Found x (map (λ a. (a, g a)) (y ∷ ys) ++ around)
    go true e r = record { rigid = g y; is = ap (λ b. cond b (Some (g y)) (lookup (bytes_eq x) (map (λ a. (a, g a)) ys ++ around))) e }
    go false e r = record { rigid = r.rigid; is = ap (λ b. cond b (Some (g y)) (lookup (bytes_eq x) (map (λ a. (a, g a)) ys ++ around))) e ∙ r.is }

module _ (around : Constants) (p : Place) (annotation : Annotation) where
  found : (x : Name) → contains x (written annotation) ≡ true → Found x (own_constants around p annotation ++ around)
  found x h = go (lookup (bytes_eq x) around) refl
    where
      go : (o : Option Rigid) → lookup (bytes_eq x) around ≡ o → Found x (own_constants around p annotation ++ around)
      go (Some r) e = around_found (constant p annotation) x (own_variables around annotation) around (record { rigid = r; is = e })
      go None e =
          own_found (constant p annotation) x (own_variables around annotation) around
          (filter_there (λ a. is_none (lookup (bytes_eq a) around)) x (variables_of annotation) (once_there x (written annotation) [] h refl) (ap is_none e))

  variable_fixed : (x : Name) → contains x (written annotation) ≡ true → AllFixed (fixed_variable (own_constants around p annotation ++ around) p x)
  variable_fixed x h =
      let f = found x h in
      subst (λ o. AllFixed (constant_or o (at p))) (sym f.is) (tt, tt)

pub fixes_types : FixesTypes
fixes_types around p annotation =
    of_type (fixed_variable (own_constants around p annotation ++ around) p) annotation
    (each_there (λ x. AllFixed (fixed_variable (own_constants around p annotation ++ around) p x)) (written annotation) (variable_fixed around p annotation))

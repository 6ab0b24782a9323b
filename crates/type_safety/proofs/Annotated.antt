-- A definition with an annotation has each instance of it: its items, as they are solved, are solved in a frame in which
-- its constants stand for the types of the use. Nothing is listed anew.
use Rattle.std.proofs.Common.{◌≡◌, ℕ, suc, ◌+◌, arith, List, [], ◌∷◌, ◌++◌, map, Bool, true, false, cond, Option, Some, None, filter, inl, inr, refl, sym, ap, ◌∙◌, subst}
use Rattle.std.specs.Prelude.{if◌then◌else◌, ◌&&◌, ◌||◌, is_none, not}
use Rattle.std.specs.List.{AllByRecursion}
use Rattle.std.specs.Map.{lookup}
use Rattle.std.specs.Str.{bytes_eq}
use Rattle.std.proofs.lemmas.Slice.Eq.{bytes_eq-Decides}
use Rattle.elm_base.specs.declared.position.Pos.{Pos}
use Rattle.elm_canon.specs.Tree.{Annotation, Variable, NamedType, FunctionType, TupleType, RecordType, ExtendedType}
use Rattle.elm_canon.specs.Tree.{Annotations, NoAnnotation, MoreAnnotation, FieldTypes, NoFieldType, MoreFieldType}
use Rattle.elm_type.specs.Types.{Name, ElmType, ElmTypes, Fields, End, Closed, Over, Made, Record, NoType, MoreType, NoField}
use Rattle.elm_type.specs.Types.{MoreField, end_variables, variables, variables_all, variables_fields, variable, function}
use Rattle.elm_type.specs.Types.{Rigid, kind_at, Free, Fixed}
use Rattle.elm_type.specs.Classes.{Ground, meets}
use Rattle.elm_type.specs.Rows.{insert_field, insert_all, extend, at_end, substitute, substitute_all, substitute_fields}
use Rattle.elm_type.specs.declared.head.Head.TheVariants as head
use Rattle.elm_type.specs.Ground.{contains, fits, lacks_all, value, leaf_value}
use Rattle.type_items.specs.Items.{Place, Wanted, at, Keeps}
use Rattle.type_items.specs.Scopes.{Constants, Scope, one_types}
use Rattle.type_items.specs.Annotations.{written, written_all, written_fields, once, variables_of, annotation_type}
use Rattle.type_items.specs.Annotations.{annotation_types, annotation_fields, own_variables, constant, own_constants}
use Rattle.type_items.specs.Annotations.{constant_or, fixed_variable, fixed_type, number_of, scheme_variable, scheme_inside}
use Rattle.type_items.specs.Annotations as annotations
use Rattle.type_items.specs.Definitions.{outer_types}
use Rattle.type_items.specs.Solutions.{Avoids, Keep, Solves, Values}
use Rattle.typed_values.specs.Frames.{Frame, of, kind_of, Stands, Agree, instance_leaf, ground_instance, Chosen}
use Rattle.typed_values.proofs.Names.{yes_or_no, all_left, all_right}
use Rattle.typed_values.proofs.Rows.{extend_none, substitute_extend, substitute_insert, insert_all_insert}
use Rattle.typed_values.proofs.Keeping.{and_left, and_right, and_both}

no : {X : Type 0} → false ≡ true → X
no e = absurd (let w : false ≡ true = e in cc)

or_left : (a b : Bool) → a ≡ true → (a || b) ≡ true
or_left true b e = refl
or_left false b e = no e

or_right : (a b : Bool) → b ≡ true → (a || b) ≡ true
or_right true b e = refl
or_right false b e = e

itself : (x : List ℕ) → bytes_eq x x ≡ true
itself x = (bytes_eq-Decides x x).1 refl

-- Annotations under a substitution.

contains_left : (x : Name) (xs ys : List Name) → contains x xs ≡ true → contains x (xs ++ ys) ≡ true
contains_left x [] ys e = no e
contains_left x (z ∷ xs) ys e = go (bytes_eq x z) (contains_left x xs ys) e
  where
    go : (b : Bool) → (contains x xs ≡ true → contains x (xs ++ ys) ≡ true) → (b || contains x xs) ≡ true → (b || contains x (xs ++ ys)) ≡ true
    go true again f = refl
    go false again f = again f

contains_right : (x : Name) (xs ys : List Name) → contains x ys ≡ true → contains x (xs ++ ys) ≡ true
contains_right x [] ys e = e
contains_right x (z ∷ xs) ys e = or_right (bytes_eq x z) (contains x (xs ++ ys)) (contains_right x xs ys e)

settled : {X : Type 0} (of_ : Name → ElmType X) (fs : FieldTypes) → insert_all (annotation_fields of_ fs) NoField ≡ annotation_fields of_ fs
settled of_ NoFieldType = refl
settled of_ (MoreFieldType k t fs) = insert_all_insert k (annotation_type of_ t) (annotation_fields of_ fs) NoField ∙ ap (insert_field k (annotation_type of_ t)) (settled of_ fs)

module _ {X Y : Type 0} (f : X → ElmType Y) (of_ : Name → ElmType X) where
  mutual
    pub annotation_substituted : (t : Annotation) → substitute f (annotation_type of_ t) ≡ annotation_type (λ a. substitute f (of_ a)) t
    annotation_substituted (Variable a) = refl
    annotation_substituted (NamedType m x ts) = ap (Made (head.Named m x)) (annotations_substituted ts)
    annotation_substituted (FunctionType t u) = ap (λ v. function v (substitute f (annotation_type of_ u))) (annotation_substituted t) ∙ ap (function (annotation_type (λ a. substitute f (of_ a)) t)) (annotation_substituted u)
    annotation_substituted (TupleType ts) = ap (Made head.Tuple) (annotations_substituted ts)
    annotation_substituted (RecordType fs) = ap (λ gs. Record (insert_all gs NoField) Closed) (fields_substituted fs) ∙ ap (λ gs. Record gs Closed) (settled (λ a. substitute f (of_ a)) fs)
    annotation_substituted (ExtendedType a fs) = substitute_extend f (annotation_fields of_ fs) (of_ a) ∙ ap (λ gs. extend gs (substitute f (of_ a))) (fields_substituted fs)

    annotations_substituted : (ts : Annotations) → substitute_all f (annotation_types of_ ts) ≡ annotation_types (λ a. substitute f (of_ a)) ts
    annotations_substituted NoAnnotation = refl
    annotations_substituted (MoreAnnotation t ts) = ap (λ u. MoreType u (substitute_all f (annotation_types of_ ts))) (annotation_substituted t) ∙ ap (MoreType (annotation_type (λ a. substitute f (of_ a)) t)) (annotations_substituted ts)

    fields_substituted : (fs : FieldTypes) → substitute_fields f (annotation_fields of_ fs) ≡ annotation_fields (λ a. substitute f (of_ a)) fs
    fields_substituted NoFieldType = refl
    fields_substituted (MoreFieldType k t fs) =
        substitute_insert f k (annotation_type of_ t) (annotation_fields of_ fs) ∙ (ap (λ u. insert_field k u (substitute_fields f (annotation_fields of_ fs))) (annotation_substituted t) ∙
        ap (insert_field k (annotation_type (λ a. substitute f (of_ a)) t)) (fields_substituted fs))

-- the same for each variable that is written
module _ {X : Type 0} (f g : Name → ElmType X) where
  mutual
    pub annotation_same : (t : Annotation) → ((a : Name) → contains a (written t) ≡ true → f a ≡ g a) → annotation_type f t ≡ annotation_type g t
    annotation_same (Variable a) h = h a (or_left (bytes_eq a a) false (itself a))
    annotation_same (NamedType m x ts) h = ap (Made (head.Named m x)) (annotations_same ts h)
    annotation_same (FunctionType t u) h =
        ap (λ v. function v (annotation_type f u)) (annotation_same t (λ a e. h a (contains_left a (written t) (written u) e))) ∙ ap (function (annotation_type g t)) (annotation_same u (λ a e. h a (contains_right a (written t) (written u) e)))
    annotation_same (TupleType ts) h = ap (Made head.Tuple) (annotations_same ts h)
    annotation_same (RecordType fs) h = ap (λ gs. Record gs Closed) (fields_same fs h)
    annotation_same (ExtendedType b fs) h =
        ap (λ gs. extend gs (f b)) (fields_same fs (λ a e. h a (or_right (bytes_eq a b) (contains a (written_fields fs)) e))) ∙ ap (extend (annotation_fields g fs)) (h b (or_left (bytes_eq b b) (contains b (written_fields fs)) (itself b)))

    annotations_same : (ts : Annotations) → ((a : Name) → contains a (written_all ts) ≡ true → f a ≡ g a) → annotation_types f ts ≡ annotation_types g ts
    annotations_same NoAnnotation h = refl
    annotations_same (MoreAnnotation t ts) h =
        ap (λ u. MoreType u (annotation_types f ts)) (annotation_same t (λ a e. h a (contains_left a (written t) (written_all ts) e))) ∙ ap (MoreType (annotation_type g t)) (annotations_same ts (λ a e. h a (contains_right a (written t) (written_all ts) e)))

    fields_same : (fs : FieldTypes) → ((a : Name) → contains a (written_fields fs) ≡ true → f a ≡ g a) → annotation_fields f fs ≡ annotation_fields g fs
    fields_same NoFieldType h = refl
    fields_same (MoreFieldType k t fs) h =
        ap (λ u. insert_field k u (annotation_fields f fs)) (annotation_same t (λ a e. h a (contains_left a (written t) (written_fields fs) e))) ∙ ap (insert_field k (annotation_type g t)) (fields_same fs (λ a e. h a (contains_right a (written t) (written_fields fs) e)))

once_has : (a : Name) (xs seen : List Name) → contains a xs ≡ true → contains a seen ≡ false → contains a (once xs seen) ≡ true
once_has a [] seen e n = no e
once_has a (x ∷ xs) seen e n = go (bytes_eq a x) (contains x seen) refl refl (once_has a xs seen) (once_has a xs (x ∷ seen))
  where
    go : (b c : Bool) → bytes_eq a x ≡ b → contains x seen ≡ c → (contains a xs ≡ true → contains a seen ≡ false → contains a (once xs seen) ≡ true) → (contains a xs ≡ true → contains a (x ∷ seen) ≡ false → contains a (once xs (x ∷ seen)) ≡ true) → contains a (once (x ∷ xs) seen) ≡ true
    go true true p q one two = absurd (let s : a ≡ x = (bytes_eq-Decides a x).0 p in let w : contains a seen ≡ true = ap (λ z. contains z seen) s ∙ q in let v : true ≡ false = sym w ∙ n in cc)
    go true false p q one two = ap (λ c. contains a (if c then once xs seen else x ∷ once xs (x ∷ seen))) q ∙ or_left (bytes_eq a x) (contains a (once xs (x ∷ seen))) p
    go false true p q one two = ap (λ c. contains a (if c then once xs seen else x ∷ once xs (x ∷ seen))) q ∙ one (sym (ap (λ b. b || contains a xs) p) ∙ e) n
    go false false p q one two =
        ap (λ c. contains a (if c then once xs seen else x ∷ once xs (x ∷ seen))) q ∙ or_right (bytes_eq a x) (contains a (once xs (x ∷ seen))) (two (sym (ap (λ b. b || contains a xs) p) ∙ e) (ap (λ b. b || contains a seen) p ∙ n))

those_have : (around : Constants) (a : Name) (xs : List Name) → contains a xs ≡ true → lookup (bytes_eq a) around ≡ None
    → contains a (filter (λ x. is_none (lookup (bytes_eq x) around)) xs) ≡ true
those_have around a [] e n = no e
those_have around a (x ∷ xs) e n = go (bytes_eq a x) (is_none (lookup (bytes_eq x) around)) refl refl e (λ f. those_have around a xs f n)
  where
    kept : List Name
    kept = filter (λ x. is_none (lookup (bytes_eq x) around)) xs

    go : (b c : Bool) → bytes_eq a x ≡ b → is_none (lookup (bytes_eq x) around) ≡ c → (b || contains a xs) ≡ true → (contains a xs ≡ true → contains a kept ≡ true)
        → contains a (cond c (x ∷ kept) kept) ≡ true
    go true true p q f again = or_left (bytes_eq a x) (contains a kept) p
    go true false p q f again =
        absurd (let s : a ≡ x = (bytes_eq-Decides a x).0 p in
        let w : is_none (lookup (bytes_eq x) around) ≡ true = ap (λ z. is_none (lookup (bytes_eq z) around)) (sym s) ∙ ap (λ o. is_none o) n in
        let v : true ≡ false = sym w ∙ q in cc)
    go false true p q f again = or_right (bytes_eq a x) (contains a kept) (again f)
    go false false p q f again = again f

-- an own variable stands for its constant, and any other for what it stands for around
rigid_own : (p : Place) (ann : Annotation) (around : Constants) (a : Name) (xs : List Name) → contains a xs ≡ true
    → lookup (bytes_eq a) (map (λ x. (x, constant p ann x)) xs ++ around) ≡ Some (constant p ann a)
rigid_own p ann around a [] e = no e
rigid_own p ann around a (x ∷ xs) e = go (bytes_eq a x) refl e (rigid_own p ann around a xs)
  where
    go : (b : Bool) → bytes_eq a x ≡ b → (b || contains a xs) ≡ true
        → (contains a xs ≡ true → lookup (bytes_eq a) (map (λ x. (x, constant p ann x)) xs ++ around) ≡ Some (constant p ann a))
        → cond b (Some (constant p ann x)) (lookup (bytes_eq a) (map (λ x. (x, constant p ann x)) xs ++ around)) ≡ Some (constant p ann a)
    go true q f again = ap (λ z. Some (constant p ann z)) (sym ((bytes_eq-Decides a x).0 q))
    go false q f again = again f

none_have : (around : Constants) (a : Name) (xs : List Name) (r : Rigid) → lookup (bytes_eq a) around ≡ Some r
    → contains a (filter (λ x. is_none (lookup (bytes_eq x) around)) xs) ≡ false
none_have around a [] r e = refl
none_have around a (x ∷ xs) r e = go (bytes_eq a x) (is_none (lookup (bytes_eq x) around)) refl refl (none_have around a xs r e)
  where
    kept : List Name
    kept = filter (λ x. is_none (lookup (bytes_eq x) around)) xs

    go : (b c : Bool) → bytes_eq a x ≡ b → is_none (lookup (bytes_eq x) around) ≡ c → contains a kept ≡ false → contains a (cond c (x ∷ kept) kept) ≡ false
    go true true p q again =
        absurd (let s : a ≡ x = (bytes_eq-Decides a x).0 p in
        let w : is_none (lookup (bytes_eq x) around) ≡ false = ap (λ z. is_none (lookup (bytes_eq z) around)) (sym s) ∙ ap (λ o. is_none o) e in
        let v : true ≡ false = sym q ∙ w in cc)
    go true false p q again = again
    go false true p q again = ap (λ b. b || contains a kept) p ∙ again
    go false false p q again = again

rigid_around : (p : Place) (ann : Annotation) (around : Constants) (a : Name) (xs : List Name) → contains a xs ≡ false
    → lookup (bytes_eq a) (map (λ x. (x, constant p ann x)) xs ++ around) ≡ lookup (bytes_eq a) around
rigid_around p ann around a [] n = refl
rigid_around p ann around a (x ∷ xs) n = go (bytes_eq a x) n (rigid_around p ann around a xs)
  where
    go : (b : Bool) → (b || contains a xs) ≡ false → (contains a xs ≡ false → lookup (bytes_eq a) (map (λ x. (x, constant p ann x)) xs ++ around) ≡ lookup (bytes_eq a) around)
        → cond b (Some (constant p ann x)) (lookup (bytes_eq a) (map (λ x. (x, constant p ann x)) xs ++ around)) ≡ lookup (bytes_eq a) around
    go true f again = absurd (let v : true ≡ false = f in cc)
    go false f again = again f

-- ---- other types for some constants

abbrev SameAt : (θ ω : Rigid → Ground) → List Rigid → Type 0
SameAt θ ω rs = AllByRecursion (λ r. θ r ≡ ω r) rs

module _ (θ ω : Rigid → Ground) where
  same_end : (end : End Rigid) → SameAt θ ω (end_variables end) → at_end θ end ≡ at_end ω end
  same_end Closed h = refl
  same_end (Over r) h = h.0

  mutual
    pub substitute_where : (g : Ground) → SameAt θ ω (variables g) → substitute θ g ≡ substitute ω g
    substitute_where (Made h ts) e = ap (Made h) (all_where ts e)
    substitute_where (Record fs end) e =
        ap (λ gs. extend gs (at_end θ end)) (fields_where fs (all_right (λ r. θ r ≡ ω r) (end_variables end) (variables_fields fs) e)) ∙ ap (extend (substitute_fields ω fs)) (same_end end (all_left (λ r. θ r ≡ ω r) (end_variables end) (variables_fields fs) e))

    all_where : (ts : ElmTypes Rigid) → SameAt θ ω (variables_all ts) → substitute_all θ ts ≡ substitute_all ω ts
    all_where NoType e = refl
    all_where (MoreType t ts) e =
        ap (λ u. MoreType u (substitute_all θ ts)) (substitute_where t (all_left (λ r. θ r ≡ ω r) (variables t) (variables_all ts) e)) ∙ ap (MoreType (substitute ω t)) (all_where ts (all_right (λ r. θ r ≡ ω r) (variables t) (variables_all ts) e))

    fields_where : (fs : Fields Rigid) → SameAt θ ω (variables_fields fs) → substitute_fields θ fs ≡ substitute_fields ω fs
    fields_where NoField e = refl
    fields_where (MoreField k t fs) e =
        ap (λ u. MoreField k u (substitute_fields θ fs)) (substitute_where t (all_left (λ r. θ r ≡ ω r) (variables t) (variables_fields fs) e)) ∙ ap (MoreField k (substitute ω t)) (fields_where fs (all_right (λ r. θ r ≡ ω r) (variables t) (variables_fields fs) e))

-- ---- the frame of an instance: own constants stand for the types that are chosen, where these are of their kinds

module _ (p : Place) (ann : Annotation) (own : List Name) (f : Frame) (stands : Stands f) (choice : ℕ → Ground) where
  abbrev is_own : Rigid → Bool
  is_own r = bytes_eq r.place p && contains r.name own

  abbrev picked : Rigid → Bool → Ground
  picked r b = if b then choice (number_of r.name own) else f.stands r

  abbrev pub chosen : Rigid → Ground
  chosen r = picked r (is_own r && fits (kind_of r) (choice (number_of r.name own)))

  abbrev pub instance_frame : Frame
  instance_frame = record { values = f.values; stands = chosen }

  chosen_class : (r : Rigid) (b : Bool) → (is_own r && fits (kind_of r) (choice (number_of r.name own))) ≡ b → meets r.class (picked r b) ≡ true
  chosen_class r true e =
      and_left (meets r.class (choice (number_of r.name own))) (lacks_all r.lacks (choice (number_of r.name own)))
      (and_right (is_own r) (fits (kind_of r) (choice (number_of r.name own))) e)
  chosen_class r false e = stands.classes r

  chosen_rest : (r : Rigid) (b : Bool) → (is_own r && fits (kind_of r) (choice (number_of r.name own))) ≡ b → lacks_all r.lacks (picked r b) ≡ true
  chosen_rest r true e =
      and_right (meets r.class (choice (number_of r.name own))) (lacks_all r.lacks (choice (number_of r.name own)))
      (and_right (is_own r) (fits (kind_of r) (choice (number_of r.name own))) e)
  chosen_rest r false e = stands.rests r

  pub instance_stands : Stands instance_frame
  instance_stands = record {
    classes = λ r. chosen_class r (is_own r && fits (kind_of r) (choice (number_of r.name own))) refl;
    rests = λ r. chosen_rest r (is_own r && fits (kind_of r) (choice (number_of r.name own))) refl;
  }

  -- a constant that is none of the own ones stands for what it stood for
  other : (r : Rigid) → is_own r ≡ false → chosen r ≡ f.stands r
  other r n = ap (λ b. picked r (b && fits (kind_of r) (choice (number_of r.name own)))) n

  avoided : (xs : List Name) (r : Rigid) → ((a : Name) → contains a xs ≡ true → Avoids (constant p ann a) r) → r.place ≡ p → contains r.name xs ≡ true → ⊥
  avoided xs r h e c = (h r.name c).other e refl

  kept_same : (rs : List Rigid) → ((a : Name) → contains a own ≡ true → AllByRecursion (Avoids (constant p ann a)) rs) → SameAt chosen f.stands rs
  kept_same [] h = tt
  kept_same (r ∷ rs) h = (
    elim (yes_or_no (is_own r)) [
      | inl y ↦ absurd (avoided own r (λ a c. (h a c).0) ((bytes_eq-Decides r.place p).0 (and_left (bytes_eq r.place p) (contains r.name own) y)) (and_right (bytes_eq r.place p) (contains r.name own) y))
      | inr n ↦ other r n
    ],
    kept_same rs (λ a c. (h a c).1),
  )

  of_fixed : (θ : Rigid → Ground) (r : Rigid) → substitute θ (value f.values (variable (Fixed r))) ≡ θ r
  of_fixed θ r = ap (substitute θ) (extend_none (variable r)) ∙ extend_none (θ r)

  agree_each : (ts : List Wanted) → ((a : Name) → contains a own ≡ true → AllByRecursion (λ t. Keep (constant p ann a) (value f.values t)) ts)
      → AllByRecursion (λ t. of instance_frame t ≡ of f t) ts
  agree_each [] h = tt
  agree_each (t ∷ ts) h =
      (substitute_where chosen f.stands (value f.values t) (kept_same (variables (value f.values t)) (λ a c. (h a c).0)), agree_each ts (λ a c. (h a c).1))

  agree_constants : (rs : Constants) → AllByRecursion (λ t. of instance_frame t ≡ of f t) (map (λ r. variable (Fixed r.1)) rs)
      → AllByRecursion (λ c. chosen c.1 ≡ f.stands c.1) rs
  agree_constants [] h = tt
  agree_constants (r ∷ rs) h = (sym (of_fixed chosen r.1) ∙ (h.0 ∙ of_fixed f.stands r.1), agree_constants rs h.1)

kept_all : (values : Values) (pos : Pos) (p : Place) (ann : Annotation) (ts : List Wanted) (xs : List Name) (a : Name)
    → Solves values (map (λ (r : Name × Rigid). Keeps pos r.1 ts) (map (λ x. (x, constant p ann x)) xs)) → contains a xs ≡ true → AllByRecursion (λ t. Keep (constant p ann a) (value values t)) ts
kept_all values pos p ann ts [] a h e = no e
kept_all values pos p ann ts (x ∷ xs) a h e = go (bytes_eq a x) refl e (kept_all values pos p ann ts xs a h.1)
  where
    go : (b : Bool) → bytes_eq a x ≡ b → (b || contains a xs) ≡ true → (contains a xs ≡ true → AllByRecursion (λ t. Keep (constant p ann a) (value values t)) ts)
        → AllByRecursion (λ t. Keep (constant p ann a) (value values t)) ts
    go true q f again = subst (λ z. AllByRecursion (λ t. Keep (constant p ann z) (value values t)) ts) (sym ((bytes_eq-Decides a x).0 q)) h.0
    go false q f again = again f

kind_number : (ann : Annotation) (xs : List Name) (a : Name) → contains a xs ≡ true → kind_at (map (annotations.kind_of ann) xs) (number_of a xs) ≡ annotations.kind_of ann a
kind_number ann [] a e = no e
kind_number ann (x ∷ xs) a e = go (bytes_eq a x) refl e (kind_number ann xs a)
  where
    go : (b : Bool) → bytes_eq a x ≡ b → (b || contains a xs) ≡ true → (contains a xs ≡ true → kind_at (map (annotations.kind_of ann) xs) (number_of a xs) ≡ annotations.kind_of ann a)
        → kind_at (map (annotations.kind_of ann) (x ∷ xs)) (cond (not b) (1 + number_of a xs) 0) ≡ annotations.kind_of ann a
    go true q f again = ap (annotations.kind_of ann) (sym ((bytes_eq-Decides a x).0 q))
    go false q f again =
        let same : suc (number_of a xs) ≡ 1 + number_of a xs = omega arith in
        subst (λ n. kind_at (map (annotations.kind_of ann) (x ∷ xs)) n ≡ annotations.kind_of ann a) same (again f)

rigid_member : (P : Rigid → Type 0) (around : Constants) (a : Name) (r : Rigid) → AllByRecursion (λ c. P c.1) around → lookup (bytes_eq a) around ≡ Some r → P r
rigid_member P [] a r h e = absurd (cc)
rigid_member P (c ∷ cs) a r h e = go (bytes_eq a c.0) e (rigid_member P cs a r h.1)
  where
    go : (b : Bool) → cond b (Some c.1) (lookup (bytes_eq a) cs) ≡ Some r → (lookup (bytes_eq a) cs ≡ Some r → P r) → P r
    go true q again = (let z : Some c.1 ≡ Some r = q in let s : c.1 ≡ r = cc in subst P s h.0)
    go false q again = again q

-- the items stay solved, the outer types stay, and the annotation's type is the instance
pub record Instantiated (S : Scope) (p : Place) (ann : Annotation) (f g : Frame) (choice : ℕ → Ground) : Type 0 where
  pub frame : Frame
  pub values : frame.values ≡ f.values
  pub stands : Stands frame
  pub agree : Agree S f frame
  pub is : of frame (fixed_type (own_constants S.constants p ann ++ S.constants) p ann) ≡ ground_instance choice g (scheme_inside S.constants ann)

pub instantiated : (S : Scope) (pos : Pos) (p : Place) (ann : Annotation) (f g : Frame) (choice : ℕ → Ground) → Stands f → Agree S f g
    → Chosen (scheme_inside S.constants ann) choice
    → Solves f.values (map (λ r. Keeps pos r.1 (outer_types S)) (own_constants S.constants p ann)) → Instantiated S p ann f g choice
instantiated S pos p ann f g choice stands agree picks sol =
    let own = own_variables S.constants ann in
    let fixed = map (λ r. variable (Fixed r.1)) S.constants in
    let θ = chosen p ann own f stands choice in
    let each = agree_each p ann own f stands choice (outer_types S) (λ a c. kept_all f.values pos p ann (outer_types S) own a sol c) in
    let same : AllByRecursion (λ c. θ c.1 ≡ f.stands c.1) S.constants =
    agree_constants p ann own f stands choice S.constants (all_right (λ t. of (instance_frame p ann own f stands choice) t ≡ of f t) (one_types S.names) fixed each) in
    let inner = own_constants S.constants p ann ++ S.constants in
    let h : Name → Ground = λ a. substitute θ (value f.values (fixed_variable inner p a)) in
    let k : Name → Ground = λ a. substitute (instance_leaf choice g) (scheme_variable S.constants ann a) in
    let pointwise : (a : Name) → contains a (written ann) ≡ true → h a ≡ k a = λ a w. go a w (lookup (bytes_eq a) S.constants) refl same in
    record {
      frame = instance_frame p ann own f stands choice;
      values = refl;
      stands = instance_stands p ann own f stands choice;
      agree = record {
        types = all_left (λ t. of (instance_frame p ann own f stands choice) t ≡ of f t) (one_types S.names) fixed each;
        constants = same;
      };
      is = ap (substitute θ) (annotation_substituted (leaf_value f.values) (fixed_variable inner p) ann)
          ∙ (annotation_substituted θ (λ a. value f.values (fixed_variable inner p a)) ann
          ∙ (annotation_same h k ann pointwise ∙ sym (annotation_substituted (instance_leaf choice g) (scheme_variable S.constants ann) ann)));
    }
  where
    go : (a : Name) → contains a (written ann) ≡ true → (o : Option Rigid) → lookup (bytes_eq a) S.constants ≡ o
        → AllByRecursion (λ c. chosen p ann (own_variables S.constants ann) f stands choice c.1 ≡ f.stands c.1) S.constants
        → substitute (chosen p ann (own_variables S.constants ann) f stands choice) (value f.values (fixed_variable (own_constants S.constants p ann ++ S.constants) p a))
        ≡ substitute (instance_leaf choice g) (scheme_variable S.constants ann a)
    go a w None e same =
        let own = own_variables S.constants ann in
        let θ = chosen p ann own f stands choice in
        let c = constant p ann a in
        let has : contains a own ≡ true = those_have S.constants a (once (written ann) []) (once_has a (written ann) [] w refl) e in
        let l : fixed_variable (own_constants S.constants p ann ++ S.constants) p a ≡ variable (Fixed c) = ap (λ o. constant_or o (at p)) (rigid_own p ann S.constants a own has) in
        let r : scheme_variable S.constants ann a ≡ variable (Free (number_of a own)) = ap (λ o. constant_or o (variable (Free (number_of a own)))) e in
        let fit : fits (kind_of c) (choice (number_of a own)) ≡ true = ap (λ kd. fits kd (choice (number_of a own))) (sym (kind_number ann own a has)) ∙ picks.kinds (number_of a own) in
        let test : (is_own p ann own f stands choice c && fits (kind_of c) (choice (number_of a own))) ≡ true =
        and_both (is_own p ann own f stands choice c) (fits (kind_of c) (choice (number_of a own))) (and_both (bytes_eq p p) (contains a own) (itself p) has) fit in
        let chosen_c : θ c ≡ choice (number_of a own) = ap (λ b. picked p ann own f stands choice c b) test in
        ap (λ t. substitute θ (value f.values t)) l ∙ (of_fixed p ann own f stands choice θ c ∙ (chosen_c ∙ (sym (extend_none (choice (number_of a own))) ∙ ap (substitute (instance_leaf choice g)) (sym r))))
    go a w (Some r) e same =
        let own = own_variables S.constants ann in
        let θ = chosen p ann own f stands choice in
        let has : contains a own ≡ false = none_have S.constants a (once (written ann) []) r e in
        let l : fixed_variable (own_constants S.constants p ann ++ S.constants) p a ≡ variable (Fixed r) = ap (λ o. constant_or o (at p)) (rigid_around p ann S.constants a own has ∙ e) in
        let m : scheme_variable S.constants ann a ≡ variable (Fixed r) = ap (λ o. constant_or o (variable (Free (number_of a own)))) e in
        ap (λ t. substitute θ (value f.values t)) l ∙ (of_fixed p ann own f stands choice θ r ∙ (rigid_member (λ z. θ z ≡ f.stands z) S.constants a r same e
        ∙ (sym (rigid_member (λ z. g.stands z ≡ f.stands z) S.constants a r agree.constants e) ∙ (sym (extend_none (g.stands r)) ∙ ap (substitute (instance_leaf choice g)) (sym m)))))

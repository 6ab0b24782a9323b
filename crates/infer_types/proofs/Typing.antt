-- The type of an annotation over numbers for its variables.
use Rattle.std.proofs.Common.{◌≡◌, ℕ, ◌<◌, List, [], ◌∷◌, ◌++◌, Bool, true, false, cond, refl, sym, ap, ◌∙◌, subst}
use Rattle.std.specs.Prelude.{◌&&◌, ◌||◌}
use Rattle.std.specs.List.{AllByRecursion}
use Rattle.std.specs.Str.{bytes_eq}
use Rattle.elm_canon.specs.Tree.{Annotation, Variable, NamedType, FunctionType, TupleType, RecordType, ExtendedType}
use Rattle.elm_canon.specs.Tree.{Annotations, NoAnnotation, MoreAnnotation, FieldTypes, NoFieldType, MoreFieldType}
use Rattle.elm_canon.specs.Tree.{field_names}
use Rattle.elm_type.specs.Types.{Name, ElmType, Fields, End, Closed, Over, Made, Record, MoreType}
use Rattle.elm_type.specs.Types.{NoField, MoreField, function, variable, variables, variables_all, variables_fields}
use Rattle.elm_type.specs.Types.{Leaf, Free, Kind, kind_at}
use Rattle.elm_type.specs.Rows.{name_lt, has_field, insert_field, insert_all, extend, substitute}
use Rattle.elm_type.specs.Rows.{substitute_all, substitute_fields, is_under, rise}
use Rattle.elm_type.specs.declared.head.Head.TheVariants as head
use Rattle.elm_type.specs.Ground.{contains}
use Rattle.type_items.specs.Annotations.{written, written_all, written_fields, beside, beside_all, beside_fields}
use Rattle.type_items.specs.Annotations.{annotation_type, annotation_types, annotation_fields}
use Rattle.type_items.specs.Principal.{is_formed, are_formed, fields_formed, end_lacks, end_lacks_each}
use Rattle.type_store.proofs.Names.{lt_back, equal_itself}
use Rattle.type_store.proofs.RowsMeet.{and_left, and_right, and_both, rise_inserted}
use Rattle.type_store.proofs.Lacking.{has_inserted}
use Rattle.type_walks.proofs.RowTypes.{put_extended}
use Rattle.type_walks.proofs.Cleaning.{all_both, all_first, all_second}
use Rattle.infer_steps.specs.Ready.{IsBelow}
use Rattle.infer_steps.specs.Records.{AreDistinct}
use Rattle.infer_types.specs.Once.{FieldsOnce, AllOnce, FieldTypesOnce}

-- ---- what is said of each field beside a variable

abbrev mutual
  pub Covered : (Name → Name → Type 0) → Annotation → Type 0
  Covered L (Variable a) = Unit {0}
  Covered L (NamedType m x ts) = AllCovered L ts
  Covered L (FunctionType t u) = Covered L t × Covered L u
  Covered L (TupleType ts) = AllCovered L ts
  Covered L (RecordType fs) = FieldsCovered L fs
  Covered L (ExtendedType a fs) = AllByRecursion (L a) (field_names fs) × FieldsCovered L fs

  pub AllCovered : (Name → Name → Type 0) → Annotations → Type 0
  AllCovered L NoAnnotation = Unit {0}
  AllCovered L (MoreAnnotation t ts) = Covered L t × AllCovered L ts

  pub FieldsCovered : (Name → Name → Type 0) → FieldTypes → Type 0
  FieldsCovered L NoFieldType = Unit {0}
  FieldsCovered L (MoreFieldType k t fs) = Covered L t × FieldsCovered L fs

-- ---- fields in order

fields_had : {X : Type 0} (of : Name → ElmType X) (j : Name) (fs : FieldTypes)
    → has_field j (annotation_fields of fs) ≡ contains j (field_names fs)
fields_had of j NoFieldType = refl
fields_had of j (MoreFieldType k t fs) =
    has_inserted j k (annotation_type of t) (annotation_fields of fs) ∙ ap (λ b. bytes_eq j k || b) (fields_had of j fs)

pub fields_rise : {X : Type 0} (of : Name → ElmType X) (fs : FieldTypes) → AreDistinct (field_names fs)
    → rise (annotation_fields of fs) ≡ true
fields_rise of NoFieldType d = refl
fields_rise of (MoreFieldType k t fs) d =
    rise_inserted k (annotation_type of t) (annotation_fields of fs) (fields_had of k fs ∙ d.0) (fields_rise of fs d.1)

insert_first : {X : Type 0} (k : Name) (t : ElmType X) (fs : Fields X) → is_under k fs ≡ true
    → insert_field k t fs ≡ MoreField k t fs
insert_first k t NoField e = refl
insert_first k t (MoreField j u fs) e =
    ap (λ b. cond b (MoreField j u (insert_field k t fs)) (MoreField k t (MoreField j u fs))) (lt_back k j e)

pub insert_ordered : {X : Type 0} (fs : Fields X) → rise fs ≡ true → insert_all fs NoField ≡ fs
insert_ordered NoField e = refl
insert_ordered (MoreField k t fs) e =
    ap (insert_field k t) (insert_ordered fs (and_right (is_under k fs) (rise fs) e)) ∙ insert_first k t fs
    (and_left (is_under k fs) (rise fs) e)

-- ---- with other types for the variables

module _ {X Y : Type 0} (f : X → ElmType Y) where
  put_inserted : (k : Name) (t : ElmType X) (fs : Fields X)
      → substitute_fields f (insert_field k t fs) ≡ insert_field k (substitute f t) (substitute_fields f fs)
  put_inserted k t NoField = refl
  put_inserted k t (MoreField m v fs) = go (put_inserted k t fs) (name_lt m k)
    where
      go : substitute_fields f (insert_field k t fs) ≡ insert_field k (substitute f t) (substitute_fields f fs)
          → (b : Bool)
          → substitute_fields f (cond b (MoreField m v (insert_field k t fs)) (MoreField k t (MoreField m v fs)))
          ≡ cond b (MoreField m (substitute f v) (insert_field k (substitute f t) (substitute_fields f fs)))
          (MoreField k (substitute f t) (MoreField m (substitute f v) (substitute_fields f fs)))
      go again true = ap (MoreField m (substitute f v)) again
      go again false = refl

  module _ (of : Name → ElmType X) (to : Name → ElmType Y) where
    mutual
      pub type_put : (t : Annotation) → FieldsOnce t → AllByRecursion (λ a. substitute f (of a) ≡ to a) (written t)
          → substitute f (annotation_type of t) ≡ annotation_type to t
      type_put (Variable a) o e = e.0
      type_put (NamedType m x ts) o e = ap (Made (head.Named m x)) (types_put ts o e)
      type_put (FunctionType t u) o e =
          ap (λ v. function v (substitute f (annotation_type of u)))
          (type_put t o.0 (all_first (λ a. substitute f (of a) ≡ to a) (written t) (written u) e))
          ∙ ap (function (annotation_type to t))
          (type_put u o.1 (all_second (λ a. substitute f (of a) ≡ to a) (written t) (written u) e))
      type_put (TupleType ts) o e = ap (Made head.Tuple) (types_put ts o e)
      type_put (RecordType fs) o e =
          ap (λ gs. Record (insert_all gs NoField) Closed) (fields_put fs o.1 e) ∙ ap (λ gs. Record gs Closed)
          (insert_ordered (annotation_fields to fs) (fields_rise to fs o.0))
      type_put (ExtendedType a fs) o e =
          put_extended f (annotation_fields of fs) (of a)
          ∙ (ap (λ gs. extend gs (substitute f (of a))) (fields_put fs o.1 e.1) ∙ ap (extend (annotation_fields to fs))
          e.0)

      types_put : (ts : Annotations) → AllOnce ts → AllByRecursion (λ a. substitute f (of a) ≡ to a) (written_all ts)
          → substitute_all f (annotation_types of ts) ≡ annotation_types to ts
      types_put NoAnnotation o e = refl
      types_put (MoreAnnotation t ts) o e =
          ap (λ v. MoreType v (substitute_all f (annotation_types of ts)))
          (type_put t o.0 (all_first (λ a. substitute f (of a) ≡ to a) (written t) (written_all ts) e))
          ∙ ap (MoreType (annotation_type to t))
          (types_put ts o.1 (all_second (λ a. substitute f (of a) ≡ to a) (written t) (written_all ts) e))

      fields_put : (fs : FieldTypes) → FieldTypesOnce fs → AllByRecursion (λ a. substitute f (of a) ≡ to a)
          (written_fields fs)
          → substitute_fields f (annotation_fields of fs) ≡ annotation_fields to fs
      fields_put NoFieldType o e = refl
      fields_put (MoreFieldType k t fs) o e =
          put_inserted k (annotation_type of t) (annotation_fields of fs)
          ∙ (ap (λ v. insert_field k v (substitute_fields f (annotation_fields of fs)))
          (type_put t o.0 (all_first (λ a. substitute f (of a) ≡ to a) (written t) (written_fields fs) e))
          ∙ ap (insert_field k (annotation_type to t))
          (fields_put fs o.1 (all_second (λ a. substitute f (of a) ≡ to a) (written t) (written_fields fs) e)))

-- ---- over numbers

module _ (number : Name → ℕ) where
  abbrev pub by_number : Name → ElmType (Leaf ℕ)
  by_number a = variable (Free (number a))

  pub extended_is : (a : Name) (fs : FieldTypes) → AreDistinct (field_names fs)
      → annotation_type by_number (ExtendedType a fs) ≡ Record (annotation_fields by_number fs) (Over (Free (number a)))
  extended_is a fs d =
      ap (λ gs. Record gs (Over (Free (number a))))
      (insert_ordered (annotation_fields by_number fs) (fields_rise by_number fs d))

  -- the numbers are below
  module _ (n : ℕ) where
    inserted_below : (k : Name) (t : ElmType (Leaf ℕ)) (fs : Fields (Leaf ℕ)) → AllByRecursion (IsBelow n) (variables t)
        → AllByRecursion (IsBelow n) (variables_fields fs) → AllByRecursion (IsBelow n)
        (variables_fields (insert_field k t fs))
    inserted_below k t NoField h l = all_both (IsBelow n) (variables t) [] h tt
    inserted_below k t (MoreField m v fs) h l =
        go (name_lt m k) (inserted_below k t fs h (all_second (IsBelow n) (variables v) (variables_fields fs) l))
      where
        go : (b : Bool) → AllByRecursion (IsBelow n) (variables_fields (insert_field k t fs))
            → AllByRecursion (IsBelow n) (variables_fields
            (cond b (MoreField m v (insert_field k t fs)) (MoreField k t (MoreField m v fs))))
        go true again =
            all_both (IsBelow n) (variables v) (variables_fields (insert_field k t fs))
            (all_first (IsBelow n) (variables v) (variables_fields fs) l) again
        go false again = all_both (IsBelow n) (variables t) (variables_fields (MoreField m v fs)) h l

    mutual
      pub type_below : (t : Annotation) → FieldsOnce t → AllByRecursion (λ a. number a < n) (written t)
          → AllByRecursion (IsBelow n) (variables (annotation_type by_number t))
      type_below (Variable a) o h = h
      type_below (NamedType m x ts) o h = types_below ts o h
      type_below (FunctionType t u) o h =
          all_both (IsBelow n) (variables (annotation_type by_number t)) (variables (annotation_type by_number u) ++ [])
          (type_below t o.0 (all_first (λ a. number a < n) (written t) (written u) h))
          (all_both (IsBelow n) (variables (annotation_type by_number u)) []
          (type_below u o.1 (all_second (λ a. number a < n) (written t) (written u) h)) tt)
      type_below (TupleType ts) o h = types_below ts o h
      type_below (RecordType fs) o h = fields_below fs o.1 h
      type_below (ExtendedType a fs) o h =
          subst (λ t. AllByRecursion (IsBelow n) (variables t)) (sym (extended_is a fs o.0))
          (h.0, fields_below fs o.1 h.1)

      types_below : (ts : Annotations) → AllOnce ts → AllByRecursion (λ a. number a < n) (written_all ts)
          → AllByRecursion (IsBelow n) (variables_all (annotation_types by_number ts))
      types_below NoAnnotation o h = tt
      types_below (MoreAnnotation t ts) o h =
          all_both (IsBelow n) (variables (annotation_type by_number t)) (variables_all (annotation_types by_number ts))
          (type_below t o.0 (all_first (λ a. number a < n) (written t) (written_all ts) h))
          (types_below ts o.1 (all_second (λ a. number a < n) (written t) (written_all ts) h))

      fields_below : (fs : FieldTypes) → FieldTypesOnce fs → AllByRecursion (λ a. number a < n) (written_fields fs)
          → AllByRecursion (IsBelow n) (variables_fields (annotation_fields by_number fs))
      fields_below NoFieldType o h = tt
      fields_below (MoreFieldType k t fs) o h =
          inserted_below k (annotation_type by_number t) (annotation_fields by_number fs)
          (type_below t o.0 (all_first (λ a. number a < n) (written t) (written_fields fs) h))
          (fields_below fs o.1 (all_second (λ a. number a < n) (written t) (written_fields fs) h))

  -- the types are formed
  module _ (kinds : List Kind) where
    ends_inserted : (end : End (Leaf ℕ)) (k : Name) (t : ElmType (Leaf ℕ)) (fs : Fields (Leaf ℕ))
        → end_lacks kinds k end ≡ true
        → end_lacks_each kinds fs end ≡ true → end_lacks_each kinds (insert_field k t fs) end ≡ true
    ends_inserted end k t NoField a b = and_both (end_lacks kinds k end) true a refl
    ends_inserted end k t (MoreField m v fs) a b =
        go (name_lt m k) (ends_inserted end k t fs a
        (and_right (end_lacks kinds m end) (end_lacks_each kinds fs end) b))
      where
        go : (c : Bool) → end_lacks_each kinds (insert_field k t fs) end ≡ true
            → end_lacks_each kinds (cond c (MoreField m v (insert_field k t fs)) (MoreField k t (MoreField m v fs))) end
            ≡ true
        go true again =
            and_both (end_lacks kinds m end) (end_lacks_each kinds (insert_field k t fs) end)
            (and_left (end_lacks kinds m end) (end_lacks_each kinds fs end) b) again
        go false again = and_both (end_lacks kinds k end) (end_lacks_each kinds (MoreField m v fs) end) a b

    formed_inserted : (k : Name) (t : ElmType (Leaf ℕ)) (fs : Fields (Leaf ℕ)) → is_formed kinds t ≡ true
        → fields_formed kinds fs ≡ true
        → fields_formed kinds (insert_field k t fs) ≡ true
    formed_inserted k t NoField a b = and_both (is_formed kinds t) true a refl
    formed_inserted k t (MoreField m v fs) a b =
        go (name_lt m k) (formed_inserted k t fs a (and_right (is_formed kinds v) (fields_formed kinds fs) b))
      where
        go : (c : Bool) → fields_formed kinds (insert_field k t fs) ≡ true
            → fields_formed kinds (cond c (MoreField m v (insert_field k t fs)) (MoreField k t (MoreField m v fs))) ≡
            true
        go true again =
            and_both (is_formed kinds v) (fields_formed kinds (insert_field k t fs))
            (and_left (is_formed kinds v) (fields_formed kinds fs) b) again
        go false again = and_both (is_formed kinds t) (fields_formed kinds (MoreField m v fs)) a b

    closed_lack : (fs : Fields (Leaf ℕ)) → end_lacks_each kinds fs Closed ≡ true
    closed_lack NoField = refl
    closed_lack (MoreField k t fs) = closed_lack fs

    -- a field may stand beside a variable
    abbrev pub Lacks : Name → Name → Type 0
    Lacks a k = contains k (kind_at kinds (number a)).lacks ≡ true

    ends_lack : (a : Name) (fs : FieldTypes) → AllByRecursion (Lacks a) (field_names fs)
        → end_lacks_each kinds (annotation_fields by_number fs) (Over (Free (number a))) ≡ true
    ends_lack a NoFieldType h = refl
    ends_lack a (MoreFieldType k t fs) h =
        ends_inserted (Over (Free (number a))) k (annotation_type by_number t) (annotation_fields by_number fs) h.0
        (ends_lack a fs h.1)

    mutual
      pub type_formed : (t : Annotation) → FieldsOnce t → Covered Lacks t
          → is_formed kinds (annotation_type by_number t) ≡ true
      type_formed (Variable a) o c = refl
      type_formed (NamedType m x ts) o c = types_formed ts o c
      type_formed (FunctionType t u) o c =
          and_both (is_formed kinds (annotation_type by_number t))
          (is_formed kinds (annotation_type by_number u) && true) (type_formed t o.0 c.0)
          (and_both (is_formed kinds (annotation_type by_number u)) true (type_formed u o.1 c.1) refl)
      type_formed (TupleType ts) o c = types_formed ts o c
      type_formed (RecordType fs) o c =
          let gs = annotation_fields by_number fs in
          and_both (rise gs) (end_lacks_each kinds gs Closed && fields_formed kinds gs) (fields_rise by_number fs o.0)
          (and_both (end_lacks_each kinds gs Closed) (fields_formed kinds gs) (closed_lack gs) (each_formed fs o.1 c))
      type_formed (ExtendedType a fs) o c =
          let gs = annotation_fields by_number fs in
          let end : End (Leaf ℕ) = Over (Free (number a)) in
          ap (is_formed kinds) (extended_is a fs o.0)
          ∙ and_both (rise gs) (end_lacks_each kinds gs end && fields_formed kinds gs) (fields_rise by_number fs o.0)
          (and_both (end_lacks_each kinds gs end) (fields_formed kinds gs) (ends_lack a fs c.0)
          (each_formed fs o.1 c.1))

      types_formed : (ts : Annotations) → AllOnce ts → AllCovered Lacks ts
          → are_formed kinds (annotation_types by_number ts) ≡ true
      types_formed NoAnnotation o c = refl
      types_formed (MoreAnnotation t ts) o c =
          and_both (is_formed kinds (annotation_type by_number t)) (are_formed kinds (annotation_types by_number ts))
          (type_formed t o.0 c.0) (types_formed ts o.1 c.1)

      each_formed : (fs : FieldTypes) → FieldTypesOnce fs → FieldsCovered Lacks fs
          → fields_formed kinds (annotation_fields by_number fs) ≡ true
      each_formed NoFieldType o c = refl
      each_formed (MoreFieldType k t fs) o c =
          formed_inserted k (annotation_type by_number t) (annotation_fields by_number fs) (type_formed t o.0 c.0)
          (each_formed fs o.1 c.1)

-- ---- which fields stand beside a variable

pub contains_left : (k : Name) (xs ys : List Name) → contains k xs ≡ true → contains k (xs ++ ys) ≡ true
contains_left k [] ys e = absurd cc
contains_left k (x ∷ xs) ys e = go (contains_left k xs ys) (bytes_eq k x) e
  where
    go : (contains k xs ≡ true → contains k (xs ++ ys) ≡ true) → (b : Bool) → (b || contains k xs) ≡ true
        → (b || contains k (xs ++ ys)) ≡ true
    go again true h = refl
    go again false h = again h

pub contains_right : (k : Name) (xs ys : List Name) → contains k ys ≡ true → contains k (xs ++ ys) ≡ true
contains_right k [] ys e = e
contains_right k (x ∷ xs) ys e = go (contains_right k xs ys e) (bytes_eq k x)
  where
    go : contains k (xs ++ ys) ≡ true → (b : Bool) → (b || contains k (xs ++ ys)) ≡ true
    go again true = refl
    go again false = again

itself_first : (k : Name) (xs : List Name) → contains k (k ∷ xs) ≡ true
itself_first k xs = ap (λ b. b || contains k xs) (equal_itself k)

pub all_there : (P : Name → Type 0) (xs : List Name) → ((k : Name) → contains k xs ≡ true → P k) → AllByRecursion P xs
all_there P [] h = tt
all_there P (x ∷ xs) h = (h x (itself_first x xs), all_there P xs (λ k e. h k (contains_right k (x ∷ []) xs e)))

module _ (L : Name → Name → Type 0) where
  mutual
    pub covers : (t : Annotation) → ((a k : Name) → contains k (beside a t) ≡ true → L a k) → Covered L t
    covers (Variable a) h = tt
    covers (NamedType m x ts) h = all_cover ts h
    covers (FunctionType t u) h = (
      covers t (λ a k e. h a k (contains_left k (beside a t) (beside a u) e)),
      covers u (λ a k e. h a k (contains_right k (beside a t) (beside a u) e)),
    )
    covers (TupleType ts) h = all_cover ts h
    covers (RecordType fs) h = fields_cover fs h
    covers (ExtendedType b fs) h = (
      all_there (L b) (field_names fs) (λ k e. h b k
          (contains_left k (cond (bytes_eq b b) (field_names fs) []) (beside_fields b fs)
          (ap (λ c. contains k (cond c (field_names fs) [])) (equal_itself b) ∙ e))),
      fields_cover fs (λ a k e. h a k (contains_right k (cond (bytes_eq a b) (field_names fs) []) (beside_fields a fs)
          e)),
    )

    all_cover : (ts : Annotations) → ((a k : Name) → contains k (beside_all a ts) ≡ true → L a k) → AllCovered L ts
    all_cover NoAnnotation h = tt
    all_cover (MoreAnnotation t ts) h = (
      covers t (λ a k e. h a k (contains_left k (beside a t) (beside_all a ts) e)),
      all_cover ts (λ a k e. h a k (contains_right k (beside a t) (beside_all a ts) e)),
    )

    fields_cover : (fs : FieldTypes) → ((a k : Name) → contains k (beside_fields a fs) ≡ true → L a k)
        → FieldsCovered L fs
    fields_cover NoFieldType h = tt
    fields_cover (MoreFieldType j t fs) h = (
      covers t (λ a k e. h a k (contains_left k (beside a t) (beside_fields a fs) e)),
      fields_cover fs (λ a k e. h a k (contains_right k (beside a t) (beside_fields a fs) e)),
    )

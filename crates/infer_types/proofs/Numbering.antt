-- The variables of an annotation by their numbers.
use Rattle.std.proofs.Common.{◌≡◌, suc, ◌+◌, ◌<◌, List, [], ◌∷◌, ◌++◌, length, map, Bool, true, false, cond}
use Rattle.std.proofs.Common.{Option, Some, refl, sym, ap, ◌∙◌, arith}
use Rattle.std.specs.Prelude.{◌||◌, not, slice_get, unwrap_or}
use Rattle.std.specs.Str.{bytes_eq}
use Rattle.elm_canon.specs.Tree.{Annotation, Variable, NamedType, FunctionType, TupleType, RecordType, ExtendedType}
use Rattle.elm_canon.specs.Tree.{Annotations, NoAnnotation, MoreAnnotation, FieldTypes, NoFieldType, MoreFieldType}
use Rattle.elm_canon.specs.Tree.{field_names}
use Rattle.elm_type.specs.Types.{Name, Kind, any_kind, kind_at}
use Rattle.elm_type.specs.Ground.{contains}
use Rattle.type_items.specs.Annotations.{written, written_all, written_fields, beside, beside_all, beside_fields, once}
use Rattle.type_items.specs.Annotations.{variables_of, kind_of, number_of}
use Rattle.type_store.proofs.Names.{same_name}
use Rattle.infer_types.proofs.Typing.{contains_left, contains_right}

-- ---- a name that is in a list

first_number : (a x : Name) (xs : List Name) → bytes_eq a x ≡ true → number_of a (x ∷ xs) ≡ 0
first_number a x xs is = ap (λ b. cond (not b) (1 + number_of a xs) 0) is

next_number : (a x : Name) (xs : List Name) → bytes_eq a x ≡ false → number_of a (x ∷ xs) ≡ suc (number_of a xs)
next_number a x xs is =
    (let e : 1 + number_of a xs ≡ suc (number_of a xs) = omega arith in ap (λ b. cond (not b) (1 + number_of a xs) 0) is
    ∙ e)

pub number_below : (a : Name) (xs : List Name) → contains a xs ≡ true → number_of a xs < length xs
number_below a [] e = absurd cc
number_below a (x ∷ xs) e = go (number_below a xs) (bytes_eq a x) refl e
  where
    go : (contains a xs ≡ true → number_of a xs < length xs) → (b : Bool) → bytes_eq a x ≡ b
        → (b || contains a xs) ≡ true
        → number_of a (x ∷ xs) < suc (length xs)
    go again true is h = omega (arith, first_number a x xs is)
    go again false is h = omega (arith, next_number a x xs is, again h)

pub number_at : {Y : Type 0} (f : Name → Y) (a : Name) (xs : List Name) → contains a xs ≡ true → slice_get (map f xs)
    (number_of a xs) ≡ Some (f a)
number_at f a [] e = absurd cc
number_at f a (x ∷ xs) e = go (number_at f a xs) (bytes_eq a x) refl e
  where
    go : (contains a xs ≡ true → slice_get (map f xs) (number_of a xs) ≡ Some (f a)) → (b : Bool) → bytes_eq a x ≡ b
        → (b || contains a xs) ≡ true
        → slice_get (f x ∷ map f xs) (number_of a (x ∷ xs)) ≡ Some (f a)
    go again true is h =
        ap (slice_get (f x ∷ map f xs)) (first_number a x xs is) ∙ ap (λ y. Some (f y)) (sym (same_name a x is))
    go again false is h = ap (slice_get (f x ∷ map f xs)) (next_number a x xs is) ∙ again h

-- ---- each once

pub once_has : (a : Name) (xs seen : List Name) → contains a xs ≡ true → contains a seen ≡ false
    → contains a (once xs seen) ≡ true
once_has a [] seen e n = absurd cc
once_has a (x ∷ xs) seen e n =
    go (bytes_eq a x) refl e (contains x seen) refl (once_has a xs seen) (once_has a xs (x ∷ seen))
  where
    go : (b : Bool) → bytes_eq a x ≡ b → (b || contains a xs) ≡ true → (c : Bool) → contains x seen ≡ c
        → (contains a xs ≡ true → contains a seen ≡ false → contains a (once xs seen) ≡ true)
        → (contains a xs ≡ true → (bytes_eq a x || contains a seen) ≡ false → contains a (once xs (x ∷ seen)) ≡ true)
        → contains a (cond c (once xs seen) (x ∷ once xs (x ∷ seen))) ≡ true
    go true is h true s same more =
        absurd (let both : contains a seen ≡ true = ap (λ y. contains y seen) (same_name a x is) ∙ s in let w = sym n ∙
        both in cc)
    go true is h false s same more = ap (λ b. b || contains a (once xs (x ∷ seen))) is
    go false is h true s same more = same h n
    go false is h false s same more =
        ap (λ b. b || contains a (once xs (x ∷ seen))) is ∙ more h (ap (λ b. b || contains a seen) is ∙ n)

-- ---- a variable beside which a field stands is written

or_true : (b : Bool) → (b || true) ≡ true
or_true true = refl
or_true false = refl

split : (k : Name) (xs ys : List Name) (Z : Type 0) → contains k (xs ++ ys) ≡ true → (contains k xs ≡ true → Z)
    → (contains k ys ≡ true → Z) → Z
split k [] ys Z e f g = g e
split k (x ∷ xs) ys Z e f g = go (bytes_eq k x) refl e (split k xs ys Z)
  where
    go : (b : Bool) → bytes_eq k x ≡ b → (b || contains k (xs ++ ys)) ≡ true
        → (contains k (xs ++ ys) ≡ true → (contains k xs ≡ true → Z) → (contains k ys ≡ true → Z) → Z) → Z
    go true is h again = f (ap (λ b. b || contains k xs) is)
    go false is h again = again h (λ q. f (ap (λ b. b || contains k xs) is ∙ q)) g

mutual
  pub mentioned : (a k : Name) (t : Annotation) → contains k (beside a t) ≡ true → contains a (written t) ≡ true
  mentioned a k (Variable b) e = absurd cc
  mentioned a k (NamedType m x ts) e = all_mentioned a k ts e
  mentioned a k (FunctionType t u) e =
      split k (beside a t) (beside a u) (contains a (written t ++ written u) ≡ true) e
      (λ h. contains_left a (written t) (written u) (mentioned a k t h))
      (λ h. contains_right a (written t) (written u) (mentioned a k u h))
  mentioned a k (TupleType ts) e = all_mentioned a k ts e
  mentioned a k (RecordType fs) e = fields_mentioned a k fs e
  mentioned a k (ExtendedType b fs) e = go (bytes_eq a b) e (fields_mentioned a k fs)
    where
      go : (c : Bool) → contains k (cond c (field_names fs) [] ++ beside_fields a fs) ≡ true
          → (contains k (beside_fields a fs) ≡ true → contains a (written_fields fs) ≡ true)
          → (c || contains a (written_fields fs)) ≡ true
      go true h again = refl
      go false h again = again h

  all_mentioned : (a k : Name) (ts : Annotations) → contains k (beside_all a ts) ≡ true
      → contains a (written_all ts) ≡ true
  all_mentioned a k NoAnnotation e = absurd cc
  all_mentioned a k (MoreAnnotation t ts) e =
      split k (beside a t) (beside_all a ts) (contains a (written t ++ written_all ts) ≡ true) e
      (λ h. contains_left a (written t) (written_all ts) (mentioned a k t h))
      (λ h. contains_right a (written t) (written_all ts) (all_mentioned a k ts h))

  fields_mentioned : (a k : Name) (fs : FieldTypes) → contains k (beside_fields a fs) ≡ true
      → contains a (written_fields fs) ≡ true
  fields_mentioned a k NoFieldType e = absurd cc
  fields_mentioned a k (MoreFieldType j t fs) e =
      split k (beside a t) (beside_fields a fs) (contains a (written t ++ written_fields fs) ≡ true) e
      (λ h. contains_left a (written t) (written_fields fs) (mentioned a k t h))
      (λ h. contains_right a (written t) (written_fields fs) (fields_mentioned a k fs h))

-- ---- the variables of an annotation

pub among : (a : Name) (t : Annotation) → contains a (written t) ≡ true → contains a (variables_of t) ≡ true
among a t e = once_has a (written t) [] e refl

-- the kind at the number of a variable lacks the fields beside it
pub kind_lacks : (t : Annotation) (a k : Name) → contains k (beside a t) ≡ true
    → contains k (kind_at (map (kind_of t) (variables_of t)) (number_of a (variables_of t))).lacks ≡ true
kind_lacks t a k e =
    ap (λ (o : Option Kind). contains k (unwrap_or o any_kind).lacks)
    (number_at (kind_of t) a (variables_of t) (among a t (mentioned a k t e)))
    ∙ once_has k (beside a t) [] e refl

-- Names of fields, each once.
use Rattle.std.proofs.Common.{◌≡◌, List, [], ◌∷◌, ◌++◌, map, Bool, true, false, if◌then◌else◌, refl, sym, ap, ◌∙◌}
use Rattle.std.specs.Prelude.{◌&&◌, ◌||◌, not}
use Rattle.std.specs.List.{list_any}
use Rattle.std.proofs.lemmas.Bool.{false≢true}
use Rattle.std.proofs.lemmas.Cmp.{nat_list_eq_equiv}
use Rattle.elm_tree.specs.Tree.{Word}
use Rattle.elm_canon.specs.Names.{Name, same_name}
use Rattle.elm_canon.specs.Tree.{Annotation, Variable, NamedType, FunctionType, TupleType, RecordType, ExtendedType}
use Rattle.elm_canon.specs.Tree.{Annotations, NoAnnotation, MoreAnnotation, FieldTypes, NoFieldType, MoreFieldType}
use Rattle.elm_canon.specs.Tree.{field_names}
use Rattle.canon_env.specs.Imports.{name_of}
use Rattle.canon_env.specs.Exposing.{is_among}
use Rattle.canon_env.specs.Sites.{repeats_from}
use Rattle.elm_canon.specs.Spelled.{is_word, are_fields}
use Rattle.elm_type.specs.Ground.{contains}
use Rattle.infer_steps.specs.Records.{AreDistinct}
use Rattle.infer_types.specs.Once.{FieldsOnce, AllOnce, FieldTypesOnce}
use Rattle.module_proper.specs.Records.{HasRecords, AllHaveRecords, FieldsHaveRecords}
use Rattle.module_proper.proofs.Once.{Apart}

or_false : (a b : Bool) → (a || b) ≡ false → (a ≡ false) × (b ≡ false)
or_false true b e = absurd (false≢true (sym e))
or_false false b e = (refl, e)

both : (a b : Bool) → (a && b) ≡ true → (a ≡ true) × (b ≡ true)
both true b e = (refl, e)
both false b e = absurd (false≢true e)

not_so : (a : Bool) → not a ≡ true → a ≡ false
not_so true e = absurd (false≢true e)
not_so false e = refl

among_is : (x : Name) (ys : List Name) → list_any (same_name x) ys ≡ contains x ys
among_is x [] = refl
among_is x (y ∷ ys) = ap (λ b. same_name x y || b) (among_is x ys)

-- ---- of words

not_first : (x : Name) (xs ys : List Name) → Apart (x ∷ xs) ys → contains x ys ≡ false
not_first x xs [] a = refl
not_first x xs (y ∷ ys) a =
    ap (λ b. b || contains x ys)
    (nat_list_eq_equiv.symm x y ∙ (or_false (same_name y x) (is_among y xs) a.0).0)
    ∙ not_first x xs ys a.1

others : (x : Name) (xs ys : List Name) → Apart (x ∷ xs) ys → Apart xs ys
others x xs [] a = tt
others x xs (y ∷ ys) a = ((or_false (same_name y x) (is_among y xs) a.0).1, others x xs ys a.1)

pub distinct_from : (before : List Name) (ws : List Word) → repeats_from before ws ≡ []
    → Apart before (map name_of ws) × AreDistinct (map name_of ws)
distinct_from before [] e = (tt, tt)
distinct_from before (w ∷ ws) e =
    by (is_among (name_of w) before) refl (distinct_from (name_of w ∷ before) ws) e
  where
    by : (b : Bool) → is_among (name_of w) before ≡ b
        → (repeats_from (name_of w ∷ before) ws ≡ []
        → Apart (name_of w ∷ before) (map name_of ws) × AreDistinct (map name_of ws))
        → (if b then w ∷ repeats_from (name_of w ∷ before) ws else repeats_from (name_of w ∷ before) ws) ≡ []
        → Apart before (map name_of (w ∷ ws)) × AreDistinct (map name_of (w ∷ ws))
    by true is more h = absurd cc
    by false is more h =
        (let r = more h in (
          (is, others (name_of w) before (map name_of ws) r.0),
          (not_first (name_of w) before (map name_of ws) r.0, r.1),
        ))

contains_both : (x : Name) (xs ys : List Name) → contains x (xs ++ ys) ≡ (contains x xs || contains x ys)
contains_both x [] ys = refl
contains_both x (z ∷ xs) ys = by (same_name x z) (contains_both x xs ys)
  where
    by : (b : Bool) → contains x (xs ++ ys) ≡ (contains x xs || contains x ys)
        → (b || contains x (xs ++ ys)) ≡ ((b || contains x xs) || contains x ys)
    by true e = refl
    by false e = e

-- those of two records that have none in common
pub joined_distinct : (xs ys : List Name) → AreDistinct xs → AreDistinct ys → Apart xs ys → AreDistinct (xs ++ ys)
joined_distinct [] ys d g a = g
joined_distinct (x ∷ xs) ys d g a = (
  contains_both x xs ys ∙ (ap (λ b. b || contains x ys) d.0 ∙ not_first x xs ys a),
  joined_distinct xs ys d.1 g (others x xs ys a),
)

-- ---- of types whose records have words for fields, each once

fields_distinct : (xs : List Name) → are_fields xs ≡ true → AreDistinct xs
fields_distinct [] e = tt
fields_distinct (x ∷ xs) e =
    let word = both (is_word x) (not (list_any (same_name x) xs) && are_fields xs) e in
    let rest = both (not (list_any (same_name x) xs)) (are_fields xs) word.1 in
    (sym (among_is x xs) ∙ not_so (list_any (same_name x) xs) rest.0, fields_distinct xs rest.1)

mutual
  pub records_once : (t : Annotation) → HasRecords t → FieldsOnce t
  records_once (Variable a) h = tt
  records_once (NamedType m x ts) h = all_once ts h
  records_once (FunctionType t u) h = (records_once t h.0, records_once u h.1)
  records_once (TupleType ts) h = all_once ts h
  records_once (RecordType fs) h = (fields_distinct (field_names fs) h.0, types_once fs h.1)
  records_once (ExtendedType a fs) h = (fields_distinct (field_names fs) h.0, types_once fs h.1)

  all_once : (ts : Annotations) → AllHaveRecords ts → AllOnce ts
  all_once NoAnnotation h = tt
  all_once (MoreAnnotation t ts) h = (records_once t h.0, all_once ts h.1)

  types_once : (fs : FieldTypes) → FieldsHaveRecords fs → FieldTypesOnce fs
  types_once NoFieldType h = tt
  types_once (MoreFieldType x t fs) h = (records_once t h.0, types_once fs h.1)

-- Types with others in the place of parameters.
use Rattle.std.proofs.Common.{◌≡◌, List, [], ◌∷◌, ◌++◌, Bool, true, false, if◌then◌else◌, refl, sym, ap, ◌∙◌, subst}
use Rattle.std.specs.Prelude.{filter}
use Rattle.elm_canon.specs.Names.{Name, same_name}
use Rattle.elm_canon.specs.Tree.{Annotation, Variable, NamedType, FunctionType, TupleType, RecordType, ExtendedType}
use Rattle.elm_canon.specs.Tree.{Annotations, NoAnnotation, MoreAnnotation, FieldTypes, NoFieldType, MoreFieldType}
use Rattle.elm_canon.specs.Tree.{field_names}
use Rattle.canon_env.specs.Exposing.{is_among}
use Rattle.canon_env.specs.Expanding as sites
use Rattle.canon_env.specs.Expanding.{filled_in, filling, fill, fill_all, fill_fields, extended, join_fields}
use Rattle.canon_env.specs.Expanding.{bad_on, bad_fields, bad_in_all, bad_in_fields}
use Rattle.canon_proper.proofs.Quiet.{append_none}
use Rattle.infer_steps.specs.Records.{AreDistinct}
use Rattle.infer_types.specs.Once.{FieldsOnce, AllOnce, FieldTypesOnce}
use Rattle.module_proper.proofs.Once.{none_among}
use Rattle.infer_proper.proofs.Distinct.{joined_distinct}

-- what stands for each parameter is such a type
abbrev pub FilledWell : sites.Filling → Type 0
FilledWell [] = Unit {0}
FilledWell (f ∷ fs) = FieldsOnce f.1 × FilledWell fs

pub filling_well : (names : List Name) (ts : Annotations) → AllOnce ts → FilledWell (filling names ts)
filling_well [] ts h = tt
filling_well (a ∷ names) NoAnnotation h = tt
filling_well (a ∷ names) (MoreAnnotation t ts) h = (h.0, filling_well names ts h.1)

one_well : (s : sites.Filling) (a : Name) → FilledWell s → FieldsOnce (filled_in s a)
one_well [] a h = tt
one_well (f ∷ fs) a h = by (same_name f.0 a) (one_well fs a h.1)
  where
    by : (b : Bool) → FieldsOnce (filled_in fs a) → FieldsOnce (if b then f.1 else filled_in fs a)
    by true rest = h.0
    by false rest = rest

same_fields : (s : sites.Filling) (fs : FieldTypes) → field_names (fill_fields s fs) ≡ field_names fs
same_fields s NoFieldType = refl
same_fields s (MoreFieldType x t fs) = ap (λ ns. x ∷ ns) (same_fields s fs)

joined_names : (gs fs : FieldTypes) → field_names (join_fields gs fs) ≡ field_names gs ++ field_names fs
joined_names NoFieldType fs = refl
joined_names (MoreFieldType x t gs) fs = ap (λ ns. x ∷ ns) (joined_names gs fs)

joined_well : (gs fs : FieldTypes) → FieldTypesOnce gs → FieldTypesOnce fs →
    FieldTypesOnce (join_fields gs fs)
joined_well NoFieldType fs g f = f
joined_well (MoreFieldType x t gs) fs g f = (g.0, joined_well gs fs g.1 f)

-- fields that extend a record have other names
extended_once : (gs fs : FieldTypes) (names : List Name) → field_names fs ≡ names →
    AreDistinct (field_names gs) → AreDistinct names →
    filter (λ x. is_among x (field_names gs)) names ≡ [] → AreDistinct (field_names (join_fields gs fs))
extended_once gs fs names e g f none =
    subst AreDistinct (sym (joined_names gs fs ∙ ap (λ ns. field_names gs ++ ns) e))
    (joined_distinct (field_names gs) names g f (none_among (field_names gs) names none))

extended_well : (t : Annotation) (fs hs : FieldTypes) → field_names hs ≡ field_names fs →
    AreDistinct (field_names fs) → FieldsOnce t → FieldTypesOnce hs → bad_on t fs ≡ [] →
    FieldsOnce (extended t hs)
extended_well (Variable a) fs hs e f t each none = (subst AreDistinct (sym e) f, each)
extended_well (NamedType m x ts) fs hs e f t each none = t
extended_well (FunctionType u v) fs hs e f t each none = t
extended_well (TupleType ts) fs hs e f t each none = t
extended_well (RecordType gs) fs hs e f t each none =
    (extended_once gs hs (field_names fs) e t.0 f none, joined_well gs hs t.1 each)
extended_well (ExtendedType a gs) fs hs e f t each none =
    (extended_once gs hs (field_names fs) e t.0 f none, joined_well gs hs t.1 each)

mutual
  pub filled_well : (s : sites.Filling) (t : Annotation) → FilledWell s → FieldsOnce t → bad_fields s t ≡ [] →
      FieldsOnce (fill s t)
  filled_well s (Variable a) w h none = one_well s a w
  filled_well s (NamedType m x ts) w h none = all_well s ts w h none
  filled_well s (FunctionType t u) w h none =
      let n = append_none (bad_fields s t) (bad_fields s u) none in
      (filled_well s t w h.0 n.0, filled_well s u w h.1 n.1)
  filled_well s (TupleType ts) w h none = all_well s ts w h none
  filled_well s (RecordType fs) w h none = (subst AreDistinct (sym (same_fields s fs)) h.0, fields_well s fs w h.1 none)
  filled_well s (ExtendedType a fs) w h none =
      let n = append_none (bad_on (filled_in s a) fs) (bad_in_fields s fs) none in
      extended_well (filled_in s a) fs (fill_fields s fs) (same_fields s fs) h.0 (one_well s a w)
      (fields_well s fs w h.1 n.1) n.0

  all_well : (s : sites.Filling) (ts : Annotations) → FilledWell s → AllOnce ts → bad_in_all s ts ≡ [] →
      AllOnce (fill_all s ts)
  all_well s NoAnnotation w h none = tt
  all_well s (MoreAnnotation t ts) w h none =
      let n = append_none (bad_fields s t) (bad_in_all s ts) none in
      (filled_well s t w h.0 n.0, all_well s ts w h.1 n.1)

  fields_well : (s : sites.Filling) (fs : FieldTypes) → FilledWell s → FieldTypesOnce fs →
      bad_in_fields s fs ≡ [] → FieldTypesOnce (fill_fields s fs)
  fields_well s NoFieldType w h none = tt
  fields_well s (MoreFieldType x t fs) w h none =
      let n = append_none (bad_fields s t) (bad_in_fields s fs) none in
      (filled_well s t w h.0 n.0, fields_well s fs w h.1 n.1)

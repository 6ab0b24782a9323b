-- Types with others in the place of parameters.
use Rattle.std.proofs.Common.{◌≡◌, List, [], ◌∷◌, length, Bool, true, false, if◌then◌else◌, sym, arith}
use Rattle.std.specs.Prelude.{◌||◌}
use Rattle.std.specs.List.{AllByRecursion}
use Rattle.std.proofs.lemmas.Bool.{false≢true}
use Rattle.elm_canon.specs.Names.{Name, same_name}
use Rattle.elm_canon.specs.Tree.{Annotation, Variable, NamedType, FunctionType, TupleType, RecordType, ExtendedType}
use Rattle.elm_canon.specs.Tree.{Annotations, NoAnnotation, MoreAnnotation, FieldTypes, NoFieldType, MoreFieldType}
use Rattle.type_items.specs.Annotations.{written, written_all, written_fields}
use Rattle.canon_env.proofs.Adding.{same_name-sym}
use Rattle.canon_env.specs.Exposing.{is_among}
use Rattle.canon_env.specs.Expanding as sites
use Rattle.canon_env.specs.Expanding.{count_of, filled_in, filling, fill, fill_all, fill_fields, extended}
use Rattle.canon_env.specs.Expanding.{join_fields}
use Rattle.told_modules.specs.Closed.{IsNamed, IsClosed, AreClosed}
use Rattle.told_modules.proofs.Lists.{all_both, all_first, all_second}

module _ (P : Name → Type 0) where
  abbrev pub Has : Annotation → Type 0
  Has t = AllByRecursion P (written t)

  abbrev pub AllHave : Annotations → Type 0
  AllHave ts = AllByRecursion P (written_all ts)

  abbrev pub FieldsHave : FieldTypes → Type 0
  FieldsHave fs = AllByRecursion P (written_fields fs)

  joined_have : (gs fs : FieldTypes) → FieldsHave gs → FieldsHave fs → FieldsHave (join_fields gs fs)
  joined_have NoFieldType fs g f = f
  joined_have (MoreFieldType x t gs) fs g f =
      all_both P (written t) (written_fields (join_fields gs fs)) (all_first P (written t) (written_fields gs) g)
      (joined_have gs fs (all_second P (written t) (written_fields gs) g) f)

  extended_has : (t : Annotation) (fs : FieldTypes) → Has t → FieldsHave fs → Has (extended t fs)
  extended_has (Variable a) fs h f = (h.0, f)
  extended_has (NamedType m x ts) fs h f = h
  extended_has (FunctionType u v) fs h f = h
  extended_has (TupleType ts) fs h f = h
  extended_has (RecordType gs) fs h f = joined_have gs fs h f
  extended_has (ExtendedType a gs) fs h f = (h.0, joined_have gs fs h.1 f)

  -- where what stands for each of these names has
  module _ (names : List Name) (s : sites.Filling)
      (covers : (a : Name) → is_among a names ≡ true → Has (filled_in s a)) where
    mutual
      pub filled_has : (t : Annotation) → IsClosed names t → Has (fill s t)
      filled_has (Variable a) c = covers a c.0
      filled_has (NamedType m x ts) c = all_have ts c
      filled_has (FunctionType t u) c =
          all_both P (written (fill s t)) (written (fill s u))
          (filled_has t (all_first (IsNamed names) (written t) (written u) c))
          (filled_has u (all_second (IsNamed names) (written t) (written u) c))
      filled_has (TupleType ts) c = all_have ts c
      filled_has (RecordType fs) c = fields_have fs c
      filled_has (ExtendedType a fs) c =
          extended_has (filled_in s a) (fill_fields s fs) (covers a c.0) (fields_have fs c.1)

      all_have : (ts : Annotations) → AreClosed names ts → AllHave (fill_all s ts)
      all_have NoAnnotation c = tt
      all_have (MoreAnnotation t ts) c =
          all_both P (written (fill s t)) (written_all (fill_all s ts))
          (filled_has t (all_first (IsNamed names) (written t) (written_all ts) c))
          (all_have ts (all_second (IsNamed names) (written t) (written_all ts) c))

      fields_have : (fs : FieldTypes) → AllByRecursion (IsNamed names) (written_fields fs)
          → FieldsHave (fill_fields s fs)
      fields_have NoFieldType c = tt
      fields_have (MoreFieldType x t fs) c =
          all_both P (written (fill s t)) (written_fields (fill_fields s fs))
          (filled_has t (all_first (IsNamed names) (written t) (written_fields fs) c))
          (fields_have fs (all_second (IsNamed names) (written t) (written_fields fs) c))

  -- as many types as names: one of them stands for each name
  pub covered : (names : List Name) (ts : Annotations) → count_of ts ≡ length names → AllHave ts → (a : Name)
      → is_among a names ≡ true → Has (filled_in (filling names ts) a)
  covered [] ts e h a among = absurd (false≢true among)
  covered (b ∷ names) NoAnnotation e h a among = absurd (omega (arith, e))
  covered (b ∷ names) (MoreAnnotation t ts) e h a among =
      by (same_name a b) (same_name b a) (same_name-sym a b) among
      (λ k. covered names ts (omega (arith, e)) (all_second P (written t) (written_all ts) h) a k)
    where
      by : (b c : Bool) → b ≡ c → (b || is_among a names) ≡ true
          → (is_among a names ≡ true → Has (filled_in (filling names ts) a))
          → Has (if c then t else filled_in (filling names ts) a)
      by true true s k rest = all_first P (written t) (written_all ts) h
      by true false s k rest = absurd (false≢true (sym s))
      by false true s k rest = absurd (false≢true s)
      by false false s k rest = rest k

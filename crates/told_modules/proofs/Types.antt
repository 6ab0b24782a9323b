-- Written types without faults: what holds of the variables that are written holds of those that the type has, where
-- the aliases that it names have no other variables than their parameters.
use Rattle.std.proofs.Common.{◌≡◌, List, [], ◌∷◌, ◌++◌, length, Bool, true, false, if◌then◌else◌, Option, Some, None}
use Rattle.std.proofs.Common.{refl}
use Rattle.std.specs.List.{AllByRecursion}
use Rattle.std.proofs.lemmas.Bool.{eqb-true}
use Rattle.elm_base.specs.declared.fault.Code.TheVariants.{UnknownType, TypeArity}
use Rattle.elm_tree.specs.Tree as tree
use Rattle.elm_tree.specs.Tree.{TypeTree, TypeTrees, NoType, MoreType, TypeVariable, TypeName, Long, Word}
use Rattle.elm_canon.specs.Names.{Name}
use Rattle.elm_canon.specs.Tree.{Annotation, Annotations, NoAnnotation, MoreAnnotation}
use Rattle.type_items.specs.Annotations.{written, written_all, written_fields}
use Rattle.canon_env.specs.Imports.{name_of}
use Rattle.canon_env.specs.Found.{Found, Nothing, One, Several}
use Rattle.canon_env.specs.Shown.{TypeMeaning}
use Rattle.canon_env.specs.declared.found.Meant.{Meant}
use Rattle.canon_env.specs.Naming.{World, own_name, type_found}
use Rattle.canon_env.specs.Expanding.{count_of, filling, applied_to, has_arity, bad_of_alias, blank, applied}
use Rattle.canon_env.specs.Sites.{TypeUse, FieldsTogether, faults_at, unless_one, type_faults, extension_faults}
use Rattle.canon_env.specs.Sites.{at_long}
use Rattle.canon_env.specs.Types.{function_of, type_of, types_of, field_types_of, field_words, type_sites}
use Rattle.canon_env.specs.Types.{type_sites_in, field_type_sites}
use Rattle.canon_type.specs.Written.{names_in, names_in_all, names_in_fields, variables_in, variables_in_all}
use Rattle.canon_type.specs.Written.{variables_in_fields}
use Rattle.canon_type.proofs.Agreeing.{Each}
use Rattle.canon_proper.proofs.Quiet.{AreSound, sound_split}
use Rattle.elm_grammar.specs.Written.{AreSome, HasResults, AllHaveResults, FieldsHaveResults}
use Rattle.told_modules.specs.Closed.{BodyIsClosed, NameIsClosed}
use Rattle.told_modules.proofs.Lists.{all_both, all_first, all_second}
use Rattle.told_modules.proofs.Filling.{Has, AllHave, FieldsHave, filled_has, covered}

-- ---- names

each_front : (Q : Long → Type 0) (xs ys : List Long) → Each Q (xs ++ ys) → Each Q xs
each_front Q [] ys h = tt
each_front Q (x ∷ xs) ys h = (h.0, each_front Q xs ys h.1)

each_back : (Q : Long → Type 0) (xs ys : List Long) → Each Q (xs ++ ys) → Each Q ys
each_back Q [] ys h = h
each_back Q (x ∷ xs) ys h = each_back Q xs ys h.1

pub each_so : (Q : Long → Type 0) → ((x : Long) → Q x) → (xs : List Long) → Each Q xs
each_so Q h [] = tt
each_so Q h (x ∷ xs) = (h x, each_so Q h xs)

module _ (P : Name → Type 0) where
  -- ---- names with their arguments

  body_has : (home x : Name) (m : TypeMeaning) (ts : Annotations) (o : Option Annotation) → has_arity m ts ≡ true
      → AllHave P ts → BodyIsClosed m.parameters o → Has P (applied_to home x m ts o)
  body_has home x m ts None e h c = h
  body_has home x m ts (Some t) e h c =
      filled_has P m.parameters (filling m.parameters ts)
      (λ a among. covered P m.parameters ts (eqb-true (count_of ts) (length m.parameters) e) h a among) t c

  one_has : (x : Long) (m : Meant TypeMeaning) (ts : Annotations) → AllHave P ts
      → BodyIsClosed m.meaning.parameters m.meaning.body → type_faults x ts m.meaning ≡ []
      → Has P (applied (own_name x) (One m) ts)
  one_has x m ts h c none = by (has_arity m.meaning ts) refl none
    where
      by : (b : Bool) → has_arity m.meaning ts ≡ b
          → (if b then extension_faults x (bad_of_alias m.meaning ts m.meaning.body)
          else (at_long TypeArity x ∷ [])) ≡ []
          → Has P (if b then applied_to m.home (own_name x) m.meaning ts m.meaning.body else blank)
      by true is e = body_has m.home (own_name x) m.meaning ts m.meaning.body is h c
      by false is e = absurd cc

  use_has : (w : World) (x : Long) (ts : Annotations) → AllHave P ts → NameIsClosed w x
      → faults_at w (TypeUse x ts) ≡ [] → Has P (applied (own_name x) (type_found w x) ts)
  unfolding faults_at
  use_has w x ts h named none = by (type_found w x) refl none
    where
      by : (f : Found TypeMeaning) → type_found w x ≡ f → unless_one UnknownType x f (type_faults x ts) ≡ []
          → Has P (applied (own_name x) f ts)
      by Nothing is e = absurd cc
      by Several is e = absurd cc
      by (One m) is e = one_has x m ts h (named m is) e

  -- ---- functions

  arrows_have : (t : Annotation) (ts : Annotations) → AllHave P (MoreAnnotation t ts)
      → Has P (function_of (MoreAnnotation t ts))
  arrows_have t NoAnnotation h = all_first P (written t) [] h
  arrows_have t (MoreAnnotation u ts) h =
      all_both P (written t) (written (function_of (MoreAnnotation u ts)))
      (all_first P (written t) (written_all (MoreAnnotation u ts)) h)
      (arrows_have u ts (all_second P (written t) (written_all (MoreAnnotation u ts)) h))

  function_has : (w : World) (ts : TypeTrees) → AreSome ts → AllHave P (types_of w ts)
      → Has P (function_of (types_of w ts))
  function_has w NoType some h = absurd some
  function_has w (MoreType t ts) some h = arrows_have (type_of w t) (types_of w ts) h

  -- ---- types

  abbrev pub WordHas : Word → Type 0
  WordHas a = P (name_of a)

  module _ (w : World) where
    mutual
      pub type_has : (t : TypeTree) → Each (NameIsClosed w) (names_in t) → HasResults t → AreSound w (type_sites w t)
          → AllByRecursion WordHas (variables_in t) → Has P (type_of w t)
      type_has (TypeVariable a) named r q v = v
      type_has (TypeName x ts) named r q v =
          let s = sound_split w (type_sites_in w ts) (TypeUse x (types_of w ts) ∷ []) q in
          use_has w x (types_of w ts) (types_have ts named.1 r s.0 v) named.0 s.1.0
      type_has (tree.FunctionType ts) named r q v = function_has w ts r.0 (types_have ts named r.1 q v)
      type_has (tree.TupleType ts) named r q v = types_have ts named r q v
      type_has (tree.RecordType fs) named r q v =
          let s = sound_split w (field_type_sites w fs) (FieldsTogether (field_words fs) ∷ []) q in
          fields_have fs named r s.0 v
      type_has (tree.ExtendedType a fs) named r q v =
          let s = sound_split w (field_type_sites w fs) (FieldsTogether (field_words fs) ∷ []) q in
          (v.0, fields_have fs named r s.0 v.1)

      pub types_have : (ts : TypeTrees) → Each (NameIsClosed w) (names_in_all ts) → AllHaveResults ts
          → AreSound w (type_sites_in w ts) → AllByRecursion WordHas (variables_in_all ts) → AllHave P (types_of w ts)
      types_have NoType named r q v = tt
      types_have (MoreType t ts) named r q v =
          let s = sound_split w (type_sites w t) (type_sites_in w ts) q in
          all_both P (written (type_of w t)) (written_all (types_of w ts))
          (type_has t (each_front (NameIsClosed w) (names_in t) (names_in_all ts) named) r.0 s.0
          (all_first WordHas (variables_in t) (variables_in_all ts) v))
          (types_have ts (each_back (NameIsClosed w) (names_in t) (names_in_all ts) named) r.1 s.1
          (all_second WordHas (variables_in t) (variables_in_all ts) v))

      fields_have : (fs : tree.FieldTypes) → Each (NameIsClosed w) (names_in_fields fs) → FieldsHaveResults fs
          → AreSound w (field_type_sites w fs) → AllByRecursion WordHas (variables_in_fields fs)
          → FieldsHave P (field_types_of w fs)
      fields_have tree.NoFieldType named r q v = tt
      fields_have (tree.MoreFieldType x t fs) named r q v =
          let s = sound_split w (type_sites w t) (field_type_sites w fs) q in
          all_both P (written (type_of w t)) (written_fields (field_types_of w fs))
          (type_has t (each_front (NameIsClosed w) (names_in t) (names_in_fields fs) named) r.0 s.0
          (all_first WordHas (variables_in t) (variables_in_fields fs) v))
          (fields_have fs (each_back (NameIsClosed w) (names_in t) (names_in_fields fs) named) r.1 s.1
          (all_second WordHas (variables_in t) (variables_in_fields fs) v))

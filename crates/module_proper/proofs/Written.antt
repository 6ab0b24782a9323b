-- Written types without faults, where the aliases that they name stand for types whose records have words for fields,
-- each once.
use Rattle.std.proofs.Common.{◌≡◌, List, [], ◌∷◌, ◌++◌, map, Bool, true, false, if◌then◌else◌, Option, Some, None}
use Rattle.std.proofs.Common.{refl, ap, ◌∙◌}
use Rattle.std.specs.List.{flat_map}
use Rattle.elm_base.specs.declared.fault.Code.TheVariants.{UnknownType, TypeArity}
use Rattle.elm_tree.specs.Tree as tree
use Rattle.elm_tree.specs.Tree.{TypeTree, TypeTrees, NoType, MoreType, TypeVariable, TypeName, Long, Word}
use Rattle.elm_canon.specs.Names.{Name}
use Rattle.elm_canon.specs.Tree.{Annotation, Annotations, NoAnnotation, MoreAnnotation, field_names}
use Rattle.elm_canon.specs.Spelled.{are_fields}
use Rattle.canon_env.specs.Imports.{name_of}
use Rattle.canon_env.specs.Found.{Found, Nothing, One, Several}
use Rattle.canon_env.specs.Shown.{TypeMeaning}
use Rattle.canon_env.specs.declared.found.Meant.{Meant}
use Rattle.canon_env.specs.Naming.{World, own_name, type_found}
use Rattle.canon_env.specs.Expanding.{filling, applied_to, has_arity, bad_of_alias, blank, applied}
use Rattle.canon_env.specs.Sites.{TypeUse, FieldsTogether, faults_at, unless_one, type_faults, extension_faults}
use Rattle.canon_env.specs.Sites.{at_long}
use Rattle.canon_env.specs.Types.{function_of, type_of, types_of, field_types_of, field_words, type_sites}
use Rattle.canon_env.specs.Types.{type_sites_in, field_type_sites}
use Rattle.canon_type.specs.Written.{names_in, names_in_all, names_in_fields}
use Rattle.canon_type.proofs.Agreeing.{Each}
use Rattle.canon_proper.specs.Patterns.{AreSpelledWords}
use Rattle.canon_proper.specs.Declared.{IsSpelledType, AreSpelledTypes, AreSpelledFieldTypes}
use Rattle.canon_proper.proofs.Quiet.{AreSound, sound_sites, sound_split, fields_once}
use Rattle.canon_proper.proofs.Scopes.{fresh_from, fields_are}
use Rattle.module_proper.specs.Records.{HasRecords, AllHaveRecords, FieldsHaveRecords, BodyHasRecords, NamesHaveRecords}
use Rattle.module_proper.proofs.Filling.{filling_well, filled_well}

-- ---- names

pub each_front : (P : Long → Type 0) (xs ys : List Long) → Each P (xs ++ ys) → Each P xs
each_front P [] ys h = tt
each_front P (x ∷ xs) ys h = (h.0, each_front P xs ys h.1)

pub each_back : (P : Long → Type 0) (xs ys : List Long) → Each P (xs ++ ys) → Each P ys
each_back P [] ys h = h
each_back P (x ∷ xs) ys h = each_back P xs ys h.1

pub each_so : (P : Long → Type 0) → ((x : Long) → P x) → (xs : List Long) → Each P xs
each_so P h [] = tt
each_so P h (x ∷ xs) = (h x, each_so P h xs)

-- what the name of a type stands for, if it is an alias
abbrev pub NameHasRecords : World → Long → Type 0
NameHasRecords w x = (m : Meant TypeMeaning) → type_found w x ≡ One m → BodyHasRecords m.meaning.body

-- ---- names with their arguments

no_extension : (x : Long) (names : List Name) → extension_faults x names ≡ [] → names ≡ []
no_extension x [] e = refl
no_extension x (n ∷ ns) e = absurd (cc)

body_well : (home x : Name) (m : TypeMeaning) (ts : Annotations) (o : Option Annotation) → AllHaveRecords ts →
    BodyHasRecords o → bad_of_alias m ts o ≡ [] → HasRecords (applied_to home x m ts o)
body_well home x m ts None h b none = h
body_well home x m ts (Some t) h b none =
    filled_well (filling m.parameters ts) t (filling_well m.parameters ts h) b none

one_well : (x : Long) (m : Meant TypeMeaning) (ts : Annotations) → AllHaveRecords ts → BodyHasRecords m.meaning.body →
    type_faults x ts m.meaning ≡ [] → HasRecords (applied (own_name x) (One m) ts)
one_well x m ts h b none = by (has_arity m.meaning ts) none
  where
    by : (c : Bool) →
        (if c then extension_faults x (bad_of_alias m.meaning ts m.meaning.body) else (at_long TypeArity x ∷ [])) ≡ [] →
        HasRecords (if c then applied_to m.home (own_name x) m.meaning ts m.meaning.body else blank)
    by true e =
        body_well m.home (own_name x) m.meaning ts m.meaning.body h b
        (no_extension x (bad_of_alias m.meaning ts m.meaning.body) e)
    by false e = tt

use_well : (w : World) (x : Long) (ts : Annotations) → AllHaveRecords ts → NameHasRecords w x →
    faults_at w (TypeUse x ts) ≡ [] → HasRecords (applied (own_name x) (type_found w x) ts)
unfolding faults_at
use_well w x ts h named none = by (type_found w x) refl none
  where
    by : (f : Found TypeMeaning) → type_found w x ≡ f → unless_one UnknownType x f (type_faults x ts) ≡ [] →
        HasRecords (applied (own_name x) f ts)
    by Nothing is e = tt
    by Several is e = tt
    by (One m) is e = one_well x m ts h (named m is) e

function_well : (ts : Annotations) → AllHaveRecords ts → HasRecords (function_of ts)
function_well NoAnnotation h = tt
function_well (MoreAnnotation t NoAnnotation) h = h.0
function_well (MoreAnnotation t (MoreAnnotation u ts)) h = (h.0, function_well (MoreAnnotation u ts) h.1)

-- ---- fields

words_spelled : (fs : tree.FieldTypes) → AreSpelledFieldTypes fs → AreSpelledWords (field_words fs)
words_spelled tree.NoFieldType s = tt
words_spelled (tree.MoreFieldType x t fs) s = (s.0, words_spelled fs s.1.1)

names_are : (w : World) (fs : tree.FieldTypes) → field_names (field_types_of w fs) ≡ map name_of (field_words fs)
names_are w tree.NoFieldType = refl
names_are w (tree.MoreFieldType x t fs) = ap (λ ns. name_of x ∷ ns) (names_are w fs)

fields_are_once : (w : World) (fs : tree.FieldTypes) → AreSpelledFieldTypes fs →
    faults_at w (FieldsTogether (field_words fs)) ≡ [] → are_fields (field_names (field_types_of w fs)) ≡ true
fields_are_once w fs s none =
    ap are_fields (names_are w fs)
    ∙ fields_are (field_words fs) [] (fresh_from [] (field_words fs) (fields_once w (field_words fs) none))
    (words_spelled fs s)

-- ---- types

module _ (w : World) where
  mutual
    pub written_well : (t : TypeTree) → Each (NameHasRecords w) (names_in t) → IsSpelledType t →
        AreSound w (type_sites w t) → HasRecords (type_of w t)
    written_well (TypeVariable a) named s q = tt
    written_well (TypeName x ts) named s q =
        let r = sound_split w (type_sites_in w ts) (TypeUse x (types_of w ts) ∷ []) q in
        use_well w x (types_of w ts) (all_well ts named.1 s r.0) named.0 r.1.0
    written_well (tree.FunctionType ts) named s q = function_well (types_of w ts) (all_well ts named s q)
    written_well (tree.TupleType ts) named s q = all_well ts named s q
    written_well (tree.RecordType fs) named s q =
        let r = sound_split w (field_type_sites w fs) (FieldsTogether (field_words fs) ∷ []) q in
        (fields_are_once w fs s r.1.0, fields_well fs named s r.0)
    written_well (tree.ExtendedType a fs) named s q =
        let r = sound_split w (field_type_sites w fs) (FieldsTogether (field_words fs) ∷ []) q in
        (fields_are_once w fs s.1 r.1.0, fields_well fs named s.1 r.0)

    all_well : (ts : TypeTrees) → Each (NameHasRecords w) (names_in_all ts) → AreSpelledTypes ts →
        AreSound w (type_sites_in w ts) → AllHaveRecords (types_of w ts)
    all_well NoType named s q = tt
    all_well (MoreType t ts) named s q =
        let r = sound_split w (type_sites w t) (type_sites_in w ts) q in (
          written_well t (each_front (NameHasRecords w) (names_in t) (names_in_all ts) named) s.0 r.0,
          all_well ts (each_back (NameHasRecords w) (names_in t) (names_in_all ts) named) s.1 r.1,
        )

    fields_well : (fs : tree.FieldTypes) → Each (NameHasRecords w) (names_in_fields fs) → AreSpelledFieldTypes fs →
        AreSound w (field_type_sites w fs) → FieldsHaveRecords (field_types_of w fs)
    fields_well tree.NoFieldType named s q = tt
    fields_well (tree.MoreFieldType x t fs) named s q =
        let r = sound_split w (type_sites w t) (field_type_sites w fs) q in (
          written_well t (each_front (NameHasRecords w) (names_in t) (names_in_fields fs) named) s.1.0 r.0,
          fields_well fs (each_back (NameHasRecords w) (names_in t) (names_in_fields fs) named) s.1.1 r.1,
        )

  pub any_written_well : (t : TypeTree) → NamesHaveRecords w → IsSpelledType t →
      flat_map (faults_at w) (type_sites w t) ≡ [] → HasRecords (type_of w t)
  any_written_well t named s none =
      written_well t (each_so (NameHasRecords w) (λ x m is. named x m is) (names_in t)) s
      (sound_sites w (type_sites w t) none)

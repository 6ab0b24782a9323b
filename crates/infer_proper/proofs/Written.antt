-- Written types without faults have each field of a record once, where the aliases that they name stand for types that
-- have.
use Rattle.std.proofs.Common.{◌≡◌, List, [], ◌∷◌, map, Bool, true, false, if◌then◌else◌, Option, Some, None}
use Rattle.std.proofs.Common.{refl, sym, ap, subst}
use Rattle.elm_base.specs.declared.fault.Code.TheVariants.{UnknownType, TypeArity}
use Rattle.elm_tree.specs.Tree as tree
use Rattle.elm_tree.specs.Tree.{TypeTree, TypeTrees, NoType, MoreType, TypeVariable, TypeName, Long, Word}
use Rattle.elm_canon.specs.Names.{Name}
use Rattle.elm_canon.specs.Tree.{Annotation, Annotations, NoAnnotation, MoreAnnotation, field_names}
use Rattle.canon_env.specs.Imports.{name_of}
use Rattle.canon_env.specs.Found.{Found, Nothing, One, Several}
use Rattle.canon_env.specs.Shown.{TypeMeaning}
use Rattle.canon_env.specs.declared.found.Meant.{Meant}
use Rattle.canon_env.specs.Naming.{World, own_name, type_found}
use Rattle.canon_env.specs.Expanding.{filling, applied_to, has_arity, bad_of_alias, blank, applied}
use Rattle.canon_env.specs.Sites.{TypeUse, FieldsTogether, faults_at, unless_one, type_faults, extension_faults}
use Rattle.canon_env.specs.Sites.{at_long}
use Rattle.canon_env.specs.Types.{function_of, type_of, types_of, field_types_of, field_words, type_sites}
use Rattle.canon_env.specs.Types.{type_sites_in, field_type_sites}
use Rattle.canon_proper.proofs.Quiet.{AreSound, sound_split, fields_once}
use Rattle.infer_steps.specs.Records.{AreDistinct}
use Rattle.infer_types.specs.Once.{FieldsOnce, AllOnce, FieldTypesOnce}
use Rattle.module_proper.specs.Records.{BodyHasRecords, NamesHaveRecords}
use Rattle.infer_proper.proofs.Distinct.{distinct_from, records_once}
use Rattle.infer_proper.proofs.Filling.{filling_well, filled_well}

-- ---- names

abbrev BodyOnce : Option Annotation → Type 0
BodyOnce None = Unit {0}
BodyOnce (Some t) = FieldsOnce t

-- ---- names with their arguments

no_extension : (x : Long) (names : List Name) → extension_faults x names ≡ [] → names ≡ []
no_extension x [] e = refl
no_extension x (n ∷ ns) e = absurd (cc)

body_well : (home x : Name) (m : TypeMeaning) (ts : Annotations) (o : Option Annotation) → AllOnce ts → BodyOnce o
    → bad_of_alias m ts o ≡ [] → FieldsOnce (applied_to home x m ts o)
body_well home x m ts None h b none = h
body_well home x m ts (Some t) h b none =
    filled_well (filling m.parameters ts) t (filling_well m.parameters ts h) b none

one_well : (x : Long) (m : Meant TypeMeaning) (ts : Annotations) → AllOnce ts → BodyOnce m.meaning.body
    → type_faults x ts m.meaning ≡ [] → FieldsOnce (applied (own_name x) (One m) ts)
one_well x m ts h b none = by (has_arity m.meaning ts) none
  where
    by : (c : Bool)
        → (if c then extension_faults x (bad_of_alias m.meaning ts m.meaning.body) else (at_long TypeArity x ∷ [])) ≡ []
        → FieldsOnce (if c then applied_to m.home (own_name x) m.meaning ts m.meaning.body else blank)
    by true e =
        body_well m.home (own_name x) m.meaning ts m.meaning.body h b
        (no_extension x (bad_of_alias m.meaning ts m.meaning.body) e)
    by false e = tt

function_well : (ts : Annotations) → AllOnce ts → FieldsOnce (function_of ts)
function_well NoAnnotation h = tt
function_well (MoreAnnotation t NoAnnotation) h = h.0
function_well (MoreAnnotation t (MoreAnnotation u ts)) h = (h.0, function_well (MoreAnnotation u ts) h.1)

-- ---- fields

names_are : (w : World) (fs : tree.FieldTypes) → field_names (field_types_of w fs) ≡ map name_of (field_words fs)
names_are w tree.NoFieldType = refl
names_are w (tree.MoreFieldType x t fs) = ap (λ ns. name_of x ∷ ns) (names_are w fs)

fields_are_once : (w : World) (fs : tree.FieldTypes) → faults_at w (FieldsTogether (field_words fs)) ≡ []
    → AreDistinct (field_names (field_types_of w fs))
fields_are_once w fs none =
    subst AreDistinct (sym (names_are w fs)) (distinct_from [] (field_words fs) (fields_once w (field_words fs) none)).1

-- ---- types

module _ (w : World) (names : NamesHaveRecords w) where
  body_once : (m : Meant TypeMeaning) (x : Long) → type_found w x ≡ One m → BodyOnce m.meaning.body
  body_once m x is = by m.meaning.body (names x m is)
    where
      by : (o : Option Annotation) → BodyHasRecords o → BodyOnce o
      by None h = tt
      by (Some t) h = records_once t h

  use_well : (x : Long) (ts : Annotations) → AllOnce ts → faults_at w (TypeUse x ts) ≡ []
      → FieldsOnce (applied (own_name x) (type_found w x) ts)
  unfolding faults_at
  use_well x ts h none = by (type_found w x) refl none
    where
      by : (f : Found TypeMeaning) → type_found w x ≡ f → unless_one UnknownType x f (type_faults x ts) ≡ []
          → FieldsOnce (applied (own_name x) f ts)
      by Nothing is e = tt
      by Several is e = tt
      by (One m) is e = one_well x m ts h (body_once m x is) e

  mutual
    pub type_well : (t : TypeTree) → AreSound w (type_sites w t) → FieldsOnce (type_of w t)
    type_well (TypeVariable a) q = tt
    type_well (TypeName x ts) q =
        let r = sound_split w (type_sites_in w ts) (TypeUse x (types_of w ts) ∷ []) q in
        use_well x (types_of w ts) (types_well ts r.0) r.1.0
    type_well (tree.FunctionType ts) q = function_well (types_of w ts) (types_well ts q)
    type_well (tree.TupleType ts) q = types_well ts q
    type_well (tree.RecordType fs) q =
        let r = sound_split w (field_type_sites w fs) (FieldsTogether (field_words fs) ∷ []) q in
        (fields_are_once w fs r.1.0, fields_well fs r.0)
    type_well (tree.ExtendedType a fs) q =
        let r = sound_split w (field_type_sites w fs) (FieldsTogether (field_words fs) ∷ []) q in
        (fields_are_once w fs r.1.0, fields_well fs r.0)

    pub types_well : (ts : TypeTrees) → AreSound w (type_sites_in w ts) → AllOnce (types_of w ts)
    types_well NoType q = tt
    types_well (MoreType t ts) q =
        let r = sound_split w (type_sites w t) (type_sites_in w ts) q in (type_well t r.0, types_well ts r.1)

    fields_well : (fs : tree.FieldTypes) → AreSound w (field_type_sites w fs) → FieldTypesOnce (field_types_of w fs)
    fields_well tree.NoFieldType q = tt
    fields_well (tree.MoreFieldType x t fs) q =
        let r = sound_split w (type_sites w t) (field_type_sites w fs) q in (type_well t r.0, fields_well fs r.1)

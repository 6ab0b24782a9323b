-- The walk over a written type: what each form means, and its faults, by those of its parts.
use Rattle.std.proofs.Common.{◌≡◌, List, [], ◌∷◌, ◌++◌, length, map, Option, None, Some, Vec, Global, refl, sym, ap, ◌∙◌}
use Rattle.std.proofs.Common.{append_assoc, append-nil}
use Rattle.std.specs.Prelude.{flat_map, option_map}
use Rattle.std.proofs.lemmas.Grind.{flat_map-append}
use Rattle.elm_lexer.specs.Tokens.{Token}
use Rattle.elm_base.specs.declared.fault.Code.TheVariants.{DuplicateField}
use Rattle.elm_tree.specs.Tree as tree
use Rattle.elm_tree.specs.Tree.{TypeTree, TypeVariable, TypeName}
use Rattle.elm_tree.specs.View as tree_view
use Rattle.elm_canon.specs.Tree as plain
use Rattle.elm_canon.specs.Tree.{annotations_of, field_types_of}
use Rattle.elm_canon.specs.View.{NamedType, function_to, function_type}
use Rattle.canon_env.specs.Imports.{name_of}
use Rattle.canon_env.specs.declared.finding.Finding.{Finding}
use Rattle.canon_env.specs.Naming.{World}
use Rattle.canon_env.specs.Sites.{Site, TypeUse, FieldsTogether, faults_at, at_word, repeats}
use Rattle.canon_env.specs.Types.{function_of, type_of, types_of, field_types_of as fields_of, field_words, type_sites}
use Rattle.canon_env.specs.Types.{type_sites_in, field_type_sites}
use Rattle.canon_env.specs.Expanding.{applied}
use Rattle.canon_env.specs.Naming.{own_name, type_found}
use Rattle.elm_canon.specs.Names.{Name}
use Rattle.elm_canon.specs.View.{annotation_view, field_type_view, types_view}
use Rattle.elm_canon.specs.declared.tree.Annotation.{Annotation}
use Rattle.elm_canon.proofs.Views.{type_of_record}
use Rattle.elm_canon.specs.declared.tree.Annotation.TheVariants as annotation
use Rattle.elm_canon.specs.declared.tree.FieldType as made
use Rattle.elm_tree.specs.declared.tree.FieldType.{FieldType}
use Rattle.elm_tree.specs.declared.tree.Word as program
use Rattle.elm_tree.specs.declared.tree.TypeTree as written
use Rattle.elm_tree.specs.declared.tree.TypeTree.TheVariants as form
use Rattle.elm_tree.proofs.Views.{field_of_type, record_of_type}
use Rattle.canon_type.specs.Walking.{faults_in, named_of, field_faults, field_name}

pub types_list : (w : World) (us : List TypeTree) → types_of w (tree.types_of us) ≡ annotations_of (map (type_of w) us)
types_list w [] = refl
types_list w (u ∷ us) = ap (plain.MoreAnnotation (type_of w u)) (types_list w us)

pub fields_list : (w : World) (fs : List tree_view.NamedType) →
    fields_of w (tree.field_types_of fs) ≡ field_types_of (map (named_of w) fs)
fields_list w [] = refl
fields_list w (f ∷ fs) = ap (plain.MoreFieldType (name_of f.0) (type_of w f.1)) (fields_list w fs)

pub words_list : (fs : List tree_view.NamedType) → field_words (tree.field_types_of fs) ≡ map (λ (f : tree_view.NamedType). f.0) fs
words_list [] = refl
words_list (f ∷ fs) = ap (λ z. f.0 ∷ z) (words_list fs)

pub faults_list : (w : World) (us : List TypeTree) →
    flat_map (faults_at w) (type_sites_in w (tree.types_of us)) ≡ flat_map (faults_in w) us
faults_list w [] = refl
faults_list w (u ∷ us) =
    flat_map-append (faults_at w) (type_sites w u) (type_sites_in w (tree.types_of us))
    ∙ ap (λ z. faults_in w u ++ z) (faults_list w us)

pub field_faults_list : (w : World) (fs : List tree_view.NamedType) →
    flat_map (faults_at w) (field_type_sites w (tree.field_types_of fs)) ≡ flat_map (field_faults w) fs
field_faults_list w [] = refl
field_faults_list w (f ∷ fs) =
    flat_map-append (faults_at w) (type_sites w f.1) (field_type_sites w (tree.field_types_of fs))
    ∙ ap (λ z. field_faults w f ++ z) (field_faults_list w fs)

-- one site after others
last_site : (w : World) (ss : List Site) (s : Site) (l : List Finding) → flat_map (faults_at w) ss ≡ l →
    flat_map (faults_at w) (ss ++ s ∷ []) ≡ l ++ faults_at w s
last_site w ss s l e =
    flat_map-append (faults_at w) ss (s ∷ []) ∙ ap (λ z. z ++ (faults_at w s ++ [])) e
    ∙ ap (λ z. l ++ z) (append-nil (faults_at w s))

pub named_faults : (w : World) (x : tree.Long) (us : List TypeTree) →
    faults_in w (TypeName x (tree.types_of us))
    ≡ flat_map (faults_in w) us ++ faults_at w (TypeUse x (annotations_of (map (type_of w) us)))
named_faults w x us =
    last_site w (type_sites_in w (tree.types_of us)) (TypeUse x (types_of w (tree.types_of us))) (flat_map (faults_in w) us)
    (faults_list w us)
    ∙ ap (λ ts. flat_map (faults_in w) us ++ faults_at w (TypeUse x ts)) (types_list w us)

-- the faults of fields that stand together
together : (w : World) (ws : List tree.Word) → faults_at w (FieldsTogether ws) ≡ map (at_word DuplicateField) (repeats ws)
unfolding faults_at
together w ws = refl

pub record_faults : (w : World) (fs : List tree_view.NamedType) →
    flat_map (faults_at w) (field_type_sites w (tree.field_types_of fs) ++ FieldsTogether (field_words (tree.field_types_of fs)) ∷ [])
    ≡ flat_map (field_faults w) fs ++ map (at_word DuplicateField) (repeats (map (λ (f : tree_view.NamedType). f.0) fs))
record_faults w fs =
    last_site w (field_type_sites w (tree.field_types_of fs)) (FieldsTogether (field_words (tree.field_types_of fs)))
    (flat_map (field_faults w) fs) (field_faults_list w fs)
    ∙ ap (λ ws. flat_map (field_faults w) fs ++ faults_at w (FieldsTogether ws)) (words_list fs)
    ∙ ap (λ z. flat_map (field_faults w) fs ++ z) (together w (map (λ (f : tree_view.NamedType). f.0) fs))

-- ---- what a form means, by what its parts mean

pub variable_means : (w : World) (a : tree.Word) (written : TypeTree) (got : plain.Annotation) (name : Name) →
    written ≡ TypeVariable a → got ≡ plain.Variable name → name ≡ name_of a → got ≡ type_of w written
variable_means w a written got name whole e n = e ∙ ap plain.Variable n ∙ ap (type_of w) (sym whole)

pub variable_faults : (w : World) (a : tree.Word) (written : TypeTree) (old : List Finding) →
    written ≡ TypeVariable a → old ≡ old ++ faults_in w written
variable_faults w a written old whole = sym (append-nil old) ∙ ap (λ t. old ++ faults_in w t) (sym whole)

module _ (w : World) (us : List TypeTree) (ts : List plain.Annotation) (same : ts ≡ map (type_of w) us)
    (written : TypeTree) (got : plain.Annotation) where
  meant : annotations_of ts ≡ types_of w (tree.types_of us)
  meant = ap annotations_of same ∙ sym (types_list w us)

  pub named_means : (x : tree.Long) → written ≡ TypeName x (tree.types_of us) →
      got ≡ applied (own_name x) (type_found w x) (annotations_of ts) → got ≡ type_of w written
  named_means x whole e =
      e ∙ ap (applied (own_name x) (type_found w x)) meant ∙ ap (type_of w) (sym whole)

  pub function_means : written ≡ tree.FunctionType (tree.types_of us) → got ≡ function_of (annotations_of ts) →
      got ≡ type_of w written
  function_means whole e = e ∙ ap function_of meant ∙ ap (type_of w) (sym whole)

  pub tuple_means : written ≡ tree.TupleType (tree.types_of us) → got ≡ plain.TupleType (annotations_of ts) →
      got ≡ type_of w written
  tuple_means whole e = e ∙ ap plain.TupleType meant ∙ ap (type_of w) (sym whole)

module _ (w : World) (fs : List tree_view.NamedType) (gs : List NamedType) (same : gs ≡ map (named_of w) fs)
    (written : TypeTree) (got : plain.Annotation) where
  meant_fields : field_types_of gs ≡ fields_of w (tree.field_types_of fs)
  meant_fields = ap field_types_of same ∙ sym (fields_list w fs)

  pub record_means : written ≡ tree.RecordType (tree.field_types_of fs) →
      got ≡ plain.RecordType (field_types_of gs) → got ≡ type_of w written
  record_means whole e = e ∙ ap plain.RecordType meant_fields ∙ ap (type_of w) (sym whole)

  pub extended_means : (a : tree.Word) (name : Name) → written ≡ tree.ExtendedType a (tree.field_types_of fs) →
      got ≡ plain.ExtendedType name (field_types_of gs) → name ≡ name_of a → got ≡ type_of w written
  extended_means a name whole e n =
      e ∙ ap (λ m. plain.ExtendedType m (field_types_of gs)) n ∙ ap (plain.ExtendedType (name_of a)) meant_fields
      ∙ ap (type_of w) (sym whole)

pub field_means : (w : World) (tokens : List Token) (f : FieldType) (x : Name) (t : Annotation) →
    x ≡ name_of (tree_view.word_view tokens f.name) →
    annotation_view t ≡ type_of w (tree_view.type_view tokens f.field_type) →
    (x, annotation_view t) ≡ named_of w (tree_view.field_type_view tokens f)
field_means w tokens f x t ex et =
    ap (λ z. (z, annotation_view t)) ex ∙ ap (λ z. (name_of (tree_view.word_view tokens f.name), z)) et
    ∙ ap (named_of w) (sym (field_of_type tokens f))

function_forms : (u : plain.Annotation) (us : List plain.Annotation) →
    function_to u us ≡ function_of (annotations_of (u ∷ us))
function_forms u [] = refl
function_forms u (v ∷ us) = ap (plain.FunctionType u) (function_forms v us)

-- where there is a result
pub function_with_result : (us : List Annotation) → (length us ≡ 0 → ⊥) →
    function_type (map annotation_view us) ≡ function_of (types_view us)
function_with_result [] h = absurd (h refl)
function_with_result (u ∷ us) h = function_forms (annotation_view u) (map annotation_view us)

-- ---- its faults, by those of its parts

pub use_faults : (w : World) (x : tree.Long) (us : List TypeTree) (ts : List plain.Annotation) (written : TypeTree)
    (old mid new : List Finding) → written ≡ TypeName x (tree.types_of us) → ts ≡ map (type_of w) us →
    mid ≡ old ++ flat_map (faults_in w) us → new ≡ mid ++ faults_at w (TypeUse x (annotations_of ts)) →
    new ≡ old ++ faults_in w written
use_faults w x us ts written old mid new whole same first next =
    let last = faults_at w (TypeUse x (annotations_of (map (type_of w) us))) in
    next ∙ ap (λ z. mid ++ faults_at w (TypeUse x (annotations_of z))) same ∙ ap (λ z. z ++ last) first
    ∙ append_assoc old (flat_map (faults_in w) us) last
    ∙ ap (λ z. old ++ z) (sym (named_faults w x us) ∙ ap (faults_in w) (sym whole))

pub function_faults : (w : World) (us : List TypeTree) (written : TypeTree) (old new : List Finding) →
    written ≡ tree.FunctionType (tree.types_of us) → new ≡ old ++ flat_map (faults_in w) us →
    new ≡ old ++ faults_in w written
function_faults w us written old new whole e =
    e ∙ ap (λ z. old ++ z) (sym (faults_list w us) ∙ ap (faults_in w) (sym whole))

pub tuple_faults : (w : World) (us : List TypeTree) (written : TypeTree) (old new : List Finding) →
    written ≡ tree.TupleType (tree.types_of us) → new ≡ old ++ flat_map (faults_in w) us →
    new ≡ old ++ faults_in w written
tuple_faults w us written old new whole e =
    e ∙ ap (λ z. old ++ z) (sym (faults_list w us) ∙ ap (faults_in w) (sym whole))

names_list : (tokens : List Token) (fs : List FieldType) →
    map (tree_view.word_view tokens) (map field_name fs)
    ≡ map (λ (f : tree_view.NamedType). f.0) (map (tree_view.field_type_view tokens) fs)
names_list tokens [] = refl
names_list tokens (f ∷ fs) =
    ap (λ (p : tree_view.NamedType). p.0 ∷ map (tree_view.word_view tokens) (map field_name fs))
    (sym (field_of_type tokens f))
    ∙ ap (λ ws. (tree_view.field_type_view tokens f).0 ∷ ws) (names_list tokens fs)

-- the faults, and then those of these words that stand twice
abbrev pub repeated_after : List Token → List Finding → List program.Word → List Finding
repeated_after tokens old ws =
    old ++ map (at_word DuplicateField) (repeats (map (tree_view.word_view tokens) ws))

-- the faults of a record, whose fields were walked as fs, and their words collected as those of gs
module _ (w : World) (tokens : List Token) (fs gs : List FieldType) (same : gs ≡ fs) (old mid new : List Finding)
    (first : mid ≡ old ++ flat_map (field_faults w) (map (tree_view.field_type_view tokens) fs))
    (next : new ≡ repeated_after tokens mid (map field_name gs)) where
  all : List Finding
  all =
      flat_map (faults_at w) (field_type_sites w (tree.field_types_of (map (tree_view.field_type_view tokens) fs))
      ++ FieldsTogether (field_words (tree.field_types_of (map (tree_view.field_type_view tokens) fs))) ∷ [])

  together_faults : new ≡ old ++ all
  unfolding all
  together_faults =
      let views = map (tree_view.field_type_view tokens) fs in
      let twice = map (at_word DuplicateField) (repeats (map (λ (f : tree_view.NamedType). f.0) views)) in
      next
      ∙ ap (λ ws. mid ++ map (at_word DuplicateField) (repeats ws))
      (ap (λ l. map (tree_view.word_view tokens) (map field_name l)) same ∙ names_list tokens fs)
      ∙ ap (λ z. z ++ twice) first
      ∙ append_assoc old (flat_map (field_faults w) views) twice
      ∙ ap (λ z. old ++ z) (sym (record_faults w views))

  pub closed_record_faults : (written : TypeTree) →
      written ≡ tree.RecordType (tree.field_types_of (map (tree_view.field_type_view tokens) fs)) →
      new ≡ old ++ faults_in w written
  unfolding all
  closed_record_faults written whole = together_faults ∙ ap (λ t. old ++ faults_in w t) (sym whole)

  pub extended_record_faults : (written : TypeTree) (a : tree.Word) →
      written ≡ tree.ExtendedType a (tree.field_types_of (map (tree_view.field_type_view tokens) fs)) →
      new ≡ old ++ faults_in w written
  unfolding all
  extended_record_faults written a whole = together_faults ∙ ap (λ t. old ++ faults_in w t) (sym whole)

-- a record over a base, or over none
pub over_means : (w : World) (tokens : List Token) (t : written.TypeTree) (b : Option program.Word)
    (fs : Vec FieldType Global) (us : List FieldType) (r : Annotation) (v : Vec made.FieldType Global) →
    t ≡ form.Record b fs → us ≡ fs.items →
    r ≡ annotation.Record (option_map (λ a. name_of (tree_view.word_view tokens a)) b) v →
    map field_type_view v.items ≡ map (named_of w) (map (tree_view.field_type_view tokens) us) →
    annotation_view r ≡ type_of w (tree_view.type_view tokens t)
over_means w tokens t None fs us r v is d e same =
    record_means w (map (tree_view.field_type_view tokens) us) (map field_type_view v.items) same
    (tree_view.type_view tokens t) (annotation_view r)
    (ap (tree_view.type_view tokens) is ∙ record_of_type tokens None fs
    ∙ ap (λ l. tree.RecordType (tree.field_types_of (map (tree_view.field_type_view tokens) l))) (sym d))
    (ap annotation_view e ∙ type_of_record None v)
over_means w tokens t (Some a) fs us r v is d e same =
    extended_means w (map (tree_view.field_type_view tokens) us) (map field_type_view v.items) same
    (tree_view.type_view tokens t) (annotation_view r) (tree_view.word_view tokens a)
    (name_of (tree_view.word_view tokens a))
    (ap (tree_view.type_view tokens) is ∙ record_of_type tokens (Some a) fs
    ∙ ap (λ l. tree.ExtendedType (tree_view.word_view tokens a)
    (tree.field_types_of (map (tree_view.field_type_view tokens) l))) (sym d))
    (ap annotation_view e ∙ type_of_record (Some (name_of (tree_view.word_view tokens a))) v) refl

pub over_faults : (w : World) (tokens : List Token) (t : written.TypeTree) (b : Option program.Word)
    (fs : Vec FieldType Global) (us gs : List FieldType) (old mid new : List Finding) → t ≡ form.Record b fs →
    us ≡ fs.items → gs ≡ fs.items →
    mid ≡ old ++ flat_map (field_faults w) (map (tree_view.field_type_view tokens) us) →
    new ≡ repeated_after tokens mid (map field_name gs) → new ≡ old ++ faults_in w (tree_view.type_view tokens t)
over_faults w tokens t None fs us gs old mid new is d d' first next =
    closed_record_faults w tokens us gs (d' ∙ sym d) old mid new first next (tree_view.type_view tokens t)
    (ap (tree_view.type_view tokens) is ∙ record_of_type tokens None fs
    ∙ ap (λ l. tree.RecordType (tree.field_types_of (map (tree_view.field_type_view tokens) l))) (sym d))
over_faults w tokens t (Some a) fs us gs old mid new is d d' first next =
    extended_record_faults w tokens us gs (d' ∙ sym d) old mid new first next (tree_view.type_view tokens t)
    (tree_view.word_view tokens a)
    (ap (tree_view.type_view tokens) is ∙ record_of_type tokens (Some a) fs
    ∙ ap (λ l. tree.ExtendedType (tree_view.word_view tokens a)
    (tree.field_types_of (map (tree_view.field_type_view tokens) l))) (sym d))

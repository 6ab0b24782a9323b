-- What stands for parameters, one after the other; and types that are filled part by part.
use Rattle.std.proofs.Common.{◌≡◌, ℕ, ◌+◌, ◌<◌, take, get_or, List, [], ◌∷◌, ◌++◌, length, drop, map, Bool, true, false, if◌then◌else◌, cond}
use Rattle.std.specs.declared.sync.Arc.{Arc}
use Rattle.std.proofs.Common.{Option, Some, None, Vec, Global, refl, sym, ap, ◌∙◌, subst, append-nil, append_assoc}
use Rattle.std.specs.Prelude.{option_map, unwrap_or, is_some, flat_map}
use Rattle.elm_canon.specs.Names.{Name, same_name}
use Rattle.elm_canon.specs.Tree as plain
use Rattle.elm_canon.specs.Tree.{annotations_of, field_types_of}
use Rattle.elm_canon.specs.View.{annotation_view, field_type_view, types_view, function_to, function_type, record_type, NamedType}
use Rattle.elm_canon.specs.declared.tree.Annotation.{Annotation}
use Rattle.elm_canon.specs.declared.tree.Annotation.TheVariants as annotation
use Rattle.elm_canon.specs.declared.tree.FieldType.{FieldType}
use Rattle.elm_canon.proofs.Views.{named_type, type_of_function, tuple_type, type_of_record, field_type}
use Rattle.std.proofs.lemmas.List.{map-append, length-map, length-append, drop-drop}
use Rattle.canon_env.proofs.Filtering.{map_next}
use Rattle.canon_env.proofs.Adding.{one_name}
use Rattle.canon_env.specs.Expanding as sites
use Rattle.canon_env.specs.Expanding.{filled_in, fill, fill_all, fill_fields, bad_fields, bad_in_all, bad_in_fields}
use Rattle.canon_type.specs.Filling.{looked_up, entry, filled_field, filled_over, bad_field}

-- ---- one parameter more

abbrev pub first_of : {A : Type 0} → Option A → Option A → Option A
first_of (Some x) o = Some x
first_of None o = o

abbrev only : Name × plain.Annotation → Name → Option plain.Annotation
only f a = if same_name f.0 a then Some f.1 else None

looked_up-append : (s : sites.Filling) (f : Name × plain.Annotation) (a : Name) →
    looked_up (s ++ f ∷ []) a ≡ first_of (looked_up s a) (only f a)
looked_up-append [] f a = refl
looked_up-append (g ∷ gs) f a = by (same_name g.0 a) (looked_up-append gs f a)
  where
    by : (b : Bool) → looked_up (gs ++ f ∷ []) a ≡ first_of (looked_up gs a) (only f a) →
        (if b then Some g.1 else looked_up (gs ++ f ∷ []) a)
        ≡ first_of (if b then Some g.1 else looked_up gs a) (only f a)
    by true e = refl
    by false e = e

first_some : {A : Type 0} → (o p : Option A) → is_some o ≡ true → first_of o p ≡ o
first_some (Some x) p h = refl
first_some None p h = absurd cc

first_none : {A : Type 0} → (o : Option A) → first_of o None ≡ o
first_none (Some x) = refl
first_none None = refl

-- a name that something stands for keeps it
pub kept : (s : sites.Filling) (f : Name × plain.Annotation) → is_some (looked_up s f.0) ≡ true → (a : Name) →
    looked_up (s ++ f ∷ []) a ≡ looked_up s a
kept s f h a = looked_up-append s f a ∙ by (same_name f.0 a) refl
  where
    by : (b : Bool) → same_name f.0 a ≡ b → first_of (looked_up s a) (if b then Some f.1 else None) ≡ looked_up s a
    by true e =
        first_some (looked_up s a) (Some f.1) (subst (λ x. is_some (looked_up s x) ≡ true) (one_name f.0 a e) h)
    by false e = first_none (looked_up s a)

-- a name that nothing stood for has the new type
pub put_in : (s : sites.Filling) (f : Name × plain.Annotation) (g : Option plain.Annotation) (a : Name) →
    is_some (looked_up s f.0) ≡ false → (same_name f.0 a ≡ false → g ≡ looked_up s a) →
    (same_name f.0 a ≡ true → g ≡ Some f.1) → g ≡ looked_up (s ++ f ∷ []) a
put_in s f g a none other is = by (same_name f.0 a) refl ∙ sym (looked_up-append s f a)
  where
    nothing : (o : Option plain.Annotation) → is_some o ≡ false → first_of o (Some f.1) ≡ Some f.1
    nothing (Some x) h = absurd cc
    nothing None h = refl

    by : (b : Bool) → same_name f.0 a ≡ b → g ≡ first_of (looked_up s a) (if b then Some f.1 else None)
    by true e =
        is e ∙ sym (nothing (looked_up s a) (subst (λ x. is_some (looked_up s x) ≡ false) (one_name f.0 a e) none))
    by false e = other e ∙ sym (first_none (looked_up s a))

pub filled_in-looked_up : (s : sites.Filling) (a : Name) → filled_in s a ≡ unwrap_or (looked_up s a) (plain.Variable a)
filled_in-looked_up [] a = refl
filled_in-looked_up (f ∷ fs) a = by (same_name f.0 a) (filled_in-looked_up fs a)
  where
    by : (b : Bool) → filled_in fs a ≡ unwrap_or (looked_up fs a) (plain.Variable a) →
        (if b then f.1 else filled_in fs a) ≡ unwrap_or (if b then Some f.1 else looked_up fs a) (plain.Variable a)
    by true e = refl
    by false e = e

pub filling-append : (names : List Name) (us : List plain.Annotation) (t : plain.Annotation) →
    sites.filling names (annotations_of (us ++ t ∷ []))
    ≡ sites.filling names (annotations_of us) ++ entry (drop (length us) names) t
filling-append [] [] t = refl
filling-append [] (u ∷ us) t = refl
filling-append (a ∷ names) [] t = ap (λ z. (a, t) ∷ z) (none names)
  where
    none : (ns : List Name) → sites.filling ns plain.NoAnnotation ≡ []
    none [] = refl
    none (n ∷ ns) = refl
filling-append (a ∷ names) (u ∷ us) t = ap (λ z. (a, u) ∷ z) (filling-append names us t)

-- ---- types that are filled part by part

pub fill_all-list : (s : sites.Filling) (us : List plain.Annotation) →
    fill_all s (annotations_of us) ≡ annotations_of (map (fill s) us)
fill_all-list s [] = refl
fill_all-list s (u ∷ us) = ap (plain.MoreAnnotation (fill s u)) (fill_all-list s us)

pub fill_fields-list : (s : sites.Filling) (fs : List NamedType) →
    fill_fields s (field_types_of fs) ≡ field_types_of (map (filled_field s) fs)
fill_fields-list s [] = refl
fill_fields-list s (f ∷ fs) = ap (plain.MoreFieldType f.0 (fill s f.1)) (fill_fields-list s fs)

fill_to : (s : sites.Filling) (t : plain.Annotation) (us : List plain.Annotation) →
    fill s (function_to t us) ≡ function_to (fill s t) (map (fill s) us)
fill_to s t [] = refl
fill_to s t (u ∷ us) = ap (plain.FunctionType (fill s t)) (fill_to s u us)

pub fill_function : (s : sites.Filling) (us : List plain.Annotation) →
    fill s (function_type us) ≡ function_type (map (fill s) us)
fill_function s [] = refl
fill_function s (u ∷ us) = fill_to s u us

pub named_filled : (s : sites.Filling) (t : Annotation) (m m' x x' : Name) (ts ts' : Vec Annotation Global)
    (us : List Annotation) → t ≡ annotation.Named m x ts → m' ≡ m → x' ≡ x →
    map annotation_view ts'.items ≡ map (fill s) (map annotation_view us) → us ≡ ts.items →
    annotation_view (annotation.Named m' x' ts') ≡ fill s (annotation_view t)
named_filled s t m m' x x' ts ts' us is em ex e d =
    named_type m' x' ts'
    ∙ ap (λ z. plain.NamedType z x' (types_view ts'.items)) em
    ∙ ap (λ z. plain.NamedType m z (types_view ts'.items)) ex
    ∙ ap (λ z. plain.NamedType m x (annotations_of z)) (e ∙ ap (λ w. map (fill s) (map annotation_view w)) d)
    ∙ ap (plain.NamedType m x) (sym (fill_all-list s (map annotation_view ts.items)))
    ∙ ap (fill s) (sym (ap annotation_view is ∙ named_type m x ts))

pub function_filled : (s : sites.Filling) (t : Annotation) (ts ts' : Vec Annotation Global) (us : List Annotation) →
    t ≡ annotation.Function ts → map annotation_view ts'.items ≡ map (fill s) (map annotation_view us) →
    us ≡ ts.items → annotation_view (annotation.Function ts') ≡ fill s (annotation_view t)
function_filled s t ts ts' us is e d =
    type_of_function ts' ∙ ap function_type (e ∙ ap (λ w. map (fill s) (map annotation_view w)) d)
    ∙ sym (fill_function s (map annotation_view ts.items))
    ∙ ap (fill s) (sym (ap annotation_view is ∙ type_of_function ts))

pub tuple_filled : (s : sites.Filling) (t : Annotation) (ts ts' : Vec Annotation Global) (us : List Annotation) →
    t ≡ annotation.Tuple ts → map annotation_view ts'.items ≡ map (fill s) (map annotation_view us) →
    us ≡ ts.items → annotation_view (annotation.Tuple ts') ≡ fill s (annotation_view t)
tuple_filled s t ts ts' us is e d =
    tuple_type ts'
    ∙ ap (λ z. plain.TupleType (annotations_of z)) (e ∙ ap (λ w. map (fill s) (map annotation_view w)) d)
    ∙ ap plain.TupleType (sym (fill_all-list s (map annotation_view ts.items)))
    ∙ ap (fill s) (sym (ap annotation_view is ∙ tuple_type ts))

pub over_filled : (s : sites.Filling) (t r : Annotation) (b : Option Name) (fs : Vec FieldType Global)
    (gs us : List FieldType) → t ≡ annotation.Record b fs →
    annotation_view r ≡ filled_over s b (field_types_of (map field_type_view gs)) →
    map field_type_view gs ≡ map (filled_field s) (map field_type_view us) → us ≡ fs.items →
    annotation_view r ≡ fill s (annotation_view t)
over_filled s t r b fs gs us is v e d =
    v
    ∙ ap (λ z. filled_over s b (field_types_of z)) (e ∙ ap (λ w. map (filled_field s) (map field_type_view w)) d)
    ∙ ap (filled_over s b) (sym (fill_fields-list s (map field_type_view fs.items)))
    ∙ by b
    ∙ ap (fill s) (sym (ap annotation_view is ∙ type_of_record b fs))
  where
    by : (o : Option Name) → filled_over s o (fill_fields s (field_types_of (map field_type_view fs.items)))
        ≡ fill s (record_type o (map field_type_view fs.items))
    by None = refl
    by (Some a) = refl

pub field_filled : (s : sites.Filling) (f : FieldType) (x : Name) (t : Annotation) → x ≡ f.name →
    annotation_view t ≡ fill s (annotation_view f.field_type) →
    (x, annotation_view t) ≡ filled_field s (field_type_view f)
field_filled s f x t ex et =
    ap (λ z. (z, annotation_view t)) ex ∙ ap (λ z. (f.name, z)) et ∙ ap (filled_field s) (sym (field_type f))

-- ---- the fields that extend what they may not

pub bad_in_all-list : (s : sites.Filling) (us : List plain.Annotation) →
    bad_in_all s (annotations_of us) ≡ flat_map (bad_fields s) us
bad_in_all-list s [] = refl
bad_in_all-list s (u ∷ us) = ap (λ z. bad_fields s u ++ z) (bad_in_all-list s us)

pub bad_in_fields-list : (s : sites.Filling) (fs : List NamedType) →
    bad_in_fields s (field_types_of fs) ≡ flat_map (bad_field s) fs
bad_in_fields-list s [] = refl
bad_in_fields-list s (f ∷ fs) = ap (λ z. bad_fields s f.1 ++ z) (bad_in_fields-list s fs)

bad_to : (s : sites.Filling) (t : plain.Annotation) (us : List plain.Annotation) →
    bad_fields s (function_to t us) ≡ bad_fields s t ++ flat_map (bad_fields s) us
bad_to s t [] = sym (append-nil (bad_fields s t))
bad_to s t (u ∷ us) = ap (λ z. bad_fields s t ++ z) (bad_to s u us)

pub bad_function : (s : sites.Filling) (us : List plain.Annotation) →
    bad_fields s (function_type us) ≡ flat_map (bad_fields s) us
bad_function s [] = refl
bad_function s (u ∷ us) = bad_to s u us

pub bad_named : (s : sites.Filling) (t : Annotation) (m x : Name) (ts : Vec Annotation Global) (us : List Annotation)
    (old : List Name) → t ≡ annotation.Named m x ts → us ≡ ts.items →
    old ++ flat_map (bad_fields s) (map annotation_view us) ≡ old ++ bad_fields s (annotation_view t)
bad_named s t m x ts us old is d =
    ap (λ w. old ++ flat_map (bad_fields s) (map annotation_view w)) d
    ∙ ap (λ z. old ++ z) (sym (bad_in_all-list s (map annotation_view ts.items)))
    ∙ ap (λ u. old ++ bad_fields s u) (sym (ap annotation_view is ∙ named_type m x ts))

pub bad_in_function : (s : sites.Filling) (t : Annotation) (ts : Vec Annotation Global) (us : List Annotation)
    (old : List Name) → t ≡ annotation.Function ts → us ≡ ts.items →
    old ++ flat_map (bad_fields s) (map annotation_view us) ≡ old ++ bad_fields s (annotation_view t)
bad_in_function s t ts us old is d =
    ap (λ w. old ++ flat_map (bad_fields s) (map annotation_view w)) d
    ∙ ap (λ z. old ++ z) (sym (bad_function s (map annotation_view ts.items)))
    ∙ ap (λ u. old ++ bad_fields s u) (sym (ap annotation_view is ∙ type_of_function ts))

pub bad_in_tuple : (s : sites.Filling) (t : Annotation) (ts : Vec Annotation Global) (us : List Annotation)
    (old : List Name) → t ≡ annotation.Tuple ts → us ≡ ts.items →
    old ++ flat_map (bad_fields s) (map annotation_view us) ≡ old ++ bad_fields s (annotation_view t)
bad_in_tuple s t ts us old is d =
    ap (λ w. old ++ flat_map (bad_fields s) (map annotation_view w)) d
    ∙ ap (λ z. old ++ z) (sym (bad_in_all-list s (map annotation_view ts.items)))
    ∙ ap (λ u. old ++ bad_fields s u) (sym (ap annotation_view is ∙ tuple_type ts))

pub bad_in_record : (s : sites.Filling) (t : Annotation) (b : Option Name) (fs : Vec FieldType Global)
    (us : List FieldType) (old : List Name) → t ≡ annotation.Record b fs → b ≡ None → us ≡ fs.items →
    old ++ flat_map (bad_field s) (map field_type_view us) ≡ old ++ bad_fields s (annotation_view t)
bad_in_record s t b fs us old is none d =
    ap (λ w. old ++ flat_map (bad_field s) (map field_type_view w)) d
    ∙ ap (λ z. old ++ z) (sym (bad_in_fields-list s (map field_type_view fs.items)))
    ∙ ap (λ u. old ++ bad_fields s u)
    (sym (ap annotation_view (is ∙ ap (λ z. annotation.Record z fs) none) ∙ type_of_record None fs))

pub bad_in_extended : (s : sites.Filling) (t : Annotation) (b : Option Name) (a : Name) (fs : Vec FieldType Global)
    (us vs : List FieldType) (old mid new : List Name) → t ≡ annotation.Record b fs → b ≡ Some a →
    us ≡ fs.items → vs ≡ fs.items →
    mid ≡ old ++ sites.bad_on (filled_in s a) (field_types_of (map field_type_view us)) →
    new ≡ mid ++ flat_map (bad_field s) (map field_type_view vs) → new ≡ old ++ bad_fields s (annotation_view t)
bad_in_extended s t b a fs us vs old mid new is some d d' first next =
    let F = field_types_of (map field_type_view fs.items) in
    next ∙ ap (λ w. mid ++ flat_map (bad_field s) (map field_type_view w)) d'
    ∙ ap (λ z. mid ++ z) (sym (bad_in_fields-list s (map field_type_view fs.items)))
    ∙ ap (λ z. z ++ bad_in_fields s F)
    (first ∙ ap (λ w. old ++ sites.bad_on (filled_in s a) (field_types_of (map field_type_view w))) d)
    ∙ append_assoc old (sites.bad_on (filled_in s a) F) (bad_in_fields s F)
    ∙ ap (λ u. old ++ bad_fields s u)
    (sym (ap annotation_view (is ∙ ap (λ z. annotation.Record z fs) some) ∙ type_of_record (Some a) fs))

flat_map-push : {Y Z : Type 0} → (g : Y → List Z) (ys : List Y) (y : Y) → flat_map g ys ++ g y ≡ flat_map g (ys ++ y ∷ [])
flat_map-push g [] y = sym (append-nil (g y))
flat_map-push g (v ∷ vs) y = append_assoc (g v) (flat_map g vs) (g y) ∙ ap (λ z. g v ++ z) (flat_map-push g vs y)

-- one part more
pub bad_next : {X Y Z : Type 0} → (g : Y → List Z) (f : X → Y) (xs : List X) (i : ℕ) (x : X) (old mid new : List Z) →
    i < length xs → x ≡ get_or xs i x → mid ≡ old ++ flat_map g (map f (take i xs)) → new ≡ mid ++ g (f x) →
    new ≡ old ++ flat_map g (map f (take (i + 1) xs))
bad_next g f xs i x old mid new lt is inv next =
    next ∙ ap (λ z. z ++ g (f x)) inv ∙ append_assoc old (flat_map g (map f (take i xs))) (g (f x))
    ∙ ap (λ z. old ++ z) (flat_map-push g (map f (take i xs)) (f x))
    ∙ ap (λ z. old ++ flat_map g z) (sym (map_next f xs i x lt is))

-- ---- the names that are left

pub filling_next : (names : List Name) (us : List Annotation) (t : Annotation) →
    sites.filling names (types_view (us ++ t ∷ []))
    ≡ sites.filling names (types_view us) ++ entry (drop (length us) names) (annotation_view t)
filling_next names us t =
    ap (λ ts. sites.filling names (annotations_of ts)) (map-append annotation_view us (t ∷ []))
    ∙ filling-append names (map annotation_view us) (annotation_view t)
    ∙ ap (λ n. sites.filling names (types_view us) ++ entry (drop n names) (annotation_view t)) (length-map us annotation_view)

pub filling_none : (names : List Name) → sites.filling names plain.NoAnnotation ≡ []
filling_none [] = refl
filling_none (a ∷ names) = refl

pub drop_next : (names : List Name) (us : List Annotation) (t : Annotation) →
    drop 1 (drop (length us) names) ≡ drop (length (us ++ t ∷ [])) names
drop_next names us t =
    drop-drop 1 (length us) names ∙ ap (λ n. drop n names) (sym (length-append us (t ∷ [])))

-- ---- what the program's map says

some_map : {A B : Type 0} → (f : A → B) (o : Option A) → is_some (option_map f o) ≡ is_some o
some_map f None = refl
some_map f (Some x) = refl

module _ (s : sites.Filling) (name : Name) (t : Arc Annotation Global) (old : Name → Option (Arc Annotation Global))
    (says : (a : Name) → option_map (λ u. annotation_view u.value) (old a) ≡ looked_up s a) where
  told : (b : Bool) → is_some (old name) ≡ b → is_some (looked_up s name) ≡ b
  told b e = sym (ap is_some (says name)) ∙ some_map (λ u. annotation_view u.value) (old name) ∙ e

  -- a name that stands for something keeps it
  pub stays : is_some (old name) ≡ true → (a : Name) →
      option_map (λ u. annotation_view u.value) (old a) ≡ looked_up (s ++ (name, annotation_view t.value) ∷ []) a
  stays e a = says a ∙ sym (kept s (name, annotation_view t.value) (told true e) a)

  -- one that does not has the new type
  pub put_one : (key : Name) (new : Name → Option (Arc Annotation Global)) → key ≡ name → is_some (old name) ≡ false →
      ((a : Name) → new a ≡ cond (same_name key a) (Some t) (old a)) → (a : Name) →
      option_map (λ u. annotation_view u.value) (new a) ≡ looked_up (s ++ (name, annotation_view t.value) ∷ []) a
  put_one key new same e update a =
      put_in s (name, annotation_view t.value) (option_map (λ u. annotation_view u.value) (new a)) a (told false e)
      (λ no. ap (option_map (λ u. annotation_view u.value)) (at false no) ∙ says a)
      (λ yes. ap (option_map (λ u. annotation_view u.value)) (at true yes))
    where
      at : (b : Bool) → same_name name a ≡ b → new a ≡ cond b (Some t) (old a)
      at b is =
          update a ∙ ap (λ k. cond (same_name k a) (Some t) (old a)) same ∙ ap (λ c. cond c (Some t) (old a)) is

-- what a look-up finds stands for the name
pub found_in_filling : (s : sites.Filling) (a : Name) (o : Option plain.Annotation) → o ≡ looked_up s a →
    unwrap_or o (plain.Variable a) ≡ filled_in s a
found_in_filling s a o e = ap (λ p. unwrap_or p (plain.Variable a)) e ∙ sym (filled_in-looked_up s a)

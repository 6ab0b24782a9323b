-- What the name of a type with its arguments means.
use Rattle.std.proofs.Common.{◌≡◌, suc, List, [], ◌∷◌, ◌++◌, true, false, if◌then◌else◌, length, map, nat_eq}
use Rattle.std.proofs.Common.{Result, Ok, Err, OnOk, refl, sym, ap, ◌∙◌, append-nil}
use Rattle.std.specs.declared.alloc.Global.{Global}
use Rattle.std.specs.declared.sync.Arc.{Arc}
use Rattle.std.proofs.lemmas.Bool.{ne_eqb, eq-eqb}
use Rattle.std.proofs.lemmas.List.{length-map}
use Rattle.elm_base.specs.declared.fault.Code.TheVariants.{UnknownType, TypeArity, Ambiguous}
use Rattle.elm_tree.specs.Tree.{Long}
use Rattle.elm_canon.specs.Names.{Name}
use Rattle.elm_canon.specs.Tree as plain
use Rattle.elm_canon.specs.Tree.{annotations_of}
use Rattle.elm_canon.specs.View.{annotation_view, types_view}
use Rattle.elm_canon.specs.declared.tree.Annotation.{Annotation}
use Rattle.elm_canon.specs.declared.tree.UnionDeclaration.{UnionDeclaration}
use Rattle.elm_canon.specs.declared.tree.AliasDeclaration.{AliasDeclaration}
use Rattle.canon_env.specs.Found.{Found, Nothing, One, Several, look}
use Rattle.canon_env.specs.Shown.{TypeMeaning, type_meaning_view}
use Rattle.canon_env.specs.declared.shown.TypeMeaning as program
use Rattle.canon_env.specs.declared.finding.Finding.{Finding}
use Rattle.canon_env.specs.declared.found.Meant.{Meant}
use Rattle.canon_env.specs.Naming.{World, type_found, qualifier_of, own_name}
use Rattle.canon_env.specs.Sites.{TypeUse, faults_at, at_long, type_faults, extension_faults, unless_one}
use Rattle.canon_env.specs.Expanding.{count_of, fill, fill_all, fill_fields, bad_fields, bad_in_all, bad_in_fields}
use Rattle.canon_env.specs.Expanding.{blank, filling, has_arity, applied, applied_to, bad_of_alias}

pub count_list : (us : List plain.Annotation) → count_of (annotations_of us) ≡ length us
count_list [] = refl
count_list (u ∷ us) = ap suc (count_list us)

-- where nothing stands for anything, a type stays as it is
mutual
  pub fill_none : (t : plain.Annotation) → fill [] t ≡ t
  fill_none (plain.Variable a) = refl
  fill_none (plain.NamedType m x ts) = ap (plain.NamedType m x) (fill_none_all ts)
  fill_none (plain.FunctionType t u) =
      ap (λ z. plain.FunctionType z (fill [] u)) (fill_none t) ∙ ap (plain.FunctionType t) (fill_none u)
  fill_none (plain.TupleType ts) = ap plain.TupleType (fill_none_all ts)
  fill_none (plain.RecordType fs) = ap plain.RecordType (fill_none_fields fs)
  fill_none (plain.ExtendedType a fs) = ap (plain.ExtendedType a) (fill_none_fields fs)

  fill_none_all : (ts : plain.Annotations) → fill_all [] ts ≡ ts
  fill_none_all plain.NoAnnotation = refl
  fill_none_all (plain.MoreAnnotation t ts) =
      ap (λ z. plain.MoreAnnotation z (fill_all [] ts)) (fill_none t) ∙ ap (plain.MoreAnnotation t) (fill_none_all ts)

  fill_none_fields : (fs : plain.FieldTypes) → fill_fields [] fs ≡ fs
  fill_none_fields plain.NoFieldType = refl
  fill_none_fields (plain.MoreFieldType x t fs) =
      ap (λ z. plain.MoreFieldType x z (fill_fields [] fs)) (fill_none t)
      ∙ ap (plain.MoreFieldType x t) (fill_none_fields fs)

none_and_none : {A : Type 0} → (xs ys : List A) → xs ≡ [] → ys ≡ [] → xs ++ ys ≡ []
none_and_none xs ys e f = ap (λ z. z ++ ys) e ∙ f

-- and its fields extend what they may
mutual
  pub bad_none : (t : plain.Annotation) → bad_fields [] t ≡ []
  bad_none (plain.Variable a) = refl
  bad_none (plain.NamedType m x ts) = bad_none_all ts
  bad_none (plain.FunctionType t u) = none_and_none (bad_fields [] t) (bad_fields [] u) (bad_none t) (bad_none u)
  bad_none (plain.TupleType ts) = bad_none_all ts
  bad_none (plain.RecordType fs) = bad_none_fields fs
  bad_none (plain.ExtendedType a fs) = bad_none_fields fs

  bad_none_all : (ts : plain.Annotations) → bad_in_all [] ts ≡ []
  bad_none_all plain.NoAnnotation = refl
  bad_none_all (plain.MoreAnnotation t ts) =
      none_and_none (bad_fields [] t) (bad_in_all [] ts) (bad_none t) (bad_none_all ts)

  bad_none_fields : (fs : plain.FieldTypes) → bad_in_fields [] fs ≡ []
  bad_none_fields plain.NoFieldType = refl
  bad_none_fields (plain.MoreFieldType x t fs) =
      none_and_none (bad_fields [] t) (bad_in_fields [] fs) (bad_none t) (bad_none_fields fs)

-- ---- an alias without parameters

none_stand : (names : List Name) (ts : plain.Annotations) → length names ≡ 0 → filling names ts ≡ []
none_stand [] ts none = refl
none_stand (a ∷ names) ts none = cc

pub closed_type : (names : List Name) (ts : plain.Annotations) (t : plain.Annotation) → length names ≡ 0 →
    t ≡ fill (filling names ts) t
closed_type names ts t none = sym (ap (λ s. fill s t) (none_stand names ts none) ∙ fill_none t)

pub closed_faults : (names : List Name) (ts : plain.Annotations) (t : plain.Annotation) (x : Long)
    (old : List Finding) → length names ≡ 0 → old ≡ old ++ extension_faults x (bad_fields (filling names ts) t)
closed_faults names ts t x old none =
    sym (ap (λ bad. old ++ extension_faults x bad) (ap (λ s. bad_fields s t) (none_stand names ts none) ∙ bad_none t)
    ∙ append-nil old)

-- ---- as many arguments as parameters

counted : (us : List Annotation) → count_of (types_view us) ≡ length us
counted us = count_list (map annotation_view us) ∙ length-map us annotation_view

pub right_number : (m : TypeMeaning) (us : List Annotation) → length m.parameters ≡ length us →
    has_arity m (types_view us) ≡ true
right_number m us e = eq-eqb (count_of (types_view us)) (length m.parameters) (counted us ∙ sym e)

pub wrong_number : (m : TypeMeaning) (us : List Annotation) → (length m.parameters ≡ length us → ⊥) →
    has_arity m (types_view us) ≡ false
wrong_number m us wrong =
    ap (λ n. nat_eq n (length m.parameters)) (counted us) ∙ ne_eqb (length us) (length m.parameters) (λ e. wrong (sym e))

-- ---- what a name means with its arguments

pub wrong_means : (x home : Name) (m : TypeMeaning) (ts : plain.Annotations) (t : plain.Annotation) →
    has_arity m ts ≡ false → t ≡ blank → t ≡ applied x (One (record { home = home; meaning = m })) ts
wrong_means x home m ts t wrong e = e ∙ sym (ap (λ b. if b then applied_to home x m ts m.body else blank) wrong)

pub wrong_faults : (x : Long) (m : TypeMeaning) (ts : plain.Annotations) (old new : List Finding) (f : Finding) →
    has_arity m ts ≡ false → new ≡ old ++ f ∷ [] → f ≡ at_long TypeArity x → new ≡ old ++ type_faults x ts m
wrong_faults x m ts old new f wrong e is =
    e ∙ ap (λ g. old ++ g ∷ []) is
    ∙ ap (λ fs. old ++ fs)
    (sym (ap (λ b. if b then extension_faults x (bad_of_alias m ts m.body) else (at_long TypeArity x ∷ [])) wrong))

module _ (x home : Name) (word : Long) (k : program.TypeMeaning) (ts : plain.Annotations) where
  right_means : has_arity (type_meaning_view k) ts ≡ true →
      applied_to home x (type_meaning_view k) ts (type_meaning_view k).body
      ≡ applied x (One (record { home = home; meaning = type_meaning_view k })) ts
  right_means right =
      sym (ap (λ b. if b then applied_to home x (type_meaning_view k) ts (type_meaning_view k).body else blank) right)

  right_faults : has_arity (type_meaning_view k) ts ≡ true →
      extension_faults word (bad_of_alias (type_meaning_view k) ts (type_meaning_view k).body)
      ≡ type_faults word ts (type_meaning_view k)
  right_faults right =
      sym (ap (λ b. if b then extension_faults word (bad_of_alias (type_meaning_view k) ts (type_meaning_view k).body) else (at_long TypeArity word ∷ [])) right)

  pub union_means : (u : Arc UnionDeclaration Global) (t : plain.Annotation) → k ≡ program.TypeMeaning.Union u →
      has_arity (type_meaning_view k) ts ≡ true → t ≡ plain.NamedType home x ts →
      t ≡ applied x (One (record { home = home; meaning = type_meaning_view k })) ts
  union_means u t is right e =
      e
      ∙ sym (ap (λ j. applied_to home x (type_meaning_view j) ts (type_meaning_view j).body) is)
      ∙ right_means right

  pub union_faults : (u : Arc UnionDeclaration Global) (old : List Finding) → k ≡ program.TypeMeaning.Union u →
      has_arity (type_meaning_view k) ts ≡ true → old ≡ old ++ type_faults word ts (type_meaning_view k)
  union_faults u old is right =
      sym (append-nil old)
      ∙ ap (λ fs. old ++ fs)
      (sym (ap (λ j. extension_faults word (bad_of_alias (type_meaning_view j) ts (type_meaning_view j).body)) is)
      ∙ right_faults right)

  pub alias_means : (a : Arc AliasDeclaration Global) (d : AliasDeclaration) (t : plain.Annotation) →
      k ≡ program.TypeMeaning.Alias a → d ≡ a.value → has_arity (type_meaning_view k) ts ≡ true →
      t ≡ fill (filling d.parameters.items ts) (annotation_view d.body) →
      t ≡ applied x (One (record { home = home; meaning = type_meaning_view k })) ts
  alias_means a d t is same right e =
      e ∙ ap (λ b. fill (filling b.parameters.items ts) (annotation_view b.body)) same
      ∙ sym (ap (λ j. applied_to home x (type_meaning_view j) ts (type_meaning_view j).body) is)
      ∙ right_means right

  pub alias_faults : (a : Arc AliasDeclaration Global) (d : AliasDeclaration) (old new : List Finding) →
      k ≡ program.TypeMeaning.Alias a → d ≡ a.value → has_arity (type_meaning_view k) ts ≡ true →
      new ≡ old ++ extension_faults word (bad_fields (filling d.parameters.items ts) (annotation_view d.body)) →
      new ≡ old ++ type_faults word ts (type_meaning_view k)
  alias_faults a d old new is same right e =
      e
      ∙ ap (λ b. old ++ extension_faults word (bad_fields (filling b.parameters.items ts) (annotation_view b.body))) same
      ∙ ap (λ fs. old ++ fs)
      (sym (ap (λ j. extension_faults word (bad_of_alias (type_meaning_view j) ts (type_meaning_view j).body)) is)
      ∙ right_faults right)

-- ---- the faults of a use

pub found : (w : World) (x : Long) (f : Found TypeMeaning) (q n : Name) →
    f ≡ look w.own.types w.imported.types q n → q ≡ qualifier_of x → n ≡ own_name x → f ≡ type_found w x
found w x f q n is eq en =
    is ∙ ap (λ p. look w.own.types w.imported.types p n) eq
    ∙ ap (λ m. look w.own.types w.imported.types (qualifier_of x) m) en

module _ (w : World) (x : Long) (ts : plain.Annotations) (old new : List Finding) where
  faults_by : (f : Found TypeMeaning) → f ≡ type_found w x →
      old ++ unless_one UnknownType x f (type_faults x ts) ≡ old ++ faults_at w (TypeUse x ts)
  unfolding faults_at
  faults_by f is = ap (λ g. old ++ unless_one UnknownType x g (type_faults x ts)) is

  pub nothing_faults : (f : Finding) → Nothing ≡ type_found w x → new ≡ old ++ f ∷ [] → f ≡ at_long UnknownType x →
      new ≡ old ++ faults_at w (TypeUse x ts)
  nothing_faults f is e what = e ∙ ap (λ g. old ++ g ∷ []) what ∙ faults_by Nothing is

  pub several_faults : (f : Finding) → Several ≡ type_found w x → new ≡ old ++ f ∷ [] → f ≡ at_long Ambiguous x →
      new ≡ old ++ faults_at w (TypeUse x ts)
  several_faults f is e what = e ∙ ap (λ g. old ++ g ∷ []) what ∙ faults_by Several is

  pub one_faults : (m : Meant TypeMeaning) → One m ≡ type_found w x → new ≡ old ++ type_faults x ts m.meaning →
      new ≡ old ++ faults_at w (TypeUse x ts)
  one_faults m is e = e ∙ faults_by (One m) is

-- what holds without a value holds where there is one
pub on_ok : {T E P : Type 0} → (r : Result T E) → P → OnOk r P
on_ok (Ok x) p = p
on_ok (Err e) p = tt

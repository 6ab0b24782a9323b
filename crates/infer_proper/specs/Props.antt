-- Each of these facts has one proof at most, so that it can be a fact that a value keeps.
use Rattle.std.specs.Prelude.{◌≡◌, ℕ, List, [], ◌∷◌, length, true, Some}
use Rattle.std.specs.Coded.{×_prop, Unit-prop, le_prop, Π_prop}
use Rattle.std.specs.List.{AllByRecursion, AllByRecursion-prop}
use Rattle.std.proofs.Props.{props}
use Rattle.elm_canon.specs.Names.{Name}
use Rattle.elm_canon.specs.Unions.{Union}
use Rattle.elm_canon.specs.declared.unions.Alternative.{Alternative}
use Rattle.elm_canon.specs.Tree.{Annotation, Variable, NamedType, FunctionType, TupleType, RecordType, ExtendedType}
use Rattle.elm_canon.specs.Tree.{Annotations, NoAnnotation, MoreAnnotation, FieldTypes, NoFieldType, MoreFieldType}
use Rattle.elm_canon.specs.Tree.{field_names, UnionDeclaration, AliasDeclaration}
use Rattle.elm_canon.specs.Spelled.{are_fields}
use Rattle.elm_canon.specs.Constructors.{is_constructor}
use Rattle.elm_type.specs.Types.{Leaf, Free, Fixed, Kind, Scheme, variables}
use Rattle.canon_env.specs.Env.{Known, declared_alternatives}
use Rattle.canon_env.specs.Shown.{Shown}
use Rattle.canon_proper.specs.Rows.{AreConstructors, AreUnions}
use Rattle.module_proper.specs.Records.{HasRecords, AllHaveRecords, FieldsHaveRecords, AliasesHaveRecords}
use Rattle.interface.specs.Interface.{Interface}
use Rattle.type_items.specs.Principal.{is_formed}
use Rattle.infer_steps.specs.Ready.{IsBelow, IsWritten}
use Rattle.infer.specs.Known.{Typed, offered, OfferedWritten}
use Rattle.module_made.specs.Around.{Around, home_of}
use Rattle.infer_proper.specs.Sound.{SoundInterface, AreSound, IsOpaque, AreOpaque, ShowsTypes, ShowTypes, IsSound}

-- ---- types that can be written

IsBelow-prop : (n : ℕ) (l : Leaf ℕ) → IsProp (IsBelow n l)
IsBelow-prop n (Free i) = le_prop
IsBelow-prop n (Fixed r) = Prim.hlevel props

IsWritten-prop : (kinds : List Kind) (s : Scheme) → IsProp (IsWritten kinds s)
IsWritten-prop kinds s x y =
    let below_prop : IsProp (AllByRecursion (IsBelow (length kinds)) (variables s.type)) =
    AllByRecursion-prop (IsBelow (length kinds)) (IsBelow-prop (length kinds)) (variables s.type) in
    let formed_prop : IsProp (is_formed kinds s.type ≡ true) = Prim.hlevel props in
    λ i. record { below = below_prop x.below y.below i; formed = formed_prop x.formed y.formed i }

OfferedWritten-prop : (home : Name) (i : Interface) → IsProp (OfferedWritten home i)
OfferedWritten-prop home i =
    AllByRecursion-prop (λ (t : Typed). IsWritten t.1.kinds t.1) (λ t. IsWritten-prop t.1.kinds t.1) (offered home i)

-- ---- unions

AreConstructors-prop : (u : Union) (cs : List Alternative) → IsProp (AreConstructors u cs)
AreConstructors-prop u [] = Unit-prop
AreConstructors-prop u (c ∷ cs) =
    let first_prop : IsProp (is_constructor u c ≡ true) = Prim.hlevel props in
    ×_prop first_prop (AreConstructors-prop u cs)

AreUnions-prop : (us : List UnionDeclaration) → IsProp (AreUnions us)
AreUnions-prop [] = Unit-prop
AreUnions-prop (u ∷ us) =
    ×_prop (AreConstructors-prop u.union (declared_alternatives u.union)) (AreUnions-prop us)

-- ---- aliases

mutual
  HasRecords-prop : (t : Annotation) → IsProp (HasRecords t)
  HasRecords-prop (Variable a) = Unit-prop
  HasRecords-prop (NamedType m x ts) = AllHaveRecords-prop ts
  HasRecords-prop (FunctionType t u) = ×_prop (HasRecords-prop t) (HasRecords-prop u)
  HasRecords-prop (TupleType ts) = AllHaveRecords-prop ts
  HasRecords-prop (RecordType fs) =
      let words_prop : IsProp (are_fields (field_names fs) ≡ true) = Prim.hlevel props in
      ×_prop words_prop (FieldsHaveRecords-prop fs)
  HasRecords-prop (ExtendedType a fs) =
      let words_prop : IsProp (are_fields (field_names fs) ≡ true) = Prim.hlevel props in
      ×_prop words_prop (FieldsHaveRecords-prop fs)

  AllHaveRecords-prop : (ts : Annotations) → IsProp (AllHaveRecords ts)
  AllHaveRecords-prop NoAnnotation = Unit-prop
  AllHaveRecords-prop (MoreAnnotation t ts) = ×_prop (HasRecords-prop t) (AllHaveRecords-prop ts)

  FieldsHaveRecords-prop : (fs : FieldTypes) → IsProp (FieldsHaveRecords fs)
  FieldsHaveRecords-prop NoFieldType = Unit-prop
  FieldsHaveRecords-prop (MoreFieldType x t fs) = ×_prop (HasRecords-prop t) (FieldsHaveRecords-prop fs)

AliasesHaveRecords-prop : (ds : List AliasDeclaration) → IsProp (AliasesHaveRecords ds)
AliasesHaveRecords-prop [] = Unit-prop
AliasesHaveRecords-prop (a ∷ ds) = ×_prop (HasRecords-prop a.body) (AliasesHaveRecords-prop ds)

-- ---- interfaces

pub SoundInterface-prop : (home : Name) (i : Interface) → IsProp (SoundInterface home i)
SoundInterface-prop home i x y =
    let written_prop : IsProp (OfferedWritten home i) = OfferedWritten-prop home i in
    let unions_prop : IsProp (AreUnions i.unions) = AreUnions-prop i.unions in
    let aliases_prop : IsProp (AliasesHaveRecords i.aliases) = AliasesHaveRecords-prop i.aliases in
    λ k. record {
      written = written_prop x.written y.written k;
      unions = unions_prop x.unions y.unions k;
      aliases = aliases_prop x.aliases y.aliases k;
    }

-- ---- what a module is compiled in

IsOpaque-prop : (u : UnionDeclaration) → IsProp (IsOpaque u)
IsOpaque-prop u x y =
    let makers_prop : IsProp (length (declared_alternatives u.union) ≡ 0) = Prim.hlevel props in
    let fields_prop : IsProp (length u.fields ≡ 0) = Prim.hlevel props in
    λ k. record { makers = makers_prop x.makers y.makers k; fields = fields_prop x.fields y.fields k }

AreOpaque-prop : (us : List UnionDeclaration) → IsProp (AreOpaque us)
AreOpaque-prop us = AllByRecursion-prop IsOpaque IsOpaque-prop us

ShowsTypes-prop : (s : Shown) → IsProp (ShowsTypes s)
ShowsTypes-prop s x y =
    let values_prop : IsProp (length s.values ≡ 0) = Prim.hlevel props in
    let unions_prop : IsProp (AreOpaque s.unions) = AreOpaque-prop s.unions in
    let aliases_prop : IsProp (length s.aliases ≡ 0) = Prim.hlevel props in
    λ k. record {
      values = values_prop x.values y.values k;
      unions = unions_prop x.unions y.unions k;
      aliases = aliases_prop x.aliases y.aliases k;
    }

pub IsSound-prop : (a : Around) → IsProp (IsSound a)
IsSound-prop a x y =
    let nothing_prop : IsProp ⊥ = Prim.hlevel props in
    let apart_prop : IsProp ((i : Interface) → a.interfaces (home_of a) ≡ Some i → ⊥) =
    Π_prop (λ i. Π_prop (λ e. nothing_prop)) in
    let interfaces_prop : IsProp (AreSound a.interfaces) =
    Π_prop (λ n. Π_prop (λ i. Π_prop (λ e. SoundInterface-prop n i))) in
    let given_prop : IsProp (AreOpaque a.given) = AreOpaque-prop a.given in
    let known_prop : IsProp (ShowTypes a.known) =
    AllByRecursion-prop (λ (k : Known). ShowsTypes k.shown) (λ k. ShowsTypes-prop k.shown) a.known in
    λ k. record {
      apart = apart_prop x.apart y.apart k;
      interfaces = interfaces_prop x.interfaces y.interfaces k;
      given = given_prop x.given y.given k;
      known = known_prop x.known y.known k;
    }

-- Types whose records have words for fields, each once.
use Rattle.std.specs.Prelude.{◌≡◌, List, [], ◌∷◌, true, Option, Some, None}
use Rattle.elm_canon.specs.Tree.{Annotation, Variable, NamedType, FunctionType, TupleType, RecordType, ExtendedType}
use Rattle.elm_canon.specs.Tree.{Annotations, NoAnnotation, MoreAnnotation, FieldTypes, NoFieldType, MoreFieldType}
use Rattle.elm_canon.specs.Tree.{field_names, AliasDeclaration}
use Rattle.elm_tree.specs.Tree.{Long}
use Rattle.elm_canon.specs.Spelled.{are_fields}
use Rattle.canon_env.specs.Env.{Known}
use Rattle.canon_env.specs.Found.{One}
use Rattle.canon_env.specs.Shown.{TypeMeaning}
use Rattle.canon_env.specs.declared.found.Meant.{Meant}
use Rattle.canon_env.specs.Naming.{World, type_found}

abbrev mutual
  pub HasRecords : Annotation → Type 0
  HasRecords (Variable a) = Unit {0}
  HasRecords (NamedType m x ts) = AllHaveRecords ts
  HasRecords (FunctionType t u) = HasRecords t × HasRecords u
  HasRecords (TupleType ts) = AllHaveRecords ts
  HasRecords (RecordType fs) = (are_fields (field_names fs) ≡ true) × FieldsHaveRecords fs
  HasRecords (ExtendedType a fs) = (are_fields (field_names fs) ≡ true) × FieldsHaveRecords fs

  pub AllHaveRecords : Annotations → Type 0
  AllHaveRecords NoAnnotation = Unit {0}
  AllHaveRecords (MoreAnnotation t ts) = HasRecords t × AllHaveRecords ts

  pub FieldsHaveRecords : FieldTypes → Type 0
  FieldsHaveRecords NoFieldType = Unit {0}
  FieldsHaveRecords (MoreFieldType x t fs) = HasRecords t × FieldsHaveRecords fs

-- ---- aliases, which stand for such types

abbrev pub AliasesHaveRecords : List AliasDeclaration → Type 0
AliasesHaveRecords [] = Unit {0}
AliasesHaveRecords (a ∷ ds) = HasRecords a.body × AliasesHaveRecords ds

-- those that imported modules show
abbrev pub ImportsHaveRecords : List Known → Type 0
ImportsHaveRecords [] = Unit {0}
ImportsHaveRecords (k ∷ ks) = AliasesHaveRecords k.shown.aliases × ImportsHaveRecords ks

abbrev pub BodyHasRecords : Option Annotation → Type 0
BodyHasRecords None = Unit {0}
BodyHasRecords (Some t) = HasRecords t

-- those that a module can name
abbrev pub NamesHaveRecords : World → Type 0
NamesHaveRecords w = (x : Long) (m : Meant TypeMeaning) → type_found w x ≡ One m → BodyHasRecords m.meaning.body

-- What a read text guarantees of its declarations: the names that they and their types bind can be spelled, and so can
-- those of their definitions; values have names that begin with a lower-case letter, and constructors with an upper-case
-- one.
use Rattle.std.specs.Prelude.{◌≡◌, List, [], ◌∷◌, Bool, true, false}
use Rattle.elm_tree.specs.Tree.{Word, TypeTree, TypeVariable, TypeName, FunctionType, TupleType, RecordType}
use Rattle.elm_tree.specs.Tree.{ExtendedType, TypeTrees, NoType, MoreType, FieldTypes, NoFieldType, MoreFieldType}
use Rattle.elm_tree.specs.Tree.{ConstructorOf, Definition, Annotate, Define, Destructure}
use Rattle.elm_tree.specs.Tree.{Declaration, Value, Port, Union, Alias}
use Rattle.elm_canon.specs.Names.{Name}
use Rattle.canon_env.specs.Imports.{name_of}
use Rattle.elm_canon.specs.Spelled.{is_upper}
use Rattle.canon_proper.specs.Patterns.{IsSpelledWord, AreSpelledWords}
use Rattle.canon_proper.specs.Written.{IsSpelledDefinition}

-- ---- names that can be spelled

-- the names of variables and of fields
abbrev mutual
  pub IsSpelledType : TypeTree → Type 0
  IsSpelledType (TypeVariable x) = IsSpelledWord x
  IsSpelledType (TypeName x ts) = AreSpelledTypes ts
  IsSpelledType (FunctionType ts) = AreSpelledTypes ts
  IsSpelledType (TupleType ts) = AreSpelledTypes ts
  IsSpelledType (RecordType fs) = AreSpelledFieldTypes fs
  IsSpelledType (ExtendedType x fs) = IsSpelledWord x × AreSpelledFieldTypes fs

  pub AreSpelledTypes : TypeTrees → Type 0
  AreSpelledTypes NoType = Unit {0}
  AreSpelledTypes (MoreType t ts) = IsSpelledType t × AreSpelledTypes ts

  pub AreSpelledFieldTypes : FieldTypes → Type 0
  AreSpelledFieldTypes NoFieldType = Unit {0}
  AreSpelledFieldTypes (MoreFieldType x t fs) = IsSpelledWord x × (IsSpelledType t × AreSpelledFieldTypes fs)

abbrev pub IsSpelledConstructor : ConstructorOf → Type 0
IsSpelledConstructor c = IsSpelledWord c.name × AreSpelledTypes c.fields

abbrev pub AreSpelledConstructors : List ConstructorOf → Type 0
AreSpelledConstructors [] = Unit {0}
AreSpelledConstructors (c ∷ cs) = IsSpelledConstructor c × AreSpelledConstructors cs

abbrev pub IsSpelledDeclaration : Declaration → Type 0
IsSpelledDeclaration (Value d) = IsSpelledDefinition d
IsSpelledDeclaration (Port x t) = IsSpelledWord x × IsSpelledType t
IsSpelledDeclaration (Union x ps cs) = IsSpelledWord x × (AreSpelledWords ps × AreSpelledConstructors cs)
IsSpelledDeclaration (Alias x ps t) = IsSpelledWord x × (AreSpelledWords ps × IsSpelledType t)

abbrev pub AreSpelledDeclarations : List Declaration → Type 0
AreSpelledDeclarations [] = Unit {0}
AreSpelledDeclarations (d ∷ ds) = IsSpelledDeclaration d × AreSpelledDeclarations ds

-- ---- values and constructors, told apart by their first letter

abbrev pub begins_upper : Name → Bool
begins_upper [] = false
begins_upper (u ∷ us) = is_upper u

abbrev pub IsUpper : Word → Type 0
IsUpper x = begins_upper (name_of x) ≡ true

abbrev pub IsLower : Word → Type 0
IsLower x = begins_upper (name_of x) ≡ false

abbrev pub AreUpper : List ConstructorOf → Type 0
AreUpper [] = Unit {0}
AreUpper (c ∷ cs) = IsUpper c.name × AreUpper cs

abbrev pub IsCasedDefinition : Definition → Type 0
IsCasedDefinition (Annotate x t) = Unit {0}
IsCasedDefinition (Define x ps e) = IsLower x
IsCasedDefinition (Destructure p e) = Unit {0}

abbrev pub IsCased : Declaration → Type 0
IsCased (Value d) = IsCasedDefinition d
IsCased (Port x t) = IsLower x
IsCased (Union x ps cs) = AreUpper cs
IsCased (Alias x ps t) = IsUpper x

abbrev pub AreCased : List Declaration → Type 0
AreCased [] = Unit {0}
AreCased (d ∷ ds) = IsCased d × AreCased ds

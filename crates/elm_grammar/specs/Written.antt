-- Written types whose function types have parts, of which the last is the result. (Elm guide: functions.)
use Rattle.std.specs.Prelude.{List}
use Rattle.std.specs.List.{AllByRecursion}
use Rattle.elm_lexer.specs.Tokens.{Token}
use Rattle.elm_tree.specs.Tree as tree
use Rattle.elm_tree.specs.Tree.{TypeTree, TypeVariable, TypeName, FunctionType, TupleType, RecordType, ExtendedType}
use Rattle.elm_tree.specs.Tree.{TypeTrees, NoType, MoreType, FieldTypes, NoFieldType, MoreFieldType, ConstructorOf}
use Rattle.elm_tree.specs.Tree.{Declaration, Value, Port, Union, Alias}
use Rattle.elm_grammar.specs.declared.action.Item.TheVariants as item
use Rattle.elm_grammar.specs.Classes.{classed}
use Rattle.elm_grammar.specs.Table as table
use Rattle.elm_grammar.specs.Values.{One}
use Rattle.elm_grammar.specs.Meaning.{Spells}

abbrev pub AreSome : TypeTrees → Type 0
AreSome NoType = ⊥
AreSome (MoreType t ts) = Unit {0}

abbrev mutual
  pub HasResults : TypeTree → Type 0
  HasResults (TypeVariable a) = Unit {0}
  HasResults (TypeName x ts) = AllHaveResults ts
  HasResults (FunctionType ts) = AreSome ts × AllHaveResults ts
  HasResults (TupleType ts) = AllHaveResults ts
  HasResults (RecordType fs) = FieldsHaveResults fs
  HasResults (ExtendedType a fs) = FieldsHaveResults fs

  pub AllHaveResults : TypeTrees → Type 0
  AllHaveResults NoType = Unit {0}
  AllHaveResults (MoreType t ts) = HasResults t × AllHaveResults ts

  pub FieldsHaveResults : FieldTypes → Type 0
  FieldsHaveResults NoFieldType = Unit {0}
  FieldsHaveResults (MoreFieldType x t fs) = HasResults t × FieldsHaveResults fs

abbrev pub ConstructorHasResults : ConstructorOf → Type 0
ConstructorHasResults c = AllHaveResults c.fields

-- the types of ports, of the fields of constructors, and of what aliases stand for
abbrev pub DeclarationHasResults : Declaration → Type 0
DeclarationHasResults (Value d) = Unit {0}
DeclarationHasResults (Port x t) = HasResults t
DeclarationHasResults (Union x ps cs) = AllByRecursion ConstructorHasResults cs
DeclarationHasResults (Alias x ps t) = HasResults t

abbrev pub DeclarationsHaveResults : List Declaration → Type 0
DeclarationsHaveResults ds = AllByRecursion DeclarationHasResults ds

-- ---- the law

abbrev pub TextsHaveResults : Type 0
TextsHaveResults =
    (tokens : List Token) (m : tree.Module) → Spells tokens table.Module 1 (One item.Module) m (classed tokens)
    → DeclarationsHaveResults m.declarations

-- What a module shows to those that import it, and what its names mean. (Elm guide: modules.) Aliases are expanded in
-- all of it.
use Rattle.std.specs.Prelude.{List, [], Option, Some, None, map}
pub use Rattle.elm_canon.specs.Names.{Name, same_name}
use Rattle.elm_canon.specs.Unions.{Union}
use Rattle.elm_canon.specs.declared.unions.Alternative.{Alternative}
use Rattle.elm_canon.specs.Tree.{Annotation, RecordType, field_names, UnionDeclaration, AliasDeclaration}
use Rattle.elm_canon.specs.View.{union_declaration_view, alias_declaration_view}
use Rattle.std.specs.declared.alloc.Global.{Global}
use Rattle.std.specs.declared.sync.Arc.{Arc}
use Rattle.elm_canon.specs.declared.tree.UnionDeclaration as declared_union
use Rattle.elm_canon.specs.declared.tree.AliasDeclaration as declared_alias
use Rattle.canon_env.specs.declared.shown.Shown as program
use Rattle.canon_env.specs.declared.shown.TypeMeaning as type_meaning
use Rattle.canon_env.specs.declared.shown.MakerMeaning as maker_meaning

-- values, ports among them; unions, of which one that hides its constructors has none; aliases
pub record Shown : Type 0 where
  pub values : List Name
  pub unions : List UnionDeclaration
  pub aliases : List AliasDeclaration

-- declarations that are shared
abbrev pub unions_view : List (Arc declared_union.UnionDeclaration Global) → List UnionDeclaration
unions_view us = map (λ u. union_declaration_view u.value) us

abbrev pub aliases_view : List (Arc declared_alias.AliasDeclaration Global) → List AliasDeclaration
aliases_view ds = map (λ a. alias_declaration_view a.value) ds

abbrev pub shown_view : program.Shown → Shown
shown_view s = record {
  values = s.values.items;
  unions = unions_view s.unions.items;
  aliases = aliases_view s.aliases.items;
}

-- a type: its parameters, and what it stands for where it is an alias
pub record TypeMeaning : Type 0 where
  pub parameters : List Name
  pub body : Option Annotation

-- a constructor: of a union; or of a record's alias, with the fields in written order
pub data MakerMeaning : Type 0 where
  OfUnion : Union → Alternative → MakerMeaning
  OfRecord : List Name → MakerMeaning

abbrev pub union_meaning : UnionDeclaration → TypeMeaning
union_meaning u = record { parameters = u.parameters; body = None }

abbrev pub alias_meaning : AliasDeclaration → TypeMeaning
alias_meaning a = record { parameters = a.parameters; body = Some a.body }

-- the fields of a closed record
abbrev pub fields_of : Annotation → List Name
fields_of (RecordType fs) = field_names fs
fields_of _ = []

abbrev pub record_meaning : AliasDeclaration → MakerMeaning
record_meaning a = OfRecord (fields_of a.body)

abbrev pub type_meaning_view : type_meaning.TypeMeaning → TypeMeaning
type_meaning_view (type_meaning.TypeMeaning.Union u) = union_meaning (union_declaration_view u.value)
type_meaning_view (type_meaning.TypeMeaning.Alias a) = alias_meaning (alias_declaration_view a.value)

abbrev pub maker_meaning_view : maker_meaning.MakerMeaning → MakerMeaning
maker_meaning_view (maker_meaning.MakerMeaning.OfUnion u c) = OfUnion u c
maker_meaning_view (maker_meaning.MakerMeaning.OfRecord a) = record_meaning (alias_declaration_view a.value)

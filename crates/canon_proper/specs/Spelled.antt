-- What a read text guarantees of its module: names of modules can be spelled, so can those that declarations and their
-- definitions bind, the case of a name's first letter tells values from constructors, and unions are small.
use Rattle.std.specs.Prelude.{◌≡◌, ◌<◌, List, [], ◌∷◌, length, Option, Some, None, true, ⊤}
use Rattle.elm_lexer.specs.Tokens.{Token}
use Rattle.elm_tree.specs.Tree as tree
use Rattle.elm_tree.specs.Tree.{Word, Definition, Destructure, ConstructorOf, Declaration, Value, Union}
use Rattle.elm_tree.specs.Tree.{Header, Import}
use Rattle.elm_grammar.specs.declared.action.Item.TheVariants as item
use Rattle.elm_grammar.specs.Classes.{classed}
use Rattle.elm_grammar.specs.Table as table
use Rattle.elm_grammar.specs.Values.{One}
use Rattle.elm_grammar.specs.Meaning.{Spells}
use Rattle.canon_env.specs.Imports.{name_of}
use Rattle.canon_type.specs.Unions.{type_count}
use Rattle.elm_canon.specs.Spelled.{is_module}
use Rattle.canon_proper.specs.Patterns.{IsSpelledWord}
use Rattle.canon_proper.specs.Declared.{AreSpelledDeclarations, AreCased}

-- no pattern stands at the top
abbrev pub HasName : Definition → Type 0
HasName (Destructure p e) = ⊥
HasName _ = ⊤

abbrev pub IsNamed : Declaration → Type 0
IsNamed (Value d) = HasName d
IsNamed _ = ⊤

abbrev pub AreNamed : List Declaration → Type 0
AreNamed [] = ⊤
AreNamed (d ∷ ds) = IsNamed d × AreNamed ds

-- ---- sizes

-- each has fewer than 2 ^ 32 fields
abbrev pub HaveFewFields : List ConstructorOf → Type 0
HaveFewFields [] = ⊤
HaveFewFields (c ∷ cs) = (type_count c.fields < 4294967296) × HaveFewFields cs

-- of a union: fewer than 2 ^ 32 constructors
abbrev pub IsSmall : Declaration → Type 0
IsSmall (Union x ps cs) = (length cs < 4294967296) × HaveFewFields cs
IsSmall _ = ⊤

abbrev pub AreSmall : List Declaration → Type 0
AreSmall [] = ⊤
AreSmall (d ∷ ds) = IsSmall d × AreSmall ds

-- ---- the head

-- upper-case words that points join
abbrev pub NamesModule : Word → Type 0
NamesModule x = is_module true (name_of x) ≡ true

abbrev pub IsSpelledHeader : Option Header → Type 0
IsSpelledHeader None = ⊤
IsSpelledHeader (Some h) = NamesModule h.name

abbrev pub IsSpelledAlias : Option Word → Type 0
IsSpelledAlias None = ⊤
IsSpelledAlias (Some x) = IsSpelledWord x

abbrev pub IsSpelledImport : Import → Type 0
IsSpelledImport i = NamesModule i.name × IsSpelledAlias i.alias

abbrev pub AreSpelledImports : List Import → Type 0
AreSpelledImports [] = ⊤
AreSpelledImports (i ∷ is) = IsSpelledImport i × AreSpelledImports is

-- ---- the module

pub record IsSpelledModule (m : tree.Module) : Type 0 where
  pub header : IsSpelledHeader m.head.header
  pub imports : AreSpelledImports m.head.imports
  pub declarations : AreSpelledDeclarations m.declarations
  pub cased : AreCased m.declarations
  pub named : AreNamed m.declarations
  pub small : AreSmall m.declarations

-- the tokens spell this module, as the grammar has it
abbrev pub SpellModule : List Token → tree.Module → Type 0
SpellModule tokens m = Spells tokens table.Module 1 (One item.Module) m (classed tokens)

-- What a module is compiled in is sound where each interface that it imports is: then it can be inferred if its names
-- have no faults, and its own interface is sound again. (Elm guide: modules.)
use Rattle.std.specs.Prelude.{◌≡◌, List, length, if◌then◌else◌, Some}
use Rattle.std.specs.List.{AllByRecursion}
use Rattle.elm_canon.specs.Names.{Name, same_name}
use Rattle.elm_canon.specs.Tree.{UnionDeclaration}
use Rattle.canon_env.specs.Env.{Known, declared_alternatives}
use Rattle.canon_env.specs.Shown.{Shown}
use Rattle.canon_proper.specs.Rows.{AreUnions}
use Rattle.module_proper.specs.Records.{AliasesHaveRecords}
use Rattle.interface.specs.Interface.{Interface}
use Rattle.infer.specs.Known.{OfferedWritten}
use Rattle.module_offers.specs.Offers.{Interfaces}
use Rattle.module_made.specs.Around.{Around, home_of}

-- ---- interfaces

-- The interface of the module `home`: its types have no constants and can be written into a store, the constructors of
-- its unions are their own, and its aliases stand for types whose records have words for fields, each once.
pub record SoundInterface (home : Name) (i : Interface) : Type 0 where
  pub written : OfferedWritten home i
  pub unions : AreUnions i.unions
  pub aliases : AliasesHaveRecords i.aliases

abbrev pub AreSound : Interfaces → Type 0
AreSound interfaces = (x : Name) (i : Interface) → interfaces x ≡ Some i → SoundInterface x i

-- with the interface of one module more
abbrev pub with_interface : Name → Interface → Interfaces → Interfaces
with_interface home i interfaces x = if same_name home x then Some i else interfaces x

-- ---- types without a text

-- neither constructors nor fields are known
pub record IsOpaque (u : UnionDeclaration) : Type 0 where
  pub makers : length (declared_alternatives u.union) ≡ 0
  pub fields : length u.fields ≡ 0

abbrev pub AreOpaque : List UnionDeclaration → Type 0
AreOpaque us = AllByRecursion IsOpaque us

-- it shows no more than such types
pub record ShowsTypes (s : Shown) : Type 0 where
  pub values : length s.values ≡ 0
  pub unions : AreOpaque s.unions
  pub aliases : length s.aliases ≡ 0

abbrev pub ShowTypes : List Known → Type 0
ShowTypes ks = AllByRecursion (λ k. ShowsTypes k.shown) ks

-- ---- what a module is compiled in

-- No module imports itself. The imports that it has without writing them are of types without a text.
pub record IsSound (a : Around) : Type 0 where
  pub apart : (i : Interface) → a.interfaces (home_of a) ≡ Some i → ⊥
  pub interfaces : AreSound a.interfaces
  pub given : AreOpaque a.given
  pub known : ShowTypes a.known

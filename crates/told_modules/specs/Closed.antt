-- Declared types whose variables are their parameters. (Elm guide: custom types, type aliases.)
use Rattle.std.specs.Prelude.{◌≡◌, List, [], true, Option, Some, None}
use Rattle.std.specs.List.{AllByRecursion}
use Rattle.elm_tree.specs.Tree as tree
use Rattle.elm_tree.specs.Tree.{Long}
use Rattle.elm_canon.specs.Names.{Name}
use Rattle.elm_canon.specs.Tree as canon
use Rattle.elm_canon.specs.Tree.{Annotation, Annotations, UnionDeclaration, AliasDeclaration, PortDeclaration}
use Rattle.type_items.specs.Annotations.{written, written_all}
use Rattle.canon_env.specs.Env.{Known}
use Rattle.canon_env.specs.Exposing.{is_among}
use Rattle.canon_env.specs.Found.{One}
use Rattle.canon_env.specs.Shown.{TypeMeaning}
use Rattle.canon_env.specs.declared.found.Meant.{Meant}
use Rattle.canon_env.specs.Naming.{World, type_found}
use Rattle.canon_module.specs.Resolve.{Setting, IsModule, module_faults, module_shows}
use Rattle.module_proper.specs.Modules.{AreRead}
use Rattle.elm_grammar.specs.Written.{DeclarationsHaveResults}

-- it is one of these names
abbrev pub IsNamed : List Name → Name → Type 0
IsNamed names a = is_among a names ≡ true

-- the variables of a type are among these names
abbrev pub IsClosed : List Name → Annotation → Type 0
IsClosed names t = AllByRecursion (IsNamed names) (written t)

abbrev pub AreClosed : List Name → Annotations → Type 0
AreClosed names ts = AllByRecursion (IsNamed names) (written_all ts)

-- ---- declarations

abbrev pub UnionIsClosed : UnionDeclaration → Type 0
UnionIsClosed u = AllByRecursion (AreClosed u.parameters) u.fields

abbrev pub AliasIsClosed : AliasDeclaration → Type 0
AliasIsClosed a = IsClosed a.parameters a.body

abbrev pub AliasesAreClosed : List AliasDeclaration → Type 0
AliasesAreClosed ds = AllByRecursion AliasIsClosed ds

-- the aliases that imported modules show
abbrev pub ImportsAreClosed : List Known → Type 0
ImportsAreClosed ks = AllByRecursion (λ (k : Known). AliasesAreClosed k.shown.aliases) ks

-- what has no name stands for what has no meaning
abbrev pub PortHasNoBlank : PortDeclaration → Type 0
PortHasNoBlank p = AllByRecursion (λ (a : Name). a ≡ [] → ⊥) (written p.port_type)

-- ---- names of types

abbrev pub BodyIsClosed : List Name → Option Annotation → Type 0
BodyIsClosed names None = Unit {0}
BodyIsClosed names (Some t) = IsClosed names t

-- what a name means, if it is an alias
abbrev pub NameIsClosed : World → Long → Type 0
NameIsClosed w x =
    (m : Meant TypeMeaning) → type_found w x ≡ One m → BodyIsClosed m.meaning.parameters m.meaning.body

-- ---- the law

pub record HasClosedTypes (s : Setting) (t : tree.Module) (m : canon.Module) : Type 0 where
  pub unions : AllByRecursion UnionIsClosed m.unions
  pub aliases : AliasesAreClosed m.aliases
  pub shown : AliasesAreClosed (module_shows s t m).aliases
  pub ports : AllByRecursion PortHasNoBlank m.ports

abbrev pub ModulesAreClosed : Type 0
ModulesAreClosed =
    (s : Setting) (t : tree.Module) (m : canon.Module) → IsModule s t.declarations m → AreRead s.home t.declarations
    → DeclarationsHaveResults t.declarations → ImportsAreClosed s.imports → module_faults s t m ≡ []
    → HasClosedTypes s t m

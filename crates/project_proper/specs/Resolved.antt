-- Modules, resolved one after another without faults, and what a link takes of them.
use Rattle.std.specs.Prelude.{◌≡◌, ℕ, List, [], ◌∷◌, ◌++◌, true, false, Option, Some, ◌⊎◌, map, flat_map, codes}
use Rattle.std.specs.Prelude.{is_some, slice_get}
use Rattle.std.specs.List.{list_any, Contains}
use Rattle.elm_base.specs.Units.{text_units}
use Rattle.elm_tree.specs.Tree as tree
use Rattle.elm_canon.specs.Names.{Name, same_name}
use Rattle.elm_canon.specs.Tree as canon
use Rattle.elm_canon.specs.Tree.{Declaration, UnionDeclaration, AliasDeclaration}
use Rattle.elm_canon.specs.declared.reference.Ref.{Ref}
use Rattle.elm_canon.specs.declared.reference.Ref.TheVariants.{Top}
use Rattle.elm_type.specs.Types.{Scheme}
use Rattle.canon_env.specs.Env.{Known}
use Rattle.canon_env.specs.Exposing.{is_among, is_operator, operator_home}
use Rattle.canon_env.specs.Shown.{Shown}
use Rattle.canon_module.specs.Resolve.{Setting, IsModule, module_faults, module_shows}
use Rattle.elm_canon.specs.Spelled.{is_module}
use Rattle.elm_canon.specs.Proper.{Scope, among, IsIn, with_all}
use Rattle.elm_canon.specs.Declarations.{after_declarations}
use Rattle.canon_proper.specs.Worlds.{operator_ref}
use Rattle.module_proper.specs.Modules.{AreRead, AreBare, value_refs}
use Rattle.link.specs.Cores.{cores_of, without_cores}
use Rattle.link.specs.Made.{refs_used}
use Rattle.emit_size_laws.specs.Small.{NamedProgram}
use Rattle.link.specs.Link.{Output, Links, link}
use Rattle.link.specs.Programs.{Source, part_of, program_of}
use Rattle.project_proper.specs.Modules.{AreProper}

-- a module: its path, what it was resolved against, its tree, what it means, and the type of its `main`, if it has one
pub record Resolved : Type 0 where
  pub path : List ℕ
  pub setting : Setting
  pub written : tree.Module
  pub whole : canon.Module
  pub main : Option Scheme

-- for a link the functions that no text can say stand apart
abbrev pub source_of : Resolved → Source
source_of r = record { path = r.path; cores = cores_of r.whole; tree = without_cores r.whole; main = r.main }

-- the declarations of modules, one module after another
abbrev pub all_declarations : List Resolved → List Declaration
all_declarations rs = flat_map (λ r. r.whole.declarations) rs

-- the scope after modules
abbrev pub scope_after : List Resolved → Scope
scope_after rs = after_declarations (all_declarations rs) []

-- ---- imports

-- it shows no more than types that a module has without a text
abbrev pub ShowsTypes : Shown → Type 0
ShowsTypes s = (s.values ≡ []) × ((s.aliases ≡ []) × AreBare s.unions)

-- what is shown is no more than another thing shows
pub record ShowsWithin (s whole : Shown) : Type 0 where
  pub values : (x : Name) → is_among x s.values ≡ true → is_among x whole.values ≡ true
  pub unions : (u : UnionDeclaration) → Contains s.unions u → Contains whole.unions u
  pub aliases : (a : AliasDeclaration) → Contains s.aliases a → Contains whole.aliases a

-- it is of that module, and shows no more than the module does
abbrev pub IsShownBy : Resolved → Known → Type 0
IsShownBy r k =
    (k.import.home ≡ r.setting.home) × ShowsWithin k.shown (module_shows r.setting r.written r.whole)

-- an import of one of these modules, or of types without a text
abbrev pub IsImport : List Resolved → Known → Type 0
IsImport [] k = ShowsTypes k.shown
IsImport (r ∷ rs) k = IsShownBy r k ⊎ IsImport rs k

abbrev pub AreImports : List Resolved → List Known → Type 0
AreImports before [] = Unit {0}
AreImports before (k ∷ ks) = IsImport before k × AreImports before ks

-- ---- operators

-- no declaration uses the name
abbrev pub IsUnused : Ref → List Declaration → Type 0
IsUnused x [] = Unit {0}
IsUnused x (d ∷ ds) = (among x (refs_used d) ≡ false) × IsUnused x ds

-- the function of an operator is in scope or declared by the module; or it is one of another module, and not used
abbrev pub HasOperator : Scope → Resolved → List ℕ → Type 0
HasOperator scope r op =
    IsIn (operator_ref op) (with_all (value_refs r.setting.home r.written.declarations) scope)
    ⊎ ((same_name (text_units (operator_home op)) r.setting.home ≡ false)
    × IsUnused (operator_ref op) r.whole.declarations)

-- ---- modules

-- a module, resolved after these without faults
pub record IsNext (before : List Resolved) (r : Resolved) : Type 0 where
  pub is : IsModule r.setting r.written.declarations r.whole
  pub read : AreRead r.setting.home r.written.declarations
  pub none : module_faults r.setting r.written r.whole ≡ []
  pub name : is_module true r.setting.home ≡ true
  pub given : AreBare r.setting.given
  pub imports : AreImports before r.setting.imports
  pub operators : (op : List ℕ) → is_operator op ≡ true → HasOperator (scope_after before) r op

abbrev pub AreNext : List Resolved → List Resolved → Type 0
AreNext before [] = Unit {0}
AreNext before (r ∷ rs) = IsNext before r × AreNext (before ++ r ∷ []) rs

-- modules of different names
abbrev pub HomesApart : List Resolved → Type 0
HomesApart [] = Unit {0}
HomesApart (r ∷ rs) = (list_any (λ q. same_name r.setting.home q.setting.home) rs ≡ false) × HomesApart rs

pub record AreResolved (rs : List Resolved) : Type 0 where
  pub apart : HomesApart rs
  pub each : AreNext [] rs

-- then what a link takes of them is proper
abbrev pub ResolvedAreProper : Type 0
ResolvedAreProper = (rs : List Resolved) → AreResolved rs → AreProper (map source_of rs)

-- the entry of a link, one of these modules: a `main` that has a type is one of its values
abbrev pub IsMain : Resolved → Type 0
IsMain r =
    is_some r.main ≡ true →
    IsIn (Top r.setting.home (codes "main")) (value_refs r.setting.home r.written.declarations)

-- then the program that a link without faults makes has proper names
abbrev pub ResolvedLinks : Type 0
ResolvedLinks =
    (rs : List Resolved) (entry : ℕ) (r : Resolved) (o : Output) → AreResolved rs → slice_get rs entry ≡ Some r →
    IsMain r → link (map part_of (map source_of rs)) entry ≡ Links o →
    NamedProgram (program_of (map source_of rs) (source_of r))

-- the values that one of them declares are in the scope after them: functions of operators are, where the core
-- declares them
abbrev pub ValuesInScope : Type 0
ValuesInScope =
    (rs : List Resolved) (i : ℕ) (r : Resolved) (x : Ref) → AreResolved rs → slice_get rs i ≡ Some r →
    IsIn x (value_refs r.setting.home r.written.declarations) → IsIn x (scope_after rs)

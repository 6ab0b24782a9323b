-- The types that a module declares: its unions and aliases, in the world that they make, and their faults. (Elm guide:
-- custom types, type aliases.)
use Rattle.std.specs.Prelude.{◌≡◌, ℕ, List, ◌++◌, map, flat_map}
use Rattle.std.specs.List.{enumerate_from}
use Rattle.elm_tree.specs.Tree.{Declaration}
use Rattle.elm_canon.specs.Names.{Name}
use Rattle.elm_canon.specs.Tree.{AliasDeclaration}
use Rattle.canon_env.specs.Env.{Rows, own_rows}
use Rattle.canon_env.specs.Shown.{Shown}
use Rattle.canon_env.specs.declared.finding.Finding.{Finding}
use Rattle.canon_env.specs.Naming.{World}
use Rattle.canon_env.specs.Sites.{Site, faults_at}
use Rattle.canon_env.specs.Types.{type_sites}
use Rattle.canon_type.specs.Written.{AliasTree, aliases_in, union_names_in}
use Rattle.canon_type.specs.Parameters.{parameter_faults}
use Rattle.canon_type.specs.Recursion.{alias_uses, recursion_faults}
use Rattle.canon_type.specs.Unions.{unions_in, union_of, union_sites}
use Rattle.canon_type.specs.Types.{alias_of}

-- what a module can name that declares all of that
abbrev pub module_world : Name → Rows → Shown → World
module_world home imported s = record { name = home; own = own_rows home s; imported = imported }

-- the aliases that each alias uses
abbrev pub uses_in : List Declaration → List (List ℕ)
uses_in ds = alias_uses (union_names_in ds) (aliases_in ds)

-- aliases in written order, by the aliases that each uses
abbrev pub aliases_of : World → List (List ℕ) → List AliasTree → List AliasDeclaration
aliases_of w uses aliases = map (alias_of w uses) (enumerate_from 0 aliases)

-- the module has the unions and aliases of these declarations, each as it is written; what the names of types mean in
-- one of them, all of them say
pub record AreDeclared (home : Name) (imported : Rows) (ds : List Declaration) (s : Shown) : Type 0 where
  pub unions : s.unions ≡ map (union_of home (module_world home imported s)) (unions_in ds)
  pub aliases : s.aliases ≡ aliases_of (module_world home imported s) (uses_in ds) (aliases_in ds)

-- and has no others
abbrev pub AreAll : Name → Rows → List Declaration → Shown → Type 0
AreAll home imported ds s =
    (other : Shown) → AreDeclared home imported ds other → (other.unions ≡ s.unions) × (other.aliases ≡ s.aliases)

-- ---- faults

abbrev pub alias_sites : World → AliasTree → List Site
alias_sites w a = type_sites w a.body

-- the sites of the types that are written in declarations of types
abbrev pub declared_sites : World → List Declaration → List Site
declared_sites w ds = flat_map (union_sites w) (unions_in ds) ++ flat_map (alias_sites w) (aliases_in ds)

-- of their parameters, of aliases that reach themselves, and at their sites
abbrev pub declared_faults : World → List Declaration → List Finding
declared_faults w ds =
    flat_map parameter_faults ds ++ recursion_faults (union_names_in ds) (aliases_in ds)
    ++ flat_map (faults_at w) (declared_sites w ds)

-- A module on the way to its types.
use Rattle.std.specs.Prelude.{List, [], ◌++◌, None, map, flat_map}
use Rattle.elm_tree.specs.Tree.{Declaration}
use Rattle.elm_canon.specs.Names.{Name}
use Rattle.canon_env.specs.Imports.{name_of}
use Rattle.canon_env.specs.Env.{Rows, own_rows}
use Rattle.canon_env.specs.Shown.{Shown, TypeMeaning}
use Rattle.canon_env.specs.declared.found.Named.{Named}
use Rattle.canon_env.specs.declared.finding.Finding.{Finding}
use Rattle.canon_env.specs.Naming.{World}
use Rattle.canon_env.specs.Sites.{faults_at}
use Rattle.canon_type.specs.Written.{AliasTree, aliases_in, union_names_in}
use Rattle.canon_type.specs.Parameters.{parameter_faults}
use Rattle.canon_type.specs.Recursion.{recursion_faults}
use Rattle.canon_type.specs.Unions.{UnionTree, unions_in, bare_union}
use Rattle.canon_type.specs.CanonAliasesKept.{Setting}
use Rattle.canon_type.specs.DeclaredTypes.{alias_sites, declared_sites}

-- its unions, with their names and parameters alone
abbrev pub bare_shown : Name → List Declaration → Shown
bare_shown home ds = record { values = []; unions = map (bare_union home) (unions_in ds); aliases = [] }

-- what the name of a union means
abbrev pub union_named : UnionTree → Named TypeMeaning
union_named u = record {
  name = name_of u.name;
  meaning = record { parameters = map name_of u.parameters; body = None };
}

abbrev pub setting_of : Name → Rows → List Declaration → Setting
setting_of home imported ds = record {
  home = home;
  base = own_rows home (bare_shown home ds);
  unions = map union_named (unions_in ds);
  imported = imported;
  names = union_names_in ds;
  aliases = aliases_in ds;
}

-- the faults at the sites of an alias
abbrev pub alias_faults : World → AliasTree → List Finding
alias_faults w a = flat_map (faults_at w) (alias_sites w a)

-- the faults that need no world
abbrev pub written_faults : List Declaration → List Finding
written_faults ds = flat_map parameter_faults ds ++ recursion_faults (union_names_in ds) (aliases_in ds)

-- and those at sites
abbrev pub site_faults : World → List Declaration → List Finding
site_faults w ds = flat_map (faults_at w) (declared_sites w ds)

-- with the names of values
abbrev pub with_values : List Name → Shown → Shown
with_values values s = record { values = values; unions = s.unions; aliases = s.aliases }

-- A module of a build: what it declares without a body is known by its name; and what is asked of its declarations.
use Rattle.std.proofs.Common.{◌≡◌, List, [], ◌∷◌, ◌++◌, true, Some, sym, ap, ◌∙◌, subst, if◌then◌else◌}
use Rattle.std.specs.Prelude.{option_map}
use Rattle.std.specs.List.{flat_map}
use Rattle.std.specs.Map.{lookup}
use Rattle.std.specs.Str.{bytes_eq}
use Rattle.elm_tree.specs.Tree as tree
use Rattle.elm_canon.specs.Names.{Name}
use Rattle.elm_canon.specs.Tree as canon
use Rattle.elm_canon.specs.Tree.{Known, Maker, RecordMaker, OutPort, InPort, Declaration, Given, Define}
use Rattle.canon_module.specs.Resolve.{Setting, IsModule, module_faults, heading_faults, world_of}
use Rattle.canon_proper.proofs.Quiet.{append_none}
use Rattle.canon_proper.proofs.Scopes.{name_itself}
use Rattle.canon_env.specs.Naming as naming
use Rattle.canon_type.specs.Parameters.{parameter_faults}
use Rattle.canon_type.specs.Recursion.{recursion_faults}
use Rattle.canon_type.specs.Written.{aliases_in, union_names_in}
use Rattle.canon_env.specs.Sites.{faults_at}
use Rattle.canon_module.specs.CanonValuesFaults.{declaration_faults, value_faults}
use Rattle.canon_type.specs.DeclaredTypes.{declared_faults, declared_sites}
use Rattle.elm_canon.specs.Declarations.{is_proper_known}
use Rattle.emit_size_laws.specs.Small.{HasFields}
use Rattle.module_proper.specs.Modules.{AreRead}
use Rattle.type_items.specs.Annotations.{annotation_scheme}
use Rattle.type_items.specs.Modules.{Annotated, declared, known_in}
use Rattle.type_items.specs.Scopes as scopes
use Rattle.typed_values.specs.World.{World, Among}
use Rattle.type_safety.specs.Modules.{IsTyped}
use Rattle.told_modules.proofs.Once.{declared_once}
use Rattle.build_safety.specs.Compiled.{Compiled, home_of, AreModules}
use Rattle.build_safety.specs.Told.{told}
use Rattle.build_safety.proofs.Among.{is_next}
use Rattle.program_safety.specs.Ports.{IsUnsentMaker}
use Rattle.build_safety.specs.PortWorlds.{Carries}

-- the records that cross a port have words for fields, each once
abbrev pub CrossesFields : Known → Type 0
CrossesFields (Maker c) = Unit {0}
CrossesFields (RecordMaker ks) = Unit {0}
CrossesFields (OutPort port t) = HasFields t
CrossesFields (InPort port t) = HasFields t

-- what has no body has its type, where the world has its port
abbrev pub Wanted : World → scopes.Known → Declaration → Type 0
Wanted w env (Given x k) =
    Carries w.outs w.ins (Given x k) → CrossesFields k → is_proper_known k ≡ true → IsUnsentMaker x k
    → IsTyped w env x k
Wanted w env (Define g) = Unit {0}

module _ (before : List Compiled) (c : Compiled) (after : List Compiled) (all : AreModules (before ++ c ∷ after)) where
  abbrev pub cs : List Compiled
  cs = before ++ c ∷ after

  abbrev pub setting : Setting
  setting = c.resolved.setting

  abbrev pub home : Name
  home = home_of c

  abbrev pub written : tree.Module
  written = c.resolved.written

  abbrev pub whole : canon.Module
  whole = c.resolved.whole

  -- what the module can name
  abbrev pub names : naming.World
  names = world_of setting written.declarations whole

  -- what it knows
  abbrev pub env : scopes.Known
  env = known_in whole (told cs)

  pub is : IsModule setting written.declarations whole
  is = (is_next before c after all).is

  pub read : AreRead home written.declarations
  read = (is_next before c after all).read

  pub no_faults : module_faults setting written whole ≡ []
  no_faults = (is_next before c after all).none

  no_types_faults : (declared_faults names written.declarations ≡ []) × (value_faults names written.declarations ≡ [])
  no_types_faults =
      let types = declared_faults names written.declarations in
      let heading = heading_faults setting written in
      let p = append_none (heading ++ types) (value_faults names written.declarations) no_faults in
      ((append_none heading types p.0).1, p.1)

  -- no alias reaches itself
  pub no_recursion : recursion_faults (union_names_in written.declarations) (aliases_in written.declarations) ≡ []
  no_recursion =
      let ds = written.declarations in
      let parameters = flat_map parameter_faults ds in
      let recursion = recursion_faults (union_names_in ds) (aliases_in ds) in
      let sites = flat_map (faults_at names) (declared_sites names ds) in
      let p = append_none (parameters ++ recursion) sites no_types_faults.0 in
      (append_none parameters recursion p.0).1

  pub no_value_faults : flat_map (declaration_faults names) written.declarations ≡ []
  no_value_faults = (append_none (flat_map (declaration_faults names) written.declarations) _ no_types_faults.1).0

  -- what it declares without a body is known by its name
  pub known_own : (d : Annotated) → Among d (declared whole) → env home d.0 ≡ Some (annotation_scheme d.1)
  known_own d a =
      ap
      (λ b. if b then option_map annotation_scheme (lookup (bytes_eq d.0) (declared whole)) else told cs home d.0)
      (subst (λ h. bytes_eq home h ≡ true) (sym is.name) (name_itself home))
      ∙ ap (option_map annotation_scheme) (declared_once setting written whole is read no_faults d a)

-- A resolved module without faults.
use Rattle.std.proofs.Common.{◌≡◌, List, [], ◌∷◌, ◌++◌, map, Bool, true, false, if◌then◌else◌, None, sym}
use Rattle.std.proofs.Common.{subst}
use Rattle.std.specs.List.{flat_map, filter}
use Rattle.decl_groups.specs.InOrder.{ordered_groups}
use Rattle.elm_tree.specs.Tree as tree
use Rattle.elm_canon.specs.Tree as canon
use Rattle.elm_canon.specs.Tree.{AliasDeclaration}
use Rattle.canon_env.specs.Imports.{exposes_type}
use Rattle.canon_env.specs.Shown.{Shown}
use Rattle.canon_env.specs.Naming.{World}
use Rattle.canon_env.specs.Sites.{faults_at}
use Rattle.canon_type.specs.Written.{aliases_in, union_names_in}
use Rattle.canon_type.specs.Parameters.{parameter_faults}
use Rattle.canon_type.specs.Recursion.{recursion_faults}
use Rattle.canon_type.specs.Unions.{unions_in, union_sites}
use Rattle.canon_expr.specs.Blocks.{reaching_sites}
use Rattle.canon_type.specs.DeclaredTypes.{alias_sites, declared_sites, declared_faults}
use Rattle.canon_module.specs.Items.{items_of, top_used}
use Rattle.canon_module.specs.CanonValuesFaults.{declaration_faults, defined_top, value_faults}
use Rattle.canon_module.specs.Offers.{exposed_by}
use Rattle.canon_module.specs.Resolve.{Setting, IsModule, module_faults, module_shows, heading_faults, declared_by}
use Rattle.canon_module.specs.Resolve.{world_of, makers_in}
use Rattle.elm_canon.specs.Spelled.{are_fields}
use Rattle.elm_canon.specs.Proper.{Scope}
use Rattle.canon_proper.proofs.Quiet.{AreSound, append_none, sound_sites, sound_split}
use Rattle.module_proper.specs.Modules.{IsAround, AreRead}
use Rattle.module_proper.proofs.Resolved.{resolved_proper}
use Rattle.emit_laws.specs.Programs.{in_ports}
use Rattle.emit_size_laws.specs.Small.{PortsHaveFields}
use Rattle.module_proper.specs.Records.{AliasesHaveRecords, ImportsHaveRecords, NamesHaveRecords}
use Rattle.module_proper.proofs.Aliases.{names_well, bodies_well, written_so}
use Rattle.module_proper.proofs.Ports.{items_well, groups_well, ports_more, makers_no_ports, no_ports_well, OwnPorts}
use Rattle.module_proper.proofs.Ports.{ports_own, once}

kept_aliases : (p : AliasDeclaration → Bool) (ds : List AliasDeclaration) → AliasesHaveRecords ds →
    AliasesHaveRecords (filter p ds)
kept_aliases p [] h = tt
kept_aliases p (a ∷ ds) h = by (p a) (kept_aliases p ds h.1)
  where
    by : (b : Bool) → AliasesHaveRecords (filter p ds) → AliasesHaveRecords (if b then a ∷ filter p ds else filter p ds)
    by true rest = (h.0, rest)
    by false rest = rest

module _ (s : Setting) (t : tree.Module) (m : canon.Module) (is : IsModule s t.declarations m)
    (read : AreRead s.home t.declarations) (none : module_faults s t m ≡ []) where
  abbrev w : World
  w = world_of s t.declarations m

  abbrev declared : Shown
  declared = declared_by t.declarations m

  types_none : declared_faults w t.declarations ≡ []
  types_none =
      (append_none (heading_faults s t) (declared_faults w t.declarations)
      (append_none (heading_faults s t ++ declared_faults w t.declarations) (value_faults w t.declarations) none).0).1

  values_none : flat_map (declaration_faults w) t.declarations ≡ []
  values_none =
      (append_none (flat_map (declaration_faults w) t.declarations)
      (flat_map (faults_at w) (reaching_sites (top_used w t.declarations)
      (map defined_top t.declarations)))
      (append_none (heading_faults s t ++ declared_faults w t.declarations) (value_faults w t.declarations) none).1).0

  aliases_sound : AreSound w (flat_map (alias_sites w) (aliases_in t.declarations))
  aliases_sound =
      (sound_split w (flat_map (union_sites w) (unions_in t.declarations))
      (flat_map (alias_sites w) (aliases_in t.declarations))
      (sound_sites w (declared_sites w t.declarations)
      (append_none (flat_map parameter_faults t.declarations
      ++ recursion_faults (union_names_in t.declarations) (aliases_in t.declarations))
      (flat_map (faults_at w) (declared_sites w t.declarations)) types_none).1)).1

  module _ (imports : ImportsHaveRecords s.imports) where
    names : NamesHaveRecords w
    names =
        names_well s.home s.imports t.declarations declared is.types imports
        (written_so w t.declarations read.spelled aliases_sound)

    pub payloads_well : PortsHaveFields m.declarations
    payloads_well =
        subst PortsHaveFields (sym is.declarations)
        (ports_more (flat_map (makers_in s.home) t.declarations) _
        (no_ports_well (flat_map (makers_in s.home) t.declarations) (makers_no_ports s.home t.declarations))
        (groups_well (items_of w None t.declarations)
        (items_well w names None t.declarations read.spelled values_none)
        (ordered_groups (top_used w t.declarations))))

    pub shown_well : AliasesHaveRecords (module_shows s t m).aliases
    shown_well =
        kept_aliases (λ (a : AliasDeclaration). exposes_type (exposed_by t.head.header) a.name) m.aliases
        (bodies_well s.home s.imports t.declarations declared is.types imports
        (written_so w t.declarations read.spelled aliases_sound))

  pub names_once : (scope : Scope) → IsAround s.home s.imports t.declarations scope →
      are_fields (in_ports m.declarations) ≡ true
  names_once scope a =
      once s.home m.declarations scope
      (subst (OwnPorts s.home) (sym is.declarations)
      (ports_own w t.declarations (ordered_groups (top_used w t.declarations))))
      (resolved_proper s t m scope is a read none)

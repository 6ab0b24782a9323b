-- The types that a module declares, once its aliases are declared.
use Rattle.std.proofs.Common.{◌≡◌, ℕ, List, ◌++◌, map, refl, sym, ap, ◌∙◌, append_assoc}
use Rattle.std.specs.Prelude.{flat_map, filter_map}
use Rattle.std.specs.List.{enumerate_from}
use Rattle.std.proofs.lemmas.Grind.{flat_map-append}
use Rattle.elm_tree.specs.Tree.{Declaration, Long}
use Rattle.elm_canon.specs.Names.{Name}
use Rattle.canon_env.specs.Env.{Rows}
use Rattle.canon_env.specs.Shown.{Shown}
use Rattle.canon_env.specs.declared.env.World as env
use Rattle.canon_env.specs.declared.finding.Finding.{Finding}
use Rattle.canon_env.specs.Naming.{World}
use Rattle.canon_env.specs.Sites.{faults_at}
use Rattle.canon_type.specs.Written.{aliases_in}
use Rattle.canon_type.specs.Unions.{union_of, unions_in, union_sites, union_faults}
use Rattle.canon_type.specs.Types.{alias_of}
use Rattle.canon_type.specs.CanonAliasesKept.{Made, made_view, world_with, AreExpanded}
use Rattle.canon_type.proofs.Agreeing.{Same}
use Rattle.canon_type.specs.DeclaredTypes.{module_world, uses_in, aliases_of, AreDeclared, alias_sites, declared_sites}
use Rattle.canon_type.specs.DeclaredTypesKept.{setting_of, alias_faults, site_faults}
use Rattle.canon_type.proofs.Carrying.{map_same, flat_flat, one_union, one_alias, one_faults}
use Rattle.canon_type.proofs.Meaning.{is_setting, all_listed, same_names}

-- the faults at the sites of unions and of aliases
sites_together : (w : World) (ds : List Declaration) →
    flat_map (union_faults w) (unions_in ds) ++ flat_map (alias_faults w) (aliases_in ds)
    ≡ flat_map (faults_at w) (declared_sites w ds)
sites_together w ds =
    ap (λ z. z ++ flat_map (alias_faults w) (aliases_in ds)) (flat_flat (faults_at w) (union_sites w) (unions_in ds))
    ∙ ap (λ z. flat_map (faults_at w) (flat_map (union_sites w) (unions_in ds)) ++ z)
    (flat_flat (faults_at w) (alias_sites w) (aliases_in ds))
    ∙ sym (flat_map-append (faults_at w) (flat_map (union_sites w) (unions_in ds))
    (flat_map (alias_sites w) (aliases_in ds)))

module _ (home : Name) (imported : Rows) (ds : List Declaration) (world : env.World) (made : List Made)
    (h : AreExpanded (setting_of home imported ds) world made) (shown : Shown)
    (unions : shown.unions ≡ map (union_of home (world_with (setting_of home imported ds) h.added)) (unions_in ds))
    (listed : shown.aliases ≡ filter_map made_view made) where
  aliases : shown.aliases ≡ aliases_of (world_with (setting_of home imported ds) h.added) (uses_in ds) (aliases_in ds)
  aliases = listed ∙ all_listed (setting_of home imported ds) (is_setting home imported ds) world made h

  same : (x : Long) → Same (world_with (setting_of home imported ds) h.added) (module_world home imported shown) x
  same x =
      same_names (setting_of home imported ds) (is_setting home imported ds) world made h shown (unions_in ds) refl unions
      aliases x

  pub are_declared : AreDeclared home imported ds shown
  are_declared = record {
    unions =
        unions
        ∙ map_same (union_of home (world_with (setting_of home imported ds) h.added))
        (union_of home (module_world home imported shown))
        (λ u. one_union (world_with (setting_of home imported ds) h.added) (module_world home imported shown) same home u)
        (unions_in ds);
    aliases =
        aliases
        ∙ map_same (alias_of (world_with (setting_of home imported ds) h.added) (uses_in ds))
        (alias_of (module_world home imported shown) (uses_in ds))
        (λ a. one_alias (world_with (setting_of home imported ds) h.added) (module_world home imported shown) same (uses_in ds) a)
        (enumerate_from 0 (aliases_in ds));
  }

  pub are_found : (old us new : List Finding) →
      us ≡ old ++ flat_map (union_faults (world_with (setting_of home imported ds) h.added)) (unions_in ds) →
      new ≡ us ++ flat_map (alias_faults (world_with (setting_of home imported ds) h.added)) (aliases_in ds) →
      new ≡ old ++ site_faults (module_world home imported shown) ds
  are_found old us new a b =
      let w = world_with (setting_of home imported ds) h.added in
      let of_unions = flat_map (union_faults w) (unions_in ds) in
      let of_aliases = flat_map (alias_faults w) (aliases_in ds) in
      b ∙ ap (λ z. z ++ of_aliases) a ∙ append_assoc old of_unions of_aliases
      ∙ ap (λ z. old ++ z) (sites_together w ds ∙ one_faults w (module_world home imported shown) same ds)

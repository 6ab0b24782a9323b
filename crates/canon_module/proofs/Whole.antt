-- A module with its types, its ports and its values.
use Rattle.std.proofs.Common.{◌≡◌, List, ◌++◌, map, sym, ap, ◌∙◌, subst}
use Rattle.std.specs.Prelude.{flat_map}
use Rattle.elm_tree.specs.Tree.{Declaration}
use Rattle.elm_canon.specs.Tree.{Module}
use Rattle.canon_env.specs.Imports.{name_of}
use Rattle.canon_env.specs.Env.{imported_rows}
use Rattle.canon_env.specs.Shown.{Shown}
use Rattle.canon_env.specs.Naming.{World}
use Rattle.canon_module.specs.Names.{Names, names_in}
use Rattle.canon_type.specs.DeclaredTypes.{module_world, AreDeclared, AreAll}
use Rattle.canon_module.specs.Items.{value_groups}
use Rattle.canon_module.specs.Resolve.{Setting, ports_in, makers_in, declared_by, IsModule}

-- all that the module declares, by the names of its values
pub declared_same : (ds : List Declaration) (m : Module) (shown : Shown) (names : Names) → names ≡ names_in ds →
    shown.values ≡ map name_of names.values → m.unions ≡ shown.unions → m.aliases ≡ shown.aliases →
    declared_by ds m ≡ shown
declared_same ds m shown names told values unions aliases =
    λ i. record {
      values = sym (values ∙ ap (λ (n : Names). map name_of n.values) told) i;
      unions = unions i;
      aliases = aliases i;
    }

module _ (s : Setting) (ds : List Declaration) where
  abbrev world_by : Shown → World
  world_by shown = module_world s.home (imported_rows s.imports) shown

  pub is_module : (m : Module) (shown : Shown) → declared_by ds m ≡ shown → m.name ≡ s.home →
      AreDeclared s.home (imported_rows s.imports) ds shown → m.ports ≡ flat_map (ports_in (world_by shown)) ds →
      m.declarations ≡ flat_map (makers_in s.home) ds ++ value_groups (world_by shown) ds → IsModule s ds m
  is_module m shown same name types ports declarations = record {
    name = name;
    types = subst (AreDeclared s.home (imported_rows s.imports) ds) (sym same) types;
    ports = ports ∙ ap (λ z. flat_map (ports_in (world_by z)) ds) (sym same);
    declarations =
        declarations ∙ ap (λ z. flat_map (makers_in s.home) ds ++ value_groups (world_by z) ds) (sym same);
  }

  -- its types are the only ones, and they determine the rest
  pub only_module : (m : Module) (shown : Shown) → declared_by ds m ≡ shown →
      AreAll s.home (imported_rows s.imports) ds shown → IsModule s ds m → (other : Module) → IsModule s ds other →
      other ≡ m
  only_module m shown same all is other h =
      let types = all (declared_by ds other) h.types in
      let declared : declared_by ds other ≡ declared_by ds m =
      λ i. record {
        values = map name_of (names_in ds).values;
        unions = (types.0 ∙ ap (λ (z : Shown). z.unions) (sym same)) i;
        aliases = (types.1 ∙ ap (λ (z : Shown). z.aliases) (sym same)) i;
      } in
      λ i. record {
        name = (h.name ∙ sym is.name) i;
        unions = ap (λ (z : Shown). z.unions) declared i;
        aliases = ap (λ (z : Shown). z.aliases) declared i;
        ports = (h.ports ∙ ap (λ z. flat_map (ports_in (world_by z)) ds) declared ∙ sym is.ports) i;
        declarations =
            (h.declarations ∙ ap (λ z. flat_map (makers_in s.home) ds ++ value_groups (world_by z) ds) declared
            ∙ sym is.declarations) i;
      }

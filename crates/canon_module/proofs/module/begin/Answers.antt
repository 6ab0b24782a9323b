-- The parts, of the declarations of the module.
use Rattle.std.proofs.Common.{◌++◌, map, ap, ◌∙◌, subst}
use Rattle.std.specs.Prelude.{flat_map, option_map}
use Rattle.elm_tree.specs.View as tree_view
use Rattle.elm_tree.specs.Turns.{tokens_view}
use Rattle.canon_env.specs.Env.{imported_rows}
use Rattle.canon_env.specs.Imports.{name_of}
use Rattle.canon_env.specs.Shown.{shown_view}
use Rattle.canon_env.specs.Exposing.{import_faults}
use Rattle.canon_module.specs.Names.{Names, names_in}
use Rattle.canon_module.specs.Faults.{name_faults}
use Rattle.canon_type.specs.DeclaredTypes.{module_world, AreDeclared, AreAll, declared_faults}
use Rattle.canon_module.specs.Resolve.{union_name}
use Rattle.canon_module.specs.Kept.{setting_view}
use Rattle.canon_module.proofs.module.begin.Goals as goal

pub returns : goal.returns
returns c =
    let t = tokens_view c.args.tokens.now in
    let s = setting_view t c.args.setting.now in
    let view = tree_view.declaration_view t in
    let rows = imported_rows s.imports in
    let shown = shown_view c.in_ok-declared.declared.value.shown in
    let w = module_world s.home rows shown in
    let ds = map view c.of-declarations.result in
    let header = option_map (tree_view.header_view t) c.args.parsed.now.head.header in
    let all = c.of-declarations.ensures in
    record {
      values =
          c.in_ok-declared.ensures.values ∙ ap (λ (n : Names). map name_of n.values) (c.in_ok-names.ensures t)
          ∙ ap (λ xs. map name_of (names_in (map view xs)).values) all;
      types = subst (λ xs. AreDeclared s.home rows (map view xs) shown) all c.in_ok-declared.ensures.types;
      all = subst (λ xs. AreAll s.home rows (map view xs) shown) all c.in_ok-declared.ensures.all;
      world = c.in_ok-declared.ensures.world;
      faults =
          c.in_ok-declared.ensures.faults
          ∙ ap (λ z. z ++ declared_faults w ds)
          (c.in_ok-findings.ensures
          ∙ ap (λ n. flat_map import_faults s.written ++ name_faults (map union_name s.given) n header)
          (c.in_ok-names.ensures t))
          ∙ ap (λ xs. flat_map import_faults s.written ++ name_faults (map union_name s.given) (names_in (map view xs)) header
          ++ declared_faults w (map view xs)) all;
    }

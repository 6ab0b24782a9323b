-- The parts, in the world of the module: `is_module`, `only_module`.
use Rattle.std.proofs.Common.{◌≡◌, ◌++◌, Vec, Global, map, refl, sym, ap, ◌∙◌, subst}
use Rattle.std.specs.Prelude.{flat_map, option_map}
use Rattle.elm_tree.specs.View as tree_view
use Rattle.elm_tree.specs.Turns.{tokens_view}
use Rattle.elm_canon.specs.View.{module_view}
use Rattle.canon_env.specs.Env.{imported_rows}
use Rattle.canon_env.specs.Shown.{Shown, shown_view}
use Rattle.canon_env.specs.Naming.{World, IsWorld}
use Rattle.canon_type.specs.declared.declaring.Declared.{Declared}
use Rattle.canon_env.specs.Order.{IsInOrder}
use Rattle.canon_env.specs.declared.finding.Finding.{Finding}
use Rattle.canon_module.specs.Names.{names_in}
use Rattle.canon_module.specs.Items.{value_groups}
use Rattle.canon_module.specs.CanonValuesFaults.{value_faults}
use Rattle.canon_type.specs.DeclaredTypes.{module_world, declared_faults}
use Rattle.canon_module.specs.Offers.{exposed_by, shown_by}
use Rattle.canon_module.specs.Resolve.{ports_in, makers_in, declared_by, heading_faults, module_faults}
use Rattle.canon_module.specs.Kept.{setting_view}
use Rattle.canon_module.proofs.Outcome.{of_made}
use Rattle.canon_module.proofs.Whole.{is_module, only_module, declared_same}
use Rattle.canon_module.proofs.module.resolve.Goals as goal

pub returns-clause-module : goal.returns-clause-module
returns-clause-module c =
    let t = tokens_view c.args.tokens.now in
    let s = setting_view t c.args.setting.now in
    let view = tree_view.declaration_view t in
    let ds = map view c.args.parsed.now.declarations.items in
    let shown = shown_view c.in_ok-begun.begun.declared.value.shown in
    let m = module_view c.whole.result.module in
    let same : declared_by ds m ≡ shown =
    declared_same ds m shown (names_in ds) refl c.in_ok-begun.ensures.values c.whole.ensures.unions
    c.whole.ensures.aliases in
    let w = module_world s.home (imported_rows s.imports) shown in
    let world_is =
    subst (λ (d : Declared). IsWorld d.world w) (sym c.deref.ensures) c.in_ok-begun.ensures.world in
    let is =
    is_module s ds m shown same (c.whole.ensures.name ∙ c.in_ok-name.ensures.cases) c.in_ok-begun.ensures.types
    (c.whole.ensures.ports ∙ c.in_ok-valued.ensures.ports w world_is
    ∙ ap (λ xs. flat_map (ports_in w) (map view xs)) c.of-declarations.ensures)
    (c.whole.ensures.declarations ∙ c.in_ok-valued.ensures.declarations w world_is refl
    ∙ ap (λ xs. flat_map (makers_in s.home) (map view xs) ++ value_groups w (map view xs))
    c.of-declarations.ensures) in
    is

pub returns-clause-one : goal.returns-clause-one
returns-clause-one c =
    let t = tokens_view c.args.tokens.now in
    let s = setting_view t c.args.setting.now in
    let view = tree_view.declaration_view t in
    let ds = map view c.args.parsed.now.declarations.items in
    let shown = shown_view c.in_ok-begun.begun.declared.value.shown in
    let m = module_view c.whole.result.module in
    let same : declared_by ds m ≡ shown =
    declared_same ds m shown (names_in ds) refl c.in_ok-begun.ensures.values c.whole.ensures.unions
    c.whole.ensures.aliases in
    let w = module_world s.home (imported_rows s.imports) shown in
    let world_is =
    subst (λ (d : Declared). IsWorld d.world w) (sym c.deref.ensures) c.in_ok-begun.ensures.world in
    let is =
    is_module s ds m shown same (c.whole.ensures.name ∙ c.in_ok-name.ensures.cases) c.in_ok-begun.ensures.types
    (c.whole.ensures.ports ∙ c.in_ok-valued.ensures.ports w world_is
    ∙ ap (λ xs. flat_map (ports_in w) (map view xs)) c.of-declarations.ensures)
    (c.whole.ensures.declarations ∙ c.in_ok-valued.ensures.declarations w world_is refl
    ∙ ap (λ xs. flat_map (makers_in s.home) (map view xs) ++ value_groups w (map view xs))
    c.of-declarations.ensures) in
    only_module s ds m shown same c.in_ok-begun.ensures.all is

pub returns-clause-shown : goal.returns-clause-shown
returns-clause-shown c =
    let t = tokens_view c.args.tokens.now in
    let s = setting_view t c.args.setting.now in
    let view = tree_view.declaration_view t in
    let ds = map view c.args.parsed.now.declarations.items in
    let shown = shown_view c.in_ok-begun.begun.declared.value.shown in
    let m = module_view c.whole.result.module in
    let same : declared_by ds m ≡ shown =
    declared_same ds m shown (names_in ds) refl c.in_ok-begun.ensures.values c.whole.ensures.unions
    c.whole.ensures.aliases in
    let header = option_map (tree_view.header_view t) c.args.parsed.now.head.header in
    ap shown_view c.whole.ensures.shown
    ∙ of_made (λ x. shown_view x ≡ shown_by (exposed_by header) s.given (shown_view c.deref-2.result.now.shown))
    c.shown_of.result c.in_ok-shown.shown.value c.in_ok-shown.ensures c.shown_of.ensures
    ∙ ap (λ (d : Declared). shown_by (exposed_by header) s.given (shown_view d.shown)) c.deref-2.ensures
    ∙ ap (λ a. shown_by (exposed_by header) s.given a) (sym same)

pub returns-clause-faults : goal.returns-clause-faults
returns-clause-faults c =
    let t = tokens_view c.args.tokens.now in
    let s = setting_view t c.args.setting.now in
    let view = tree_view.declaration_view t in
    let ds = map view c.args.parsed.now.declarations.items in
    let shown = shown_view c.in_ok-begun.begun.declared.value.shown in
    let m = module_view c.whole.result.module in
    let same : declared_by ds m ≡ shown =
    declared_same ds m shown (names_in ds) refl c.in_ok-begun.ensures.values c.whole.ensures.unions
    c.whole.ensures.aliases in
    let w = module_world s.home (imported_rows s.imports) shown in
    let world_is =
    subst (λ (d : Declared). IsWorld d.world w) (sym c.deref.ensures) c.in_ok-begun.ensures.world in
    let parsed = tree_view.module_view t c.args.parsed.now in
    let world : Shown → World = λ a. module_world s.home (imported_rows s.imports) a in
    subst (λ (fs : Vec Finding Global). IsInOrder (module_faults s parsed m) fs.items) (sym c.whole.ensures.faults)
    (subst (λ fs. IsInOrder fs c.in_ok-valued.valued.value.faults.items)
    (ap (λ xs. c.in_ok-begun.begun.findings.items ++ value_faults w (map view xs)) c.of-declarations.ensures
    ∙ ap (λ z. z ++ value_faults w ds) c.in_ok-begun.ensures.faults
    ∙ ap (λ a. heading_faults s parsed ++ declared_faults (world a) ds ++ value_faults (world a) ds) (sym same))
    (c.in_ok-valued.ensures.faults w world_is refl))

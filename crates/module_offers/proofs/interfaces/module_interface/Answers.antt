-- The set of names passes what the definition passes: `same_named`.
use Rattle.std.proofs.Common.{◌≡◌, Bool, IfOk, subst, ap, ◌∙◌}
use Rattle.std.specs.Prelude.{◌||◌}
use Rattle.std.specs.List.{list_any}
use Rattle.indexmap.specs.IndexSet.{contains}
use Rattle.elm_canon.specs.Names.{Name, same_name}
use Rattle.elm_canon.specs.View.{module_view}
use Rattle.canon_env.specs.Shown.{shown_view}
use Rattle.interface.specs.Interface.{interface_of}
use Rattle.interface.specs.View.{interface_view}
use Rattle.module_offers.specs.Offers.{is_operator_function, is_offered, module_values, module_interface}
use Rattle.module_offers.proofs.Valuing.{same_named}
use Rattle.module_offers.proofs.interfaces.module_interface.Goals as goal

pub returns : goal.returns
unfolding module_interface
returns g c =
    let m = module_view c.args.module.now in
    let s = shown_view c.args.shown in
    let told = g.T.Told.schemes c.args.told.now in
    let naming = c.in_ok-naming.naming in
    let passes : Name → Bool = λ x. contains same_name naming.shown x || is_operator_function naming.home x in
    let same : (x : Name) → passes x ≡ is_offered m.name s x = λ x.
    ap (λ b. b || is_operator_function naming.home x)
    (c.in_ok-naming.ensures.shown x ∙ ap (list_any (same_name x)) c.deref.ensures.value)
    ∙ ap (λ h. list_any (same_name x) s.values || is_operator_function h x) c.in_ok-naming.ensures.home in
    subst (λ vs. IfOk c.new.result (λ i. interface_view i ≡ interface_of vs s.unions s.aliases))
    (c.in_ok-values.ensures ∙ same_named passes (is_offered m.name s) same (module_values m told)) c.new.ensures

use Rattle.std.proofs.Common.{subst}
use Rattle.elm_tree.specs.Turns.{tokens_view}
use Rattle.elm_tree.specs.View as tree_view
use Rattle.canon_module.specs.Kept.{setting_view}
use Rattle.module_compile.specs.Settings.{parsed_view, IsResolved}
use Rattle.module_compile.proofs.Outcome.{in_box, of_three}
use Rattle.module_compile.proofs.setting.resolved_in.Goals as goal

pub returns : goal.returns
returns c =
    let p = c.args.parsed.now in
    let s = c.args.setting.now in
    in_box (λ b. b.value) (IsResolved (setting_view (tokens_view p.tokens.items) s) (parsed_view p)) c.boxed.result
    c.resolve.result c.boxed.ensures
    (of_three _ _ _ _ c.resolve.result
    (λ r is shown faults.
    subst (λ ts. IsResolved (setting_view (tokens_view ts) s) (tree_view.module_view (tokens_view ts) p.module) r)
    c.deref.ensures.value
    (record { module_is = is; shown = shown; faults = faults }))
    c.resolve.ensures.module c.resolve.ensures.shown c.resolve.ensures.faults)

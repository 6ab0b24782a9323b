-- The fault of one entry more: `flat_next`.
use Rattle.std.proofs.Common.{◌++◌, false, take, map, get_or, sym, ap, ◌∙◌, append_assoc}
use Rattle.std.specs.List.{flat_map}
use Rattle.std.proofs.lemmas.List.{get_or_default}
use Rattle.elm_tree.specs.View.{exposed_view}
use Rattle.elm_tree.specs.Turns.{tokens_view}
use Rattle.elm_tree.specs.declared.tree.Exposed.{Exposed}
use Rattle.canon_env.proofs.Filtering.{flat_next}
use Rattle.canon_module.specs.Faults.{export_fault}
use Rattle.canon_module.proofs.exports.Declared.push_faults.Goals as goal

pub loop-entry-preserved : goal.loop-entry-preserved
loop-entry-preserved c = λ given n h.
    let view = exposed_view (tokens_view c.args.tokens.now) in
    let fault = export_fault given n in
    let entries = c.args.entries.now in
    let i = c.loop-entry.entry-index in
    let none : Exposed = record { name = record { index = 0 }; is_open = false } in
    let x = get_or entries i none in
    let before = flat_map fault (map view (take i entries)) in
    c.in_ok-push_fault.ensures given n h
    ∙ ap (λ fs. fs ++ fault (view x)) (c.loop-entry.invariant given n h)
    ∙ append_assoc c.args.findings.now.items before (fault (view x))
    ∙ ap (λ fs. c.args.findings.now.items ++ fs)
    (sym (flat_next fault view entries i x c.loop-entry-test.true (get_or_default entries i none x c.loop-entry-test.true)))

-- Lists and filters, one item after the other: `flat_next`.
use Rattle.std.proofs.Common.{◌++◌, false, take, map, get_or, sym, ap, ◌∙◌, append_assoc}
use Rattle.std.specs.List.{flat_map}
use Rattle.std.proofs.lemmas.List.{get_or_default}
use Rattle.elm_tree.specs.View.{exposed_view}
use Rattle.elm_tree.specs.Turns.{tokens_view}
use Rattle.elm_tree.specs.declared.tree.Exposed.{Exposed}
use Rattle.canon_env.specs.Exposing.{entry_faults}
use Rattle.canon_env.proofs.Filtering.{flat_next}
use Rattle.canon_env.proofs.exposing.ShownNames.push_faults.Goals as goal

pub loop-entry-preserved : goal.loop-entry-preserved
loop-entry-preserved c = λ s h.
    let view = exposed_view (tokens_view c.args.tokens.now) in
    let faults = entry_faults c.args.home.now s in
    let entries = c.args.entries.now in
    let i = c.loop-entry.entry-index in
    let none : Exposed = record { name = record { index = 0 }; is_open = false } in
    let x = get_or entries i none in
    let before = flat_map faults (map view (take i entries)) in
    c.in_ok-push_fault.ensures s h
    ∙ ap (λ fs. fs ++ faults (view x)) (c.loop-entry.invariant s h)
    ∙ append_assoc c.args.faults.now.items before (faults (view x))
    ∙ ap (λ fs. c.args.faults.now.items ++ fs)
    (sym (flat_next faults view entries i x c.loop-entry-test.true (get_or_default entries i none x c.loop-entry-test.true)))

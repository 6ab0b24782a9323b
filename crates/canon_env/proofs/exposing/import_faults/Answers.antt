-- Lists and filters, one item after the other: `flat_next`.
use Rattle.std.proofs.Common.{◌++◌, sym, ap, ◌∙◌}
use Rattle.elm_tree.specs.Turns.{tokens_view}
use Rattle.canon_env.specs.Exposing.{import_faults, written_view}
use Rattle.canon_env.proofs.Filtering.{flat_next}
use Rattle.canon_env.proofs.exposing.import_faults.Goals as goal

pub loop-written-preserved : goal.loop-written-preserved
loop-written-preserved c =
    let view = written_view (tokens_view c.args.tokens.now) in
    let x = c.written-item.result in
    c.in_ok-push_import_faults.ensures
    ∙ ap (λ fs. fs ++ import_faults (view x)) c.loop-written.invariant
    ∙ sym (flat_next import_faults view c.args.imports.now c.loop-written.written-index x c.loop-written-test.true
    c.written-item.is)
